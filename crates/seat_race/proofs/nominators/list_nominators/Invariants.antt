use Rattle.std.proofs.Common.{◌≡◌, ℕ, ◌<◌, length}
use Rattle.seat_race.specs.Tables.{nominators_before}
use Rattle.seat_race.specs.Parts.{held, AreRooms}
use Rattle.seat_race.proofs.nominators.list_nominators.Given as goal

-- each room holds the nominators among the voters so far
abbrev pub invariant-loop-voter : goal.invariant-loop-voter
invariant-loop-voter l = AreRooms l.rooms.items.items l.rooms.starts.items l.rooms.nexts.items
    × (l.rooms.starts.items ≡ l.fn.rooms.starts.items)
    × (length l.rooms.nexts.items ≡ length l.snapshot.targets)
    × ((target : ℕ) → target < length l.snapshot.targets
    → held l.rooms.items.items l.rooms.starts.items l.rooms.nexts.items target ≡ nominators_before l.snapshot target l.voter)
