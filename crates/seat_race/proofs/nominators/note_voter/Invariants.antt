use Rattle.std.proofs.Common.{◌≡◌, ℕ, ◌+◌, ◌<◌, [], ◌∷◌, ◌++◌, cond, length, take}
use Rattle.election_snapshot.specs.Snapshot.{has}
use Rattle.seat_race.specs.Parts.{held, AreRooms}
use Rattle.seat_race.proofs.TableLemmas.{AreChanged}
use Rattle.seat_race.proofs.nominators.note_voter.Given as goal

-- the voter is in the rooms of the votes so far
abbrev pub invariant-loop-vote : goal.invariant-loop-vote
invariant-loop-vote l = AreRooms l.rooms.items.items l.rooms.starts.items l.rooms.nexts.items
    × (l.rooms.starts.items ≡ l.fn.rooms.starts.items)
    × AreChanged (λ next. next + 1) 0 (take l.vote-index l.votes) l.fn.rooms.nexts.items l.rooms.nexts.items
    × ((target : ℕ) → target < length l.fn.rooms.nexts.items → held l.rooms.items.items l.rooms.starts.items l.rooms.nexts.items target
    ≡ cond (has (take l.vote-index l.votes) target) (held l.fn.rooms.items.items l.fn.rooms.starts.items l.fn.rooms.nexts.items target ++ l.voter ∷ [])
    (held l.fn.rooms.items.items l.fn.rooms.starts.items l.fn.rooms.nexts.items target))
