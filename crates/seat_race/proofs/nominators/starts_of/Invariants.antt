use Rattle.std.proofs.Common.{◌≡◌, ◌+◌, length}
use Rattle.seat_race.specs.Tables.{says}
use Rattle.seat_race.proofs.PartLemmas.{AreApart}
use Rattle.seat_race.proofs.nominators.starts_of.Given as goal

-- the starts so far, of which the last is the end of the rooms before it
abbrev pub invariant-loop-size : goal.invariant-loop-size
invariant-loop-size l = (length l.starts.items ≡ l.size-index + 1) × (says l.starts.items l.size-index ≡ l.end) × AreApart l.starts.items l.sizes l.size-index
