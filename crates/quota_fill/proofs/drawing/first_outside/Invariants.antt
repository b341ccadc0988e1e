use Rattle.std.proofs.Common.{◌≡◌, []}
use Rattle.seat_race.specs.Tables.{unmarked}
use Rattle.quota_fill.proofs.drawing.first_outside.Given as goal

-- the targets so far are picked
abbrev pub invariant-loop-target : goal.invariant-loop-target
invariant-loop-target l = unmarked l.is_picked l.target ≡ []
