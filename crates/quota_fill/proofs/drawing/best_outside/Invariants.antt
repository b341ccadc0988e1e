use Rattle.std.proofs.Common.{Some}
use Rattle.seat_race.specs.Picks.{more}
use Rattle.seat_race.specs.Tables.{says}
use Rattle.seat_race.proofs.TableLemmas.{IsBestSoFar}
use Rattle.quota_fill.proofs.drawing.best_outside.Given as goal

-- the best of the targets so far, and its backing
abbrev pub invariant-loop-target : goal.invariant-loop-target
invariant-loop-target l = IsBestSoFar more (says l.backings) l.is_picked l.target (Some l.best) l.most
