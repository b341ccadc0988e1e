use Rattle.seq_phragmen.specs.Kept.{score_by, AreFloors}
use Rattle.seq_phragmen.proofs.TableLemmas.{IsLightestSoFar}
use Rattle.seq_phragmen.proofs.picking.lightest_outside.Given as goal

-- the lightest of the targets so far, and its score, and no floor is too high
abbrev pub invariant-loop-target : goal.invariant-loop-target
invariant-loop-target l = record {
  lightest : IsLightestSoFar (score_by l.seat l.burdens l.approvals) l.is_picked l.target l.best l.least;
  floors : AreFloors (score_by l.seat l.burdens l.approvals) l.is_picked l.floors;
}
