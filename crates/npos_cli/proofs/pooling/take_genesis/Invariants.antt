use Rattle.std.proofs.Common.{◌≡◌, false}
use Rattle.npos_base.specs.declared.outside.Asked.{Asked}
use Rattle.run_edges.specs.Ahead.{HasSeen}
use Rattle.run_edges.specs.Intake.{IsTimely}
use Rattle.run_edges.proofs.IntakeLaws.{ahead}
use Rattle.npos_cli.proofs.pooling.take_genesis.Given as goal

-- all that was seen is held, and no read failed
abbrev pub invariant-pieces : goal.invariant-pieces
invariant-pieces g l = record {
  faults : g.S.Source.faults l.source ≡ g.S.Source.faults l.fn.source;
  timely : (first : Asked) → IsTimely first (g.S.Source.asked l.fn.source) l.fn.intake.ended → IsTimely first (g.S.Source.asked l.source) l.intake.ended;
  at : l.intake.place.at ≡ 0;
  seen : HasSeen (g.S.Source.left l.fn.source) (g.S.Source.left l.source) l.intake.place.rest false l.intake.ended;
}

abbrev pub decreases-pieces : goal.decreases-pieces
decreases-pieces g l = ahead l.intake
