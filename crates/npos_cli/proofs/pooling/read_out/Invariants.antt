use Rattle.std.proofs.Common.{◌≡◌}
use Rattle.npos_base.specs.declared.outside.Asked.{Asked}
use Rattle.run_edges.specs.Intake.{StaysSettled, IsTimely}
use Rattle.npos_cli.specs.Pools.{pool_machine}
use Rattle.run_edges.proofs.IntakeLaws.{ahead}
use Rattle.npos_cli.proofs.pooling.read_out.Given as goal

-- what was settled stays so, and no read failed
abbrev pub invariant-pieces : goal.invariant-pieces
invariant-pieces g l = record {
  faults : g.S.Source.faults l.source ≡ g.S.Source.faults l.fn.source;
  timely : (first : Asked) → IsTimely first (g.S.Source.asked l.fn.source) l.fn.intake.ended → IsTimely first (g.S.Source.asked l.source) l.intake.ended;
  settled : StaysSettled pool_machine (g.S.Source.left l.fn.source) (g.S.Source.left l.source) l.fn.intake.ended l.intake.ended;
}

abbrev pub decreases-pieces : goal.decreases-pieces
decreases-pieces g l = ahead l.intake
