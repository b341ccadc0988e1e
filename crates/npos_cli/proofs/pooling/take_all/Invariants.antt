use Rattle.std.proofs.Common.{◌≡◌, ◌≤◌, ℕ, List, Option, false}
use Rattle.npos_base.specs.declared.outside.Asked.{Asked}
use Rattle.run_edges.specs.Intake.{Comes, IsTimely}
use Rattle.npos_cli.specs.Pooling.{pool_spot}
use Rattle.npos_cli.specs.Pools.{pool_machine}
use Rattle.run_edges.proofs.IntakeLaws.{ahead}
use Rattle.npos_cli.proofs.pooling.take_all.Given as goal

-- whatever led to the start goes on to here, and no read failed
abbrev pub invariant-pieces : goal.invariant-pieces
invariant-pieces g l = record {
  unspent : l.pool.spent ≡ false;
  counted : l.asked ≤ l.intake.place.at;
  faults : g.S.Source.faults l.source ≡ g.S.Source.faults l.fn.source;
  timely : (first : Asked) → IsTimely first (g.S.Source.asked l.fn.source) l.fn.intake.ended → IsTimely first (g.S.Source.asked l.source) l.intake.ended;
  comes : (left : Option (List ℕ)) → Comes pool_machine left (g.S.Source.left l.fn.source) l.fn.intake.ended (pool_spot l.fn.intake.place 0 l.fn.pool.state) l.fn.text.items
      → Comes pool_machine left (g.S.Source.left l.source) l.intake.ended (pool_spot l.intake.place l.asked l.pool.state) l.text.items;
}

abbrev pub decreases-pieces : goal.decreases-pieces
decreases-pieces g l = ahead l.intake
