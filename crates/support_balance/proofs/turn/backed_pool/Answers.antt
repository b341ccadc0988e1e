use Rattle.std.proofs.Common.{rules, arith, ◌≡◌, ◌<◌, length, get_or}
use Rattle.support_balance.specs.Rows.{at}
use Rattle.support_balance.proofs.Edges.{no_edge}
use Rattle.support_balance.proofs.ScanLemmas.{backed_taken, backed_kept}
use Rattle.support_balance.proofs.turn.backed_pool.Goals.{then-edge-gt0+in_ok-pool, else-edge-gt0}
use Rattle.support_balance.proofs.turn.backed_pool.Goals as goal

pub loop-edge-preserved : goal.loop-edge-preserved
loop-edge-preserved c =
    let edge = get_or c.args.row.now c.loop-edge.edge-index no_edge in
    let h : c.loop-edge.edge-index < length c.args.row.now = search rules in
    let support_is : c.in_ok-support.support ≡ at c.args.supports.now edge.target = search rules in
    let pool = c.loop-edge.pool in
    elim c.if-edge-gt0.branch [
      | then-edge-gt0+in_ok-pool w ↦
          let taken = backed_taken _ _ _ h pool.sum pool.count pool.highest c.loop-edge.others c.loop-edge.invariant w.max.result w.if-edge-gt0.true
          (omega (arith, w.max.ensures)) (omega (arith, w.max.ensures, support_is)) in
          rw (w.pool-is, w.others-is, w.in_ok-pool.ensures.1, support_is) taken
      | else-edge-gt0 w ↦
          let none : edge.amount ≡ 0 = omega (arith, w.if-edge-gt0.false) in
          rw (w.pool-is, w.others-is) (backed_kept _ _ _ h pool.sum pool.count pool.highest c.loop-edge.others c.loop-edge.invariant w.min-others.result none
          (omega (arith, w.min-others.ensures)) (omega (arith, w.min-others.ensures, support_is, none)))
    ]
