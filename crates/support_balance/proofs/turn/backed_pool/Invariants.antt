use Rattle.support_balance.proofs.ScanLemmas.{IsBacked}
use Rattle.support_balance.proofs.turn.backed_pool.Given as goal

-- the pool and the least other base of the edges so far
abbrev pub invariant-loop-edge : goal.invariant-loop-edge
invariant-loop-edge l = IsBacked l.supports l.row l.edge-index l.pool.sum l.pool.count l.pool.highest l.others
