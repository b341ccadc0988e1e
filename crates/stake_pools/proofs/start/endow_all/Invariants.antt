use Rattle.stake_pools.proofs.EndowLemmas.{IsOpened}
use Rattle.stake_pools.proofs.start.endow_all.Given as goal

-- the endowments so far are in the books, and were without a fault
abbrev pub invariant-loop-place : goal.invariant-loop-place
invariant-loop-place l = IsOpened l.pool l.endowments l.place l.fn.book l.book
