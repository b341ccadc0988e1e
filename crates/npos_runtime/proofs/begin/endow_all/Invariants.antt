use Rattle.npos_runtime.proofs.Rules.EndowLemmas.{IsOpened}
use Rattle.npos_runtime.proofs.begin.endow_all.Given as goal

-- the endowments so far are in the books, and were without a fault
abbrev pub invariant-loop-place : goal.invariant-loop-place
invariant-loop-place l = IsOpened l.endowments l.place l.fn.book l.book
