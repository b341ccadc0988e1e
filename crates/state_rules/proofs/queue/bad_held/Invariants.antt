use Rattle.state_rules.specs.Queue.{is_bad_held}
use Rattle.state_rules.proofs.ListLemmas.{IsAhead}
use Rattle.state_rules.proofs.queue.bad_held.Given as goal

abbrev pub invariant-loop-place : goal.invariant-loop-place
invariant-loop-place l = IsAhead (is_bad_held l.deposit l.queue) l.rows l.place
