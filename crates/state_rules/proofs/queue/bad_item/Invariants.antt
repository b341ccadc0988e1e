use Rattle.state_rules.specs.Queue.{is_bad_item}
use Rattle.state_rules.proofs.ListLemmas.{IsAhead}
use Rattle.state_rules.proofs.queue.bad_item.Given as goal

abbrev pub invariant-loop-place : goal.invariant-loop-place
invariant-loop-place l =
    IsAhead (is_bad_item l.terms.has_round l.terms.places l.terms.most_bytes l.rows l.terms.next) l.queue l.place
