use Rattle.std.proofs.Common.{not, nat_lt}
use Rattle.state_rules.specs.Lists.{follows}
use Rattle.state_rules.proofs.ListLemmas.{IsAhead}
use Rattle.state_rules.proofs.waiting.is_rising_committee.Given as goal

abbrev pub invariant-loop-place : goal.invariant-loop-place
invariant-loop-place l = IsAhead (λ before item. not (follows nat_lt before item)) l.committee l.place
