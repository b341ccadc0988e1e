use Rattle.std.proofs.Common.{not}
use Rattle.state_rules.specs.Lists.{follows}
use Rattle.state_rules.specs.Waiting.{edge_below}
use Rattle.state_rules.proofs.ListLemmas.{IsAhead}
use Rattle.state_rules.proofs.waiting.is_rising_edges.Given as goal

abbrev pub invariant-loop-place : goal.invariant-loop-place
invariant-loop-place l = IsAhead (λ before item. not (follows edge_below before item)) l.edges l.place
