use Rattle.state_rules.specs.Slashes.{is_bad_slash}
use Rattle.state_rules.proofs.ListLemmas.{IsAhead}
use Rattle.state_rules.proofs.slashes.bad_slash.Given as goal

abbrev pub invariant-loop-place : goal.invariant-loop-place
invariant-loop-place l = IsAhead (is_bad_slash l.terms.era l.terms.defer_eras l.terms.next l.rows) l.slashes l.place
