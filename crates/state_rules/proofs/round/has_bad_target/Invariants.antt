use Rattle.state_rules.specs.Rounds.{is_bad_target}
use Rattle.state_rules.proofs.ListLemmas.{IsAhead}
use Rattle.state_rules.proofs.round.has_bad_target.Given as goal

abbrev pub invariant-loop-place : goal.invariant-loop-place
invariant-loop-place l = IsAhead (is_bad_target l.rows) l.targets l.place
