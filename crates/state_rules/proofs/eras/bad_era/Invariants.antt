use Rattle.state_rules.specs.Eras.{is_bad_era}
use Rattle.state_rules.proofs.ListLemmas.{IsAhead}
use Rattle.state_rules.proofs.eras.bad_era.Given as goal

abbrev pub invariant-loop-place : goal.invariant-loop-place
invariant-loop-place l = IsAhead (is_bad_era l.has_params l.current l.rows) l.eras l.place
