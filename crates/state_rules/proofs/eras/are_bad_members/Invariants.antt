use Rattle.state_rules.specs.Eras.{is_bad_member}
use Rattle.state_rules.proofs.ListLemmas.{IsAhead}
use Rattle.state_rules.proofs.eras.are_bad_members.Given as goal

abbrev pub invariant-loop-place : goal.invariant-loop-place
invariant-loop-place l = IsAhead (is_bad_member l.rows) l.members l.place
