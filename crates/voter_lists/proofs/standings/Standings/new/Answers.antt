-- Nobody has a place.
use Rattle.voter_lists.proofs.MarkLemmas.{beside_none}
use Rattle.voter_lists.proofs.standings.Standings.new.Goals as goal

pub invariant_of-result : goal.invariant_of-result
invariant_of-result c = rw (c.new.ensures, c.new-2.ensures.items) beside_none
