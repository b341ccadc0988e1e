-- Nobody has a role.
use Rattle.voter_lists.proofs.RankedPlaceLemmas.{ranked_nowhere}
use Rattle.voter_lists.proofs.roles.Roles.new.Goals as goal

pub invariant_of-result : goal.invariant_of-result
invariant_of-result c = rw (c.new.ensures, c.new-2.ensures.items) ranked_nowhere
