use Rattle.voter_lists.proofs.TakenLemmas.{walked_itself, walk_falls_never_rises, joined_last}
use Rattle.voter_lists.proofs.laws.a_walk_is_made_anew_in_its_order.Goals as goal

pub returns : goal.returns
returns c = record { arranged = walked_itself; falling = walk_falls_never_rises; appends = joined_last }
