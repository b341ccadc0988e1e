-- There is an account at each place.
use Rattle.std.proofs.Common.{◌∙◌, sym}
use Rattle.voter_lists.specs.Chosen.{chosen_in}
use Rattle.voter_lists.proofs.NamedLemmas.{count_at}
use Rattle.voter_lists.proofs.targets.Targets.len.Goals as goal

pub returns : goal.returns
returns c = c.len.ensures ∙ rw (← c.self.view_is) (sym (count_at c.self.inside.places.now (chosen_in c.self.inside.chosen) c.self.invariant))
