-- The walk is over all bags.
use Rattle.std.proofs.Common.{◌∙◌, sym}
use Rattle.voter_lists.proofs.DistinctLemmas.{walk_once}
use Rattle.voter_lists.proofs.WalkLemmas.{walk_falls}
use Rattle.voter_lists.specs.Nodes.{bags_in}
use Rattle.voter_lists.proofs.bags.Bags.walk.Goals as goal

pub returns-clause-accounts : goal.returns-clause-accounts
returns-clause-accounts c = rw (← c.self.view_is) (c.over.ensures ∙ sym (walk_falls 0 (bags_in c.self.inside.nodes)))

pub returns-clause-once : goal.returns-clause-once
returns-clause-once c = rw (← c.self.view_is) (walk_once c.self.inside.thresholds c.self.inside.nodes c.self.invariant)
