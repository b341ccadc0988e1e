-- The first account of the highest bag that has one.
use Rattle.std.proofs.Common.{◌∙◌, sym, ap, slice_get, take}
use Rattle.voter_lists.specs.BagRows.{falling}
use Rattle.voter_lists.specs.Nodes.{bags_in}
use Rattle.voter_lists.proofs.LinkedLemmas.{walk_is}
use Rattle.voter_lists.proofs.bags.Bags.first.Goals as goal

pub returns : goal.returns
returns c =
    rw (← c.self.view_is)
    (c.first_below.ensures ∙ ap (λ n. slice_get (falling (take n (bags_in c.self.inside.nodes))) 0) c.count.ensures
    ∙ sym (ap (λ accounts. slice_get accounts 0) (walk_is c.self.inside.thresholds c.self.inside.nodes
    c.self.invariant)))
