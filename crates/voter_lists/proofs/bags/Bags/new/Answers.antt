-- Empty bags have an empty walk, and nobody has a home.
use Rattle.std.proofs.Common.{◌≡◌, ◌∙◌, ◌+◌, [], length, ap, replicate}
use Rattle.account_places.specs.Places.{place_in, by_account}
use Rattle.voter_lists.specs.BagRows.{walk_from}
use Rattle.npos_base.specs.Account.{account_at}
use Rattle.voter_lists.specs.Nodes.{bags_in, list_at}
use Rattle.voter_lists.proofs.ListingLemmas.{empty_homes, empty_walk}
use Rattle.voter_lists.proofs.NodeLemmas.{bags_empty}
use Rattle.voter_lists.proofs.bags.Bags.new.Goals as goal

pub invariant_of-result : goal.invariant_of-result
invariant_of-result c =
    let nodes = c.in_ok-nodes.nodes in
    let empty = bags_empty nodes.rings (account_at nodes.places) nodes.bags c.in_ok-nodes.ensures.bags in
    let count : nodes.bags ≡ length c.args.thresholds + 1 = c.in_ok-nodes.ensures.count ∙ ap (λ n. n + 1) c.len.ensures in
    record {
      homes = empty_homes c.args.thresholds (bags_in nodes) _ c.requires.few c.requires.rising (empty ∙ ap (λ n. replicate n []) count)
          (λ who. ap (λ accounts. list_at nodes.rings (place_in (by_account accounts) who)) c.in_ok-nodes.ensures.homes);
      standing = c.in_ok-nodes.ensures.standing;
      count = count;
    }

pub returns : goal.returns
returns c =
    let nodes = c.in_ok-nodes.nodes in
    ap (λ order. record { thresholds = c.args.thresholds; order = order })
    (ap (walk_from 0) (bags_empty nodes.rings (account_at nodes.places) nodes.bags c.in_ok-nodes.ensures.bags)
    ∙ empty_walk 0 nodes.bags)
