-- The node is in no bag any more.
use Rattle.std.proofs.Common.{◌≡◌, ◌∙◌, Some, refl, sym, ap}
use Rattle.account_places.specs.Places.{place_in, by_account}
use Rattle.voter_lists.specs.Rings.{list_of}
use Rattle.voter_lists.specs.Nodes.{list_at}
use Rattle.voter_lists.proofs.NodeLemmas.{node_left}
use Rattle.voter_lists.proofs.nodes.Nodes.leave.Goals as goal

pub returns : goal.returns
returns c =
    let old = c.args.self.now in
    let found = c.in-Some.ensures.found in
    let number = c.in-Some.number in
    let place = c.in-Some.place in
    let listed : list_of old.rings place ≡ Some number = sym (ap (list_at old.rings) found.0) ∙ found.1 in
    let moves = c.unlink.ensures.moves in
    let moved = node_left old.rings old.places (place_in (by_account old.places)) old.bags c.requires.standing
    c.unlink.new.self place c.unlink.ensures.fit moves.count moves.limit moves.others c.args.who found.0
    number listed moves.moved c.unlink.ensures.left c.unlink.ensures.others in
    (number, found.1, record { lists = moved.lists; count = refl; homes = moved.homes; standing = moved.standing })
