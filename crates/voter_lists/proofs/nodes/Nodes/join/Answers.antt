-- The node goes to the tail of the bag.
use Rattle.std.proofs.Common.{◌∙◌, ◌<◌, ◌++◌, ◌∷◌, [], ap, arith, get_or, slice_set}
use Rattle.account_places.specs.Places.{place_in, by_account}
use Rattle.voter_lists.proofs.NodeLemmas.{node_joined}
use Rattle.voter_lists.proofs.nodes.Nodes.join.Goals as goal

pub returns-clause-ok : goal.returns-clause-ok
returns-clause-ok c =
    let mid = c.place_for.new.self in
    let who = c.args.who in
    let number = c.args.number in
    let stays = c.place_for.ensures.stays in
    let moves = c.push_back.ensures.moves in
    let within : number < mid.bags = omega (arith, c.requires.within, stays.count) in
    let moved = node_joined mid.rings mid.places (place_in (by_account mid.places)) mid.bags stays.standing
    c.push_back.new.self c.in_ok-place.place c.push_back.ensures.fit moves.count moves.limit moves.others who
    c.in_ok-place.ensures.place
    number within moves.moved c.push_back.ensures.last c.push_back.ensures.others in
    record {
      lists = moved.lists ∙ ap (λ bags. slice_set bags number (get_or bags number [] ++ who ∷ [])) stays.lists;
      count = stays.count;
      homes = record { here = moved.homes.here; others = λ q differ. moved.homes.others q differ ∙ stays.homes q };
      standing = moved.standing;
    }
