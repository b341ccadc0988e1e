-- The node goes to the tail of another bag.
use Rattle.std.proofs.Common.{Some, refl, sym, subst}
use Rattle.account_places.specs.Places.{place_in, by_account}
use Rattle.voter_lists.specs.Nodes.{bags_in, moved_bags, Becomes}
use Rattle.voter_lists.proofs.NodeLemmas.{node_moved}
use Rattle.voter_lists.proofs.nodes.Nodes.move_to.Goals as goal

pub returns : goal.returns
returns c who there =
    let old = c.args.self.now in
    let relinks = c.relink.ensures.relinks in
    let moved = node_moved old.rings old.places (place_in (by_account old.places)) old.bags c.requires.standing
    c.relink.new.self.rings c.args.place relinks.fit relinks.count relinks.limit relinks.others who there
    c.args.home c.args.number c.requires.listed c.requires.number c.requires.apart relinks in
    subst (λ n. Becomes old n (moved_bags (bags_in old) who c.args.home c.args.number) who (Some c.args.number))
    (sym c.relink.ensures.nodes) record {
      lists = moved.lists;
      count = refl;
      homes = moved.homes;
      standing =
          moved.standing;
    }
