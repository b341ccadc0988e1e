-- The node goes before another one of its bag.
use Rattle.std.proofs.Common.{◌∙◌, ap, refl}
use Rattle.account_places.specs.Places.{place_in, by_account}
use Rattle.voter_lists.specs.Rings.{before}
use Rattle.voter_lists.proofs.NodeLemmas.{node_before}
use Rattle.voter_lists.proofs.nodes.Nodes.put_before.Goals as goal

pub returns : goal.returns
returns c who lighter there other_there =
    let old = c.args.self.now in
    let moved = node_before old.rings old.places (place_in (by_account old.places)) old.bags c.requires.standing c.put_before.new.self c.args.place
    c.put_before.ensures.fit (c.put_before.ensures.moves.count ∙ c.unlink.ensures.moves.count) (c.put_before.ensures.moves.limit ∙ c.unlink.ensures.moves.limit)
    (λ p other. c.put_before.ensures.moves.others p other ∙ c.unlink.ensures.moves.others p other) who there
    lighter c.args.number c.args.other other_there c.requires.listed c.requires.beside c.put_before.ensures.moves.moved
    (c.put_before.ensures.placed ∙ ap (before c.args.place c.args.other) c.unlink.ensures.left)
    (λ n differ. c.put_before.ensures.others n differ ∙ c.unlink.ensures.others n differ) in
    record { lists = moved.lists; count = refl; homes = moved.homes; standing = moved.standing }
