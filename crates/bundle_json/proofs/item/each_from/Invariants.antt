use Rattle.std.proofs.Common.{◌≡◌}
use Rattle.std.specs.Vec.Iter.{into_iter_items}
use Rattle.serde_json.specs.View.{items_view}
use Rattle.bundle_json.specs.Shape.{each}
use Rattle.bundle_json.proofs.Lists.{together}
use Rattle.bundle_json.proofs.item.each_from.Given as goal

-- what was found and what is left stand for the list
abbrev pub invariant-loop-item : goal.invariant-loop-item
invariant-loop-item g l =
    together g.T.Item.read l.found.items (into_iter_items l.item-iterator) ≡ each g.T.Item.read (items_view l.fn.items.items)
