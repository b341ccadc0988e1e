use Rattle.std.proofs.Common.{rules}
use Rattle.serde_json.proofs.Views.{view-Array}
use Rattle.bundle_json.proofs.Lists.{length_items}
use Rattle.bundle_json.proofs.item.list_from.Goals as goal

pub returns-then-len-most : goal.returns-then-len-most
returns-then-len-most g c =
    let items = c.in-Array.items in
    rw (c.in-Array.is, view-Array items, length_items items.items) (search rules)

pub returns : goal.returns
returns g c =
    let items = c.in-Array.items in
    rw (c.in-Array.is, view-Array items, length_items items.items) (search rules)
