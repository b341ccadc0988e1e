use Rattle.std.proofs.Common.{◌≡◌, ◌++◌, take}
use Rattle.bundle_json.specs.Text.{tokens_of}
use Rattle.bundle_json.proofs.item.write_items.Given as goal

-- the items so far were written
abbrev pub invariant-loop-item : goal.invariant-loop-item
invariant-loop-item g l =
    (l.out.before ≡ l.initial.out.before)
    × (l.out.tokens ≡ l.initial.out.tokens ++ tokens_of g.T.Item.json (take l.item-index l.items))
