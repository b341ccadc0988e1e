use Rattle.std.proofs.Common.{◌≡◌, ◌++◌, take}
use Rattle.std.specs.List.{flat_map}
use Rattle.block_wire.proofs.begun.write_each.Given as goal

-- the items so far were written
abbrev pub invariant-loop-item : goal.invariant-loop-item
invariant-loop-item g l = l.pen ≡ l.initial.pen ++ flat_map g.T.Wire.form.spelling (take l.item-index l.items)
