use Rattle.std.proofs.Common.{◌≡◌, ◌++◌, take}
use Rattle.scale_wire.specs.Composite.{turns_bytes}
use Rattle.scale_wire.proofs.layout.write_turns.Given as goal

-- the items so far were written, each behind a 1
abbrev pub invariant-loop-item : goal.invariant-loop-item
invariant-loop-item g l =
    l.pen ≡ l.initial.pen ++ turns_bytes g.L.Layout.form (take l.item-index l.items)
