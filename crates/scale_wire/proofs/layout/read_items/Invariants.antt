use Rattle.scale_wire.specs.Composite.{items}
use Rattle.scale_wire.specs.Reading.{IsRead}
use Rattle.scale_wire.proofs.layout.read_items.Given as goal

-- as many items as iterations were read
abbrev pub invariant-loop : goal.invariant-loop
invariant-loop g l = IsRead (items g.L.Layout.form l.counter) l.initial.here l.items.items l.here
