use Rattle.std.proofs.Common.{length}
use Rattle.std.specs.List.{AllByRecursion}
use Rattle.scale_wire.specs.Reading.{Passes}
use Rattle.scale_wire.specs.Composite.{turns_bytes}
use Rattle.scale_wire.proofs.layout.RunOfLayoutList.read.Given as goal

-- the items so far were read, each behind a 1
abbrev pub invariant-loop-items : goal.invariant-loop-items
invariant-loop-items g l =
    Passes (AllByRecursion g.L.Layout.form.in_range l.items.items) (turns_bytes g.L.Layout.form l.items.items) l.initial.here l.here

abbrev pub decreases-loop-items : goal.decreases-loop-items
decreases-loop-items g l = length l.here.rest
