use Rattle.account_places.specs.Index.{AreFilled}
use Rattle.account_places.proofs.index.fill_slots.Given as goal

abbrev pub invariant-loop-slot : goal.invariant-loop-slot
invariant-loop-slot l = AreFilled l.fn.slots.items l.slots.items l.first l.slot
