use Rattle.account_places.specs.Index.{AreTaken}
use Rattle.account_places.proofs.index.Index.free_slot.Given as goal

abbrev pub invariant-loop-slot : goal.invariant-loop-slot
invariant-loop-slot l = AreTaken l.self.slots.items l.first l.slot
