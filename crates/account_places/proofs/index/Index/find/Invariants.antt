use Rattle.account_places.proofs.IndexLemmas.{IsPassed}
use Rattle.account_places.proofs.index.Index.find.Given as goal

abbrev pub invariant-loop-slot : goal.invariant-loop-slot
invariant-loop-slot l = IsPassed l.self.slots.items l.accounts l.who l.tag l.first l.slot
