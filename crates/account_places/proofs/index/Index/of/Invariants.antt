use Rattle.account_places.specs.Index.{Finds}
use Rattle.account_places.proofs.index.Index.of.Given as goal

abbrev pub invariant-loop-place : goal.invariant-loop-place
invariant-loop-place l = Finds l.index.slots.items l.index.count l.index.crowd.entries l.accounts l.place
