use Rattle.std.proofs.Common.{◌≡◌, length}
use Rattle.weight_book.specs.Passing.{prescore}
use Rattle.phragmms_miner.proofs.FewLemmas.{AreTold}
use Rattle.phragmms_miner.proofs.few.fill_few.Given as goal

-- the prescores of the targets so far
abbrev pub invariant-loop-target : goal.invariant-loop-target
invariant-loop-target l = AreTold (prescore l.price l.snapshot l.edges) l.alive l.target-index l.prescores
    × (length l.prescores ≡ length l.snapshot.targets)
