use Rattle.std.proofs.Common.{◌≡◌, ◌++◌, map}
use Rattle.std.specs.Vec.Iter.{into_iter_items}
use Rattle.compact_solution.specs.Packing.{chosen, kept_of}
use Rattle.compact_solution.proofs.choosing.keep.Given as goal

-- what is kept of the choices so far, and what will be of the others
abbrev pub invariant-loop-choice : goal.invariant-loop-choice
invariant-loop-choice l = l.kept.items ++ map chosen (into_iter_items l.choice-iterator) ≡ kept_of l.stakes l.edges
