use Rattle.std.proofs.Common.{◌≡◌, take}
use Rattle.compact_solution.specs.Packing.{choices_of}
use Rattle.compact_solution.proofs.choosing.choose.Given as goal

-- what the edges so far leave to choose from
abbrev pub invariant-loop-edge : goal.invariant-loop-edge
invariant-loop-edge l = l.choices.items ≡ choices_of l.stakes (take l.edge-index l.edges)
