use Rattle.std.proofs.Common.{◌≡◌}
use Rattle.compact_solution.specs.Choosing.{no_choices}
use Rattle.compact_solution.proofs.choosing.no_choices.Given as goal

-- as many as iterations
abbrev pub invariant-loop-count : goal.invariant-loop-count
invariant-loop-count l = l.choices.items ≡ no_choices l.count-index
