use Rattle.std.proofs.Common.{List, sym, subst}
use Rattle.compact_solution.specs.Solution.{Entry, solution_form}
use Rattle.compact_solution.proofs.solution.SolutionWire.write.Goals as goal

pub write_solution-requires : goal.write_solution-requires
write_solution-requires c =
    subst (λ (groups : List (List Entry)). solution_form.in_range groups) (sym c.as_slice.ensures) c.self.invariant
