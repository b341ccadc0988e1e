-- Decoding as a function of bytes.
use Rattle.std.specs.Prelude.{ℕ, List, Result}
use Rattle.scale_wire.specs.declared.fault.WireFault.{WireFault}
use Rattle.scale_wire.specs.WholeReading.{read_as}
use Rattle.compact_solution.specs.Solution.{Entry, solution_form}
use Rattle.compact_solution.specs.SolutionLaws.{solution_laws}

-- the solution that the bytes spell, or where and why they are refused
abbrev pub decoded : List ℕ → Result (List (List Entry)) WireFault
decoded bytes = read_as solution_form solution_laws bytes
