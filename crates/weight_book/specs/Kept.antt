-- How the supports of weights are kept: in a table by target.
use Rattle.std.specs.Prelude.{◌≡◌, ℕ, ◌*◌, ◌^◌, ◌<◌, ◌≤◌, List, length, slice_index_or}
use Rattle.npos_base.specs.declared.figures.Edge.{Edge}
use Rattle.weight_book.specs.Weights.{support}

-- an entry for each target of the election that the weights were made for
pub record AreSupports (edges : List Edge) (supports : List ℕ) : Type 0 where
  pub are_sums : (target : ℕ) → target < length supports
      → slice_index_or supports target 0 ≡ support edges target
  pub bounded : (target : ℕ) → support edges target ≤ length edges * 2 ^ 64
