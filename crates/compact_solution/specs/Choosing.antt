-- How edges are chosen one after the other, and what is asked of them.
use Rattle.std.specs.Prelude.{◌≡◌, ℕ, ◌<◌, ◌≤◌, ◌^◌, Bool, false, if◌then◌else◌, List, [], map, length, All, slice_index_or, None}
use Rattle.std.specs.List.{range_with_len}
use Rattle.npos_base.specs.declared.figures.Edge.{Edge}
use Rattle.compact_solution.specs.Solution.{Entry}
use Rattle.compact_solution.specs.Packing.{Choice, has_part, placed, greater, is_kept, stake_at, kept_at}

-- an edge gives something, and no more than the stake
pub record Fits (stake : ℕ) (edge : Edge) : Type 0 where
  pub some : 0 < stake
  pub within : edge.amount ≤ stake

abbrev pub AllFit : List ℕ → List Edge → Type 0
AllFit stakes edges = All (λ edge. Fits (stake_at stakes edge.voter) edge) edges

abbrev pub AllKeptFit : List ℕ → List (List Edge) → Type 0
AllKeptFit stakes kept =
    (voter : ℕ) → voter < length stakes → All (Fits (stake_at stakes voter)) (kept_at kept voter)

abbrev pub no_choice : Choice
no_choice = record { with_part = []; greatest = None }

abbrev pub chosen_next : ℕ → Choice → Edge → Choice
chosen_next stake choice edge = record {
  with_part = if has_part stake edge then placed choice.with_part edge else choice.with_part;
  greatest = greater choice.greatest edge;
}

abbrev pub no_choices : ℕ → List Choice
no_choices count = map (λ voter. no_choice) (range_with_len 0 count)

abbrev pub empty_groups : ℕ → List (List Entry)
empty_groups groups = map (λ group. []) (range_with_len 0 groups)

-- each target that a u16 can name is marked exactly where an edge to it is kept
pub record AreKeptMarks (kept : List (List Edge)) (marks : List Bool) : Type 0 where
  pub count : length marks ≡ 2 ^ 16
  pub are : (target : ℕ) → target < 2 ^ 16 → slice_index_or marks target false ≡ is_kept kept target
