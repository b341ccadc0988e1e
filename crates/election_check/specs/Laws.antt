-- What a Yes says, and what packing has to do with it.
use Rattle.std.specs.Prelude.{◌≡◌, ◌↔◌, ℕ, ◌<◌, List, All, Result, Ok}
use Rattle.npos_base.specs.declared.figures.Score.{Score}
use Rattle.npos_base.specs.declared.figures.Edge.{Edge}
use Rattle.election_snapshot.specs.Snapshot.{Snapshot, IsWellFormed, stakes_of}
use Rattle.weight_book.specs.Weights.{Weights, IsFeasible}
use Rattle.weight_book.specs.Passing.{Passes}
use Rattle.weight_book.specs.Scoring.{score_of}
use Rattle.compact_solution.specs.Solution.{Entry}
use Rattle.compact_solution.specs.Decoded.{decoded}
use Rattle.compact_solution.specs.Packing.{packed, IsPackable}
use Rattle.election_check.specs.declared.verdict.Verdict.TheVariants.{Yes}
use Rattle.election_check.specs.Packed.{expanded, expand_verdict, verdict_packed, weights_decoded}
use Rattle.election_check.specs.Plain.{verdict_plain}

abbrev pub PlainYesIsPassing : Type 0
PlainYesIsPassing = (snapshot : Snapshot) (weights : Weights)
    → (verdict_plain snapshot weights ≡ Yes) ↔ Passes snapshot weights

-- The bytes are a solution whose expanded weights have a plain Yes and the score that is claimed, and
-- these are the weights that are left by the verdict.
pub record IsAccepted (snapshot : Snapshot) (claim : Score) (bytes : List ℕ) : Type 0 where
  pub solution : List (List Entry)
  pub decoded_is : decoded bytes ≡ Ok solution
  pub given_are : weights_decoded snapshot (decoded bytes) ≡ expanded snapshot solution
  pub plain_yes : verdict_plain snapshot (expanded snapshot solution) ≡ Yes
  pub claimed : score_of (expanded snapshot solution) ≡ claim

abbrev pub PackedYesIsAccepting : Type 0
PackedYesIsAccepting = (snapshot : Snapshot) (claim : Score) (bytes : List ℕ)
    → verdict_packed snapshot claim bytes ≡ Yes → IsAccepted snapshot claim bytes

-- the solution that these weights of the election pack to, or the lowest member that would be lost
abbrev pub packed_of : Snapshot → Weights → Result (List (List Entry)) ℕ
packed_of snapshot weights = packed (stakes_of snapshot.voters) weights.committee weights.edges

-- feasible weights that give something along each edge meet what packing asks of them
abbrev pub FeasibleIsPackable : Type 0
FeasibleIsPackable =
    (snapshot : Snapshot) (weights : Weights) → IsWellFormed snapshot → IsFeasible snapshot weights
    → All (λ (edge : Edge). 0 < edge.amount) weights.edges
    → IsPackable (stakes_of snapshot.voters) weights.committee weights.edges

-- feasible weights that lose no member pack to a solution that expands to a Yes
abbrev pub PackedExpands : Type 0
PackedExpands = (snapshot : Snapshot) (weights : Weights) (solution : List (List Entry))
    → IsWellFormed snapshot → IsFeasible snapshot weights
    → packed_of snapshot weights ≡ Ok solution → expand_verdict snapshot solution ≡ Yes
