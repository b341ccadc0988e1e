-- The edges that give something, in the order of voters and then of targets.
use Rattle.std.specs.Prelude.{◌≡◌, ℕ, Bool, IsTrue, ◌||◌, ◌&&◌, nat_lt, nat_eq, if◌then◌else◌, List, [], ◌∷◌, filter, All, AllPairs}
use Rattle.std.specs.List.{IsDistinct}
use Rattle.std.specs.List.Sorted.{IsPermutation}
use Rattle.npos_base.specs.declared.figures.Edge.{Edge}
use Rattle.npos_base.specs.Edge.{same_pair}
use Rattle.weight_book.specs.Weights.{support}

abbrev pub gives : Edge → Bool
gives edge = nat_lt 0 edge.amount

-- the edge is of an earlier voter, or of the same voter to an earlier target
abbrev pub is_before : Edge → Edge → Bool
is_before a b = nat_lt a.voter b.voter || (nat_eq a.voter b.voter && nat_lt a.target b.target)

-- an edge takes its place among edges in order, ahead of others from its voter to its target
abbrev pub joined : Edge → List Edge → List Edge
joined edge [] = edge ∷ []
joined edge (first ∷ more) =
    if is_before first edge then first ∷ joined edge more else edge ∷ first ∷ more

-- edges from one voter to one target stay as they stood
abbrev pub in_order : List Edge → List Edge
in_order [] = []
in_order (edge ∷ more) = joined edge (in_order more)

abbrev pub kept_edges : List Edge → List Edge
kept_edges edges = in_order (filter gives edges)

-- each edge stands before all behind it
abbrev pub AreRising : List Edge → Type 0
AreRising edges = AllPairs (λ first later. IsTrue (is_before first later)) edges

-- Where no voter gives twice to one target, the edges that are kept rise, and any rearrangement of those
-- that give something is the same as they once it rises. They support each target as before.
pub record StandInOneOrder (edges : List Edge) : Type 0 where
  pub rising : AreRising (kept_edges edges)
  pub given : All (λ edge. IsTrue (gives edge)) (kept_edges edges)
  pub only : (sorted : List Edge) → IsPermutation (filter gives edges) sorted → AreRising sorted
      → sorted ≡ kept_edges edges
  pub supports : (target : ℕ) → support (kept_edges edges) target ≡ support edges target

abbrev pub OneOrderLaw : Type 0
OneOrderLaw = (edges : List Edge) → IsDistinct same_pair edges → StandInOneOrder edges
