-- The edges of one voter, and the table of supports by target.
use Rattle.std.specs.Prelude.{◌≡◌, ◌≢◌, ℕ, ◌+◌, ◌^◌, ◌<◌, ◌≤◌, Bool, false, not, ◌||◌, nat_eq, List, [], ◌∷◌, length, map, All, slice_index_or}
use Rattle.std.specs.List.{AllPairs}
use Rattle.npos_base.specs.declared.figures.Edge.{Edge}
use Rattle.weight_book.specs.Weights.{edges_to, amount_sum}
use Rattle.support_balance.specs.Turns.{LiesLow}

abbrev pub at : List ℕ → ℕ → ℕ
at supports target = slice_index_or supports target 0

-- edges to different targets, by rising target, whose amounts the supports count
pub record IsRow (supports : List ℕ) (row : List Edge) : Type 0 where
  pub few : length row ≤ 2 ^ 20
  pub rising : AllPairs (λ one other. one.target < other.target) row
  pub in_range : All (λ edge. edge.target < length supports) row
  pub counted : All (λ edge. edge.amount ≤ at supports edge.target) row
  pub small : (target : ℕ) → at supports target < 2 ^ 100

-- the same edges but for their amounts
pub record AreAlike (old new : List Edge) : Type 0 where
  pub count : length new ≡ length old
  pub voters : (k : ℕ) (d : Edge) → k < length old
      → (slice_index_or new k d).voter ≡ (slice_index_or old k d).voter
  pub targets : (k : ℕ) (d : Edge) → k < length old
      → (slice_index_or new k d).target ≡ (slice_index_or old k d).target

abbrev pub amounts : List Edge → List ℕ
amounts row = map (λ edge. edge.amount) row

-- some number is another one
abbrev pub differs : List ℕ → List ℕ → Bool
differs [] news = false
differs (old ∷ olds) [] = false
differs (old ∷ olds) (new ∷ news) = not (nat_eq new old) || differs olds news

-- the table follows the amounts
pub record AreMoved (old new : List Edge) (supports after : List ℕ) : Type 0 where
  pub count : length after ≡ length supports
  pub moved : (target : ℕ) → at after target + amount_sum (edges_to old target)
      ≡ at supports target + amount_sum (edges_to new target)

-- the stake is given whole, and no unit could lie lower
pub record IsEven (stake : ℕ) (row : List Edge) (supports : List ℕ) : Type 0 where
  pub whole : amount_sum row ≡ stake
  pub level : (i j : ℕ) (d : Edge) → i < length row → j < length row → i ≢ j
      → 0 < (slice_index_or row i d).amount
      → LiesLow (at supports) (slice_index_or row i d).target (slice_index_or row j d).target
