-- What one voter has left, by its own edges, and what the nominators of a few targets have left.
use Rattle.std.proofs.Common.{◌≡◌, ◌≢◌, ℕ, zero, suc, ◌+◌, ◌-◌, ◌<◌, ◌≤◌, Bool, false, nat_eq, List, [], ◌∷◌, length, take, filter, get_or, set, sum_by, All, inl, inr, refl, sym, ap, ◌∙◌, arith}
use Rattle.std.specs.List.{range_with_len}
use Rattle.std.specs.List.Sorted.{IsNonDecreasingBy}
use Rattle.std.proofs.lemmas.List.{get_or_default, get_or-set_same, get_or-set_other}
use Rattle.std.proofs.lemmas.Bool.{cases_eq, cases_lt, cond-true, cond-false, eq-eqb, ne_eqb}
use Rattle.npos_base.specs.declared.figures.Edge.{Edge}
use Rattle.election_snapshot.specs.Snapshot.{Snapshot, stake_of, nominates}
use Rattle.weight_book.specs.Weights.{edges_from, spent}
use Rattle.weight_book.specs.Passing.{pay, slack, nominators}
use Rattle.weight_book.proofs.SumLemmas.{sum_filter-cons, sum_filter_more, sum_filter-take-le, sum_le}
use Rattle.seat_race.proofs.InLemmas.{all_in, from_filter}
use Rattle.seat_race.proofs.NominatorLemmas.{nominates_in_range}
use Rattle.seat_race.proofs.PaidLemmas.{pay_within}
use Rattle.phragmms_miner.specs.Passes.{AreSpare}

-- in order, no voter stands before a lower one
pub voters_rise : (snapshot : Snapshot) (edges : List Edge) (supports : List ℕ) → AreSpare snapshot edges supports
    → IsNonDecreasingBy (λ (e : Edge). e.voter) edges
voters_rise snapshot edges supports spare i j d l h = elim (cases_lt i j) [
  | inl less ↦ elim (spare.rising i j d less h) [
    | inl v ↦ omega (arith, v)
    | inr t ↦ omega (arith, t.0)
  ]
  | inr more ↦ let same : i ≡ j = omega (arith, l, more) in omega (arith, ap (λ n. (get_or edges n d).voter) same)
]

module _ {X : Type 0} (p : X → Bool) (f : X → ℕ) where
  -- none of the first counts
  none_before : (xs : List X) (i : ℕ) → ((k : ℕ) (d : X) → k < i → k < length xs → p (get_or xs k d) ≡ false) → sum_by f (filter p (take i xs)) ≡ 0
  none_before xs zero fails = refl
  none_before [] (suc i) fails = refl
  none_before (x ∷ xs) (suc i) fails = omega (
    arith,
    sum_filter-cons p f x (take i xs),
    cond-false (p x) (f x) 0 (fails 0 x (omega arith) (omega arith)),
    none_before xs i (λ k d l h. fails (suc k) d (omega (arith, l)) (omega (arith, h))),
  )

  -- none behind the first counts
  none_behind : (xs : List X) (i : ℕ) → ((k : ℕ) (d : X) → i ≤ k → k < length xs → p (get_or xs k d) ≡ false)
      → sum_by f (filter p (take i xs)) ≡ sum_by f (filter p xs)
  none_behind [] zero fails = refl
  none_behind [] (suc i) fails = refl
  none_behind (x ∷ xs) zero fails = omega (
    arith,
    sum_filter-cons p f x xs,
    cond-false (p x) (f x) 0 (fails 0 x (omega arith) (omega arith)),
    none_behind xs zero (λ k d l h. fails (suc k) d (omega arith) (omega (arith, h))),
  )
  none_behind (x ∷ xs) (suc i) fails = omega (
    arith,
    sum_filter-cons p f x (take i xs),
    sum_filter-cons p f x xs,
    none_behind xs i (λ k d l h. fails (suc k) d (omega (arith, l)) (omega (arith, h))),
  )

-- ---- one voter
module _ (price : ℕ) (snapshot : Snapshot) (edges : List Edge) (voter : ℕ) where
  abbrev own : Edge → Bool
  own edge = nat_eq edge.voter voter

  -- what the edges before this place leave to the voter, of which none before stands behind it
  pub record IsWalked (at left : ℕ) : Type 0 where
    pub kept : left + sum_by (pay price edges) (filter own (take at edges)) ≡ stake_of snapshot voter
    pub behind : (k : ℕ) (d : Edge) → at ≤ k → k < length edges → voter ≤ (get_or edges k d).voter
    pub within : at ≤ length edges

  pub walk_start : (at : ℕ) → at ≤ length edges → ((k : ℕ) (d : Edge) → k < at → k < length edges → (get_or edges k d).voter < voter)
      → ((k : ℕ) (d : Edge) → at ≤ k → k < length edges → voter ≤ (get_or edges k d).voter) → IsWalked at (stake_of snapshot voter)
  walk_start at few before behind = record {
    kept = omega (arith, none_before own (pay price edges) edges at (λ k d l h. ne_eqb (get_or edges k d).voter voter (λ same. omega (arith, before k d l h, same))));
    behind = behind;
    within = few;
  }

  module _ (at left : ℕ) (so : IsWalked at left) where
    module _ (d : Edge) (h : at < length edges) (here : (get_or edges at d).voter ≡ voter) where
      more : sum_by (pay price edges) (filter own (take (at + 1) edges)) ≡ sum_by (pay price edges) (filter own (take at edges)) + pay price edges (get_or edges at d)
      more = sum_filter_more own (pay price edges) edges at d h
          ∙ ap (λ n. sum_by (pay price edges) (filter own (take at edges)) + n)
          (cond-true (own (get_or edges at d)) (pay price edges (get_or edges at d)) 0 (eq-eqb (get_or edges at d).voter voter here))

      -- the voter has enough left for its pay
      pub walk_left : spent edges voter ≤ stake_of snapshot voter → pay price edges (get_or edges at d) ≤ left
      walk_left within =
          let all : sum_by (pay price edges) (edges_from edges voter) ≤ spent edges voter = sum_le (pay price edges) (λ (e : Edge). e.amount) (edges_from edges voter)
          (λ k e l. pay_within price edges (get_or (edges_from edges voter) k e)) in
          omega (arith, so.kept, more, sum_filter-take-le own (pay price edges) edges (at + 1), all, within)

      pub walk_next : spent edges voter ≤ stake_of snapshot voter → IsWalked (at + 1) (left - pay price edges (get_or edges at d))
      walk_next within = record {
        kept = omega (arith, so.kept, more, walk_left within);
        behind = λ k e l m. so.behind k e (omega (arith, l)) m;
        within = omega (arith, h);
      }

    -- what is left where another voter's edges begin
    pub walk_end : ((k : ℕ) (d : Edge) → at ≤ k → k < length edges → voter < (get_or edges k d).voter) → left ≡ slack price snapshot edges voter
    walk_end others = omega (
      arith,
      so.kept,
      none_behind own (pay price edges) edges at (λ k d l h. ne_eqb (get_or edges k d).voter voter (λ same. omega (arith, others k d l h, same))),
    )

    pub walk_past : length edges ≤ at → left ≡ slack price snapshot edges voter
    walk_past past = walk_end (λ k d l h. absurd (omega (arith, past, l, h)))

    pub walk_met : IsNonDecreasingBy (λ (e : Edge). e.voter) edges → (d : Edge) → at < length edges → (get_or edges at d).voter ≢ voter → left ≡ slack price snapshot edges voter
    walk_met rise d h other = walk_end (λ k e l m. omega (arith, rise at k e l m, so.behind at e (omega arith) h, other, ap (λ (x : Edge). x.voter) (get_or_default edges at d e h)))

-- ---- a few targets
pub nominators_within : (snapshot : Snapshot) (target : ℕ) → All (λ voter. voter < length snapshot.voters) (nominators snapshot target)
nominators_within snapshot target = all_in (λ voter. voter < length snapshot.voters) (nominators snapshot target)
    (λ voter i. nominates_in_range snapshot voter target (from_filter (λ n. nominates snapshot n target) (range_with_len 0 (length snapshot.voters)) voter i).1)

-- the table tells the values of the first of these numbers
abbrev pub AreTold : (ℕ → ℕ) → List ℕ → ℕ → List ℕ → Type 0
AreTold value numbers count table = (k d : ℕ) → k < count → get_or table (get_or numbers k d) 0 ≡ value (get_or numbers k d)

pub told_next : (value : ℕ → ℕ) (numbers : List ℕ) (i : ℕ) (table : List ℕ) → AreTold value numbers i table → i < length numbers
    → (place : ℕ) → place ≡ get_or numbers i 0 → place < length table → (told : ℕ) → told ≡ value place → AreTold value numbers (i + 1) (set table place told)
told_next value numbers i table so h place is room told right k d l = elim (cases_eq (get_or numbers k d) place) [
  | inl same ↦ ap (λ n. get_or (set table place told) n 0) same ∙ get_or-set_same table place told 0 room ∙ right ∙ ap value (sym same)
  | inr other ↦
      let before : k < i = elim (cases_eq k i) [
        | inl e ↦ absurd (other (ap (λ n. get_or numbers n d) e ∙ get_or_default numbers i d 0 h ∙ sym is))
        | inr e ↦ omega (arith, l, e)
      ] in
      get_or-set_other table place (get_or numbers k d) told 0 other ∙ so k d before
]
