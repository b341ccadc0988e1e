-- The search over all targets outside at once.
use Rattle.std.proofs.Common.{◌≡◌, ℕ, suc, ◌-◌, ◌<◌, ◌≤◌, ◌⊎◌, min, Bool, true, false, nat_eq, nat_lt, List, [], ◌∷◌, length, filter, get_or, All, inl, inr, refl, ap, sym, ◌∙◌, arith}
use Rattle.std.proofs.lemmas.Bool.{cases_Bool, cases_lt, cases_eq, eq-eqb, ltb-false, eqb-true, true≢false}
use Rattle.election_snapshot.specs.Snapshot.{has}
use Rattle.election_snapshot.proofs.HasLemmas.{filter_has}
use Rattle.phragmms_miner.specs.Scores.{greatest}
use Rattle.phragmms_miner.specs.Search.{IsBestOf, AreRising}
use Rattle.std.proofs.lemmas.List.Folds.{list_any_at}
use Rattle.std.proofs.lemmas.List.Elements.{All-filter, All-head, All-tail}
use Rattle.std.proofs.lemmas.List.Kept.{AllPairs-filter}
use Rattle.phragmms_miner.proofs.ScoreLemmas.{greatest_within, greatest_reach, greatest_miss, greatest_cap}

pub has_filter : (p : ℕ → Bool) (xs : List ℕ) (x : ℕ) → has (filter p xs) x ≡ true → (has xs x ≡ true) × (p x ≡ true)
has_filter p [] x h = absurd (true≢false (sym h))
has_filter p (y ∷ xs) x h = elim (cases_Bool (p y)) [
  | inl t ↦ elim (cases_Bool (nat_eq y x)) [
    | inl e ↦ rw e (refl, ap p (sym (eqb-true y x e)) ∙ t)
    | inr e ↦ let rest = has_filter p xs x (rw e at (rw t at h)) in rw e (rest.0, rest.1)
  ]
  | inr t ↦
      let rest = has_filter p xs x (rw t at h) in
      elim (cases_Bool (nat_eq y x)) [
        | inl e ↦ rw e (refl, rest.1)
        | inr e ↦ rw e (rest.0, rest.1)
      ]
]

none_there : (xs : List ℕ) (x : ℕ) → length xs ≤ 0 → has xs x ≡ false
none_there [] x h = refl
none_there (y ∷ xs) x h = absurd (omega (arith, h))

-- values by price and target, which fall with the price
module _ (outs : List ℕ) (value : ℕ → ℕ → ℕ) (total : ℕ) (falls : (target a b : ℕ) → a ≤ b → value b target ≤ value a target) where
  abbrev score_of : ℕ → ℕ
  score_of target = greatest (λ price. value price target) total

  pub record IsNarrowed (low top pick : ℕ) (alive : List ℕ) : Type 0 where
    pub pick_out : has outs pick ≡ true
    pub reached : low ≤ score_of pick
    pub lowest : (other : ℕ) → has outs other ≡ true → other < pick → score_of other < low
    pub bounded : (other : ℕ) → has outs other ≡ true → score_of other ≤ top
    pub dropped : (other : ℕ) → has outs other ≡ true → has alive other ≡ false → score_of other ≤ low
    pub kept : (other : ℕ) → has alive other ≡ true → has outs other ≡ true

  pub narrow_start : (pick : ℕ) → has outs pick ≡ true → ((other : ℕ) → has outs other ≡ true → pick ≤ other) → IsNarrowed 0 total pick outs
  narrow_start pick out least = record {
    pick_out = out;
    reached = omega arith;
    lowest = λ other h l. absurd (omega (arith, least other h, l));
    bounded = λ other h. greatest_within (λ price. value price other) total;
    dropped = λ other h n. absurd (true≢false (sym h ∙ n));
    kept = λ other h. h;
  }

  module _ (low top pick : ℕ) (alive : List ℕ) (so : IsNarrowed low top pick alive) (price : ℕ) (above : low < price) (within : price ≤ top) (most : top ≤ total) where
    pub narrow_found : (found : ℕ) → has alive found ≡ true → price ≤ value price found
        → ((other : ℕ) → has alive other ≡ true → price ≤ value price other → found ≤ other)
        → IsNarrowed price top found (filter (λ target. nat_lt price (value price target)) alive)
    narrow_found found there reaches first = record {
      pick_out = so.kept found there;
      reached = greatest_reach (λ p. value p found) total price (omega (arith, within, most)) reaches;
      lowest = λ other h l. elim (cases_Bool (has alive other)) [
        | inl t ↦ elim (cases_lt (value price other) price) [
          | inl less ↦ greatest_miss (λ p. value p other) total price (falls other) less
          | inr more ↦ absurd (omega (arith, first other t more, l))
        ]
        | inr t ↦ omega (arith, so.dropped other h t, above)
      ];
      bounded = so.bounded;
      dropped = λ other h n. elim (cases_Bool (has alive other)) [
        | inr t ↦ omega (arith, so.dropped other h t, above)
        | inl t ↦ elim (cases_Bool (nat_lt price (value price other))) [
          | inl more ↦ absurd (true≢false (sym (filter_has (λ target. nat_lt price (value price target)) alive other t more) ∙ n))
          | inr less ↦ greatest_cap (λ p. value p other) total price (falls other) (ltb-false price (value price other) less)
        ]
      ];
      kept = λ other h. so.kept other (has_filter (λ target. nat_lt price (value price target)) alive other h).0;
    }

    pub narrow_none : ((other : ℕ) → has alive other ≡ true → value price other < price) → IsNarrowed low (price - 1) pick alive
    narrow_none none = record {
      pick_out = so.pick_out;
      reached = so.reached;
      lowest = so.lowest;
      bounded = λ other h. elim (cases_Bool (has alive other)) [
        | inl t ↦ omega (arith, greatest_miss (λ p. value p other) total price (falls other) (none other t))
        | inr t ↦ omega (arith, so.dropped other h t, above)
      ];
      dropped = so.dropped;
      kept = so.kept;
    }

  -- where no score is above the cap, the top may be lowered to it
  pub narrow_under : (low top pick : ℕ) (alive : List ℕ) → IsNarrowed low top pick alive → (cap : ℕ)
      → ((other : ℕ) → has outs other ≡ true → score_of other ≤ cap) → IsNarrowed low (min top cap) pick alive
  narrow_under low top pick alive so cap most = record {
    pick_out = so.pick_out;
    reached = so.reached;
    lowest = so.lowest;
    bounded = λ other h. omega (arith, so.bounded other h, most other h);
    dropped = so.dropped;
    kept = so.kept;
  }

  pub narrow_end : (low top pick : ℕ) (alive : List ℕ) → IsNarrowed low top pick alive → (top ≤ low) ⊎ (length alive ≤ 0) → IsBestOf score_of outs pick
  narrow_end low top pick alive so end = record {
    is_out = so.pick_out;
    greatest = λ other h. elim end [
      | inl closed ↦ omega (arith, so.bounded other h, closed, so.reached)
      | inr empty ↦ omega (arith, so.dropped other h (none_there alive other empty), so.reached)
    ];
    lowest = λ other h l. omega (arith, so.lowest other h l, so.reached);
  }

  pub narrow_score : (low top pick : ℕ) (alive : List ℕ) → IsNarrowed low top pick alive → (top ≤ low) ⊎ (length alive ≤ 0) → low ≡ score_of pick
  narrow_score low top pick alive so end = elim end [
    | inl closed ↦ omega (arith, so.bounded pick so.pick_out, closed, so.reached)
    | inr empty ↦ omega (arith, so.dropped pick so.pick_out (none_there alive pick empty), so.reached)
  ]

pub has_place : (xs : List ℕ) (x : ℕ) → has xs x ≡ true → (k : ℕ) × (k < length xs) × ((d : ℕ) → get_or xs k d ≡ x)
has_place [] x h = absurd (true≢false (sym h))
has_place (y ∷ xs) x h = elim (cases_Bool (nat_eq y x)) [
  | inl t ↦ (0, omega arith, λ d. eqb-true y x t)
  | inr f ↦ let rest = has_place xs x (rw f at h) in (suc rest.0, omega (arith, rest.1), λ d. rest.2 d)
]

place_has : (xs : List ℕ) (k d : ℕ) → k < length xs → has xs (get_or xs k d) ≡ true
place_has xs k d h = list_any_at (λ n. nat_eq n (get_or xs k d)) xs k d h (eq-eqb (get_or xs k d) (get_or xs k d) refl)

-- what is said of each place is said of whatever stands there
pub everywhere : (alive table : List ℕ) (cap : ℕ) → All (λ target. get_or table target 0 ≤ cap) alive
    → (other : ℕ) → has alive other ≡ true → get_or table other 0 ≤ cap
everywhere alive table cap all other there =
    let (k, l, same) = has_place alive other there in
    omega (arith, all k 0 l, ap (λ n. get_or table n 0) (same 0))

-- the first that reaches is the lowest, where they rise
pub first_found : (targets : ℕ) (alive prescores : List ℕ) (price i : ℕ) → AreRising targets alive → i < length alive
    → ((k d : ℕ) → k < i → get_or prescores (get_or alive k d) 0 < price) → (target : ℕ) → target ≡ get_or alive i 0
    → (has alive target ≡ true) × ((other : ℕ) → has alive other ≡ true → price ≤ get_or prescores other 0 → target ≤ other)
first_found targets alive prescores price i up h before target is = (
  ap (has alive) is ∙ place_has alive i 0 h,
  λ other there reaches.
      let (k, l, same) = has_place alive other there in
      elim (cases_lt k i) [
        | inl m ↦ absurd (omega (arith, before k 0 m, reaches, ap (λ n. get_or prescores n 0) (same 0)))
        | inr m ↦ elim (cases_lt i k) [
          | inl n ↦ omega (arith, up.rising i k 0 n l, is, same 0)
          | inr n ↦
              let e : k ≡ i = omega (arith, m, n) in
              omega (arith, is, same 0, ap (λ j. get_or alive j 0) e)
        ]
      ],
)

pub none_found : (alive prescores : List ℕ) (price i : ℕ) → length alive ≤ i → ((k d : ℕ) → k < i → get_or prescores (get_or alive k d) 0 < price)
    → (other : ℕ) → has alive other ≡ true → get_or prescores other 0 < price
none_found alive prescores price i end before other there =
    let (k, l, same) = has_place alive other there in
    omega (arith, before k 0 (omega (arith, l, end)), ap (λ n. get_or prescores n 0) (same 0))

pub least_first : (targets : ℕ) (outside : List ℕ) → AreRising targets outside → 1 ≤ length outside
    → (has outside (get_or outside 0 0) ≡ true) × ((other : ℕ) → has outside other ≡ true → get_or outside 0 0 ≤ other)
least_first targets outside up some = (
  place_has outside 0 0 some,
  λ other there.
      let (k, l, same) = has_place outside other there in
      elim (cases_eq k 0) [
        | inl e ↦ omega (arith, same 0, ap (λ j. get_or outside j 0) e)
        | inr e ↦ omega (arith, up.rising 0 k 0 (omega (arith, e)) l, same 0)
      ],
)

pub rising_filter : (targets : ℕ) (p : ℕ → Bool) (xs : List ℕ) → AreRising targets xs → AreRising targets (filter p xs)
rising_filter targets p xs up = record {
  rising = AllPairs-filter (λ a b. a < b) p xs up.rising;
  in_range = All-filter p (λ target. target < targets) xs up.in_range;
}

filter_same : (p q : ℕ → Bool) (xs : List ℕ) → All (λ x. p x ≡ q x) xs → filter p xs ≡ filter q xs
filter_same p q [] all = refl
filter_same p q (x ∷ xs) all =
    let rest = filter_same p q xs (All-tail (λ y. p y ≡ q y) x xs all) in
    let here = All-head (λ y. p y ≡ q y) x xs all in
    elim (cases_Bool (q x)) [
      | inl t ↦ rw (here ∙ t, t) (ap (λ ys. x ∷ ys) rest)
      | inr t ↦ rw (here ∙ t, t) rest
    ]

-- the same by a table of the values at the price of those that are left
module _ (outs : List ℕ) (value : ℕ → ℕ → ℕ) (total : ℕ) (falls : (target a b : ℕ) → a ≤ b → value b target ≤ value a target)
    (low top pick : ℕ) (alive : List ℕ) (so : IsNarrowed outs value total falls low top pick alive) (price : ℕ) (above : low < price) (within : price ≤ top) (most : top ≤ total)
    (table : List ℕ) (fills : All (λ target. get_or table target 0 ≡ value price target) alive) where
  agrees : (other : ℕ) → has alive other ≡ true → get_or table other 0 ≡ value price other
  agrees other there =
      let (k, l, same) = has_place alive other there in
      ap (λ n. get_or table n 0) (sym (same 0)) ∙ fills k 0 l ∙ ap (value price) (same 0)

  -- no score is above the highest value at the price, where that is above the price
  capped : (cap : ℕ) → price ≤ cap → ((other : ℕ) → has alive other ≡ true → get_or table other 0 ≤ cap)
      → (other : ℕ) → has outs other ≡ true → score_of outs value total falls other ≤ cap
  capped cap more all other out = elim (cases_Bool (has alive other)) [
    | inl t ↦ greatest_cap (λ p. value p other) total cap (falls other) (omega (arith, falls other price cap more, agrees other t, all other t))
    | inr t ↦ omega (arith, so.dropped other out t, above, more)
  ]

  pub table_found : (found : ℕ) → has alive found ≡ true → price ≤ get_or table found 0
      → ((other : ℕ) → has alive other ≡ true → price ≤ get_or table other 0 → found ≤ other)
      → (cap : ℕ) → ((other : ℕ) → has alive other ≡ true → get_or table other 0 ≤ cap)
      → IsNarrowed outs value total falls price (min top cap) found (filter (λ target. nat_lt price (get_or table target 0)) alive)
  table_found found there reaches first cap all =
      narrow_under outs value total falls price top found (filter (λ target. nat_lt price (get_or table target 0)) alive)
      (rw (filter_same (λ target. nat_lt price (get_or table target 0)) (λ target. nat_lt price (value price target)) alive
      (λ k d h. ap (nat_lt price) (fills k d h)))
      (narrow_found outs value total falls low top pick alive so price above within most found there (omega (arith, reaches, agrees found there))
      (λ other t r. first other t (omega (arith, r, agrees other t)))))
      cap (capped cap (omega (arith, reaches, all found there)) all)

  pub table_none : ((other : ℕ) → has alive other ≡ true → get_or table other 0 < price) → IsNarrowed outs value total falls low (price - 1) pick alive
  table_none none = narrow_none outs value total falls low top pick alive so price above within most (λ other t. omega (arith, none other t, agrees other t))
