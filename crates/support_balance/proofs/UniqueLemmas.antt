-- The amounts of a turn are unique.
use Rattle.std.proofs.Common.{◌≡◌, ◌≢◌, ℕ, ◌+◌, ◌<◌, ◌≤◌, ◌⊎◌, true, nat_eq, List, [], ◌∷◌, sum_by, All, inl, inr, ap, sym, ◌∙◌, arith}
use Rattle.std.specs.List.{range_with_len}
use Rattle.std.proofs.lemmas.List.Sums.{sum_by-cons, get_or-le-sum_by}
use Rattle.std.proofs.lemmas.List.Elements.{All-head, All-tail, All-cons, All-nil}
use Rattle.std.proofs.lemmas.Bool.{cases_Bool, cases_lt, cases_eq, eqb-true, true≢false}
use Rattle.npos_base.specs.declared.figures.Edge.{Edge}
use Rattle.election_snapshot.specs.Snapshot.{Snapshot, has}
use Rattle.weight_book.specs.Weights.{edges_from, edges_to, amount_sum, support}
use Rattle.weight_book.proofs.SumLemmas.{has_range}
use Rattle.support_balance.specs.Turns.{given, backs, IsTurn}
use Rattle.support_balance.specs.Laws.{UniqueLaw}
use Rattle.support_balance.proofs.SplitLemmas.{support_split, from_but, spent_given}

-- a number where the first is more, or it is nowhere more
find_more : (a b : ℕ → ℕ) (xs : List ℕ) → ((x : ℕ) × (b x < a x)) ⊎ All (λ x. a x ≤ b x) xs
find_more a b [] = inr (All-nil (λ x. a x ≤ b x))
find_more a b (x ∷ xs) = elim (cases_lt (b x) (a x)) [
  | inl l ↦ inl (x, l)
  | inr l ↦ elim (find_more a b xs) [
    | inl more ↦ inl more
    | inr all ↦ inr (All-cons (λ y. a y ≤ b y) x xs l all)
  ]
]

sums_le : (a b : ℕ → ℕ) (xs : List ℕ) → All (λ x. a x ≤ b x) xs → sum_by a xs ≤ sum_by b xs
sums_le a b [] all = omega arith
sums_le a b (x ∷ xs) all = omega (arith, sum_by-cons a x xs, sum_by-cons b x xs, All-head (λ y. a y ≤ b y) x xs all, sums_le a b xs (All-tail (λ y. a y ≤ b y) x xs all))

sums_less : (a b : ℕ → ℕ) (xs : List ℕ) (n : ℕ) → All (λ x. a x ≤ b x) xs → has xs n ≡ true → a n < b n → sum_by a xs < sum_by b xs
sums_less a b [] n all there less = absurd (true≢false (sym there))
sums_less a b (x ∷ xs) n all there less =
    let head = All-head (λ y. a y ≤ b y) x xs all in
    let tail = All-tail (λ y. a y ≤ b y) x xs all in
    elim (cases_Bool (nat_eq x n)) [
      | inl t ↦
          let e = eqb-true x n t in
          omega (arith, sum_by-cons a x xs, sum_by-cons b x xs, sums_le a b xs tail, less, ap a e, ap b e)
      | inr t ↦ omega (arith, sum_by-cons a x xs, sum_by-cons b x xs, head, sums_less a b xs n tail (rw t at there) less)
    ]

-- equal sums: where one gives less here, it gives more elsewhere
elsewhere : (a b : ℕ → ℕ) (xs : List ℕ) (n : ℕ) → sum_by a xs ≡ sum_by b xs → has xs n ≡ true → a n < b n → (x : ℕ) × (b x < a x)
elsewhere a b xs n same there less = elim (find_more a b xs) [
  | inl more ↦ more
  | inr all ↦ absurd (omega (arith, sums_less a b xs n all there less, same))
]

module _ (snapshot : Snapshot) (committee : List ℕ) (voter : ℕ) (old one other : List Edge)
    (first : IsTurn snapshot committee voter old one) (second : IsTurn snapshot committee voter old other) where
  same_base : (target : ℕ) → support one target + given other voter target ≡ support other target + given one voter target
  same_base target = omega (
    arith,
    support_split one voter target,
    support_split other voter target,
    ap (λ es. support es target) (first.others ∙ sym second.others),
  )

  -- it does not give less
  no_less : (target : ℕ) → given one voter target < given other voter target → ⊥
  no_less target less = elim (cases_Bool (backs snapshot committee voter target)) [
    | inr f ↦ omega (arith, second.to_backed target f, less)
    | inl t ↦
        let key = λ (e : Edge). e.target in
        let bound = sum_by key one + sum_by key other + target + 1 in
        let all_one = spent_given one voter bound (λ k d h. omega (arith, get_or-le-sum_by key one k d h)) in
        let all_other = spent_given other voter bound (λ k d h. omega (arith, get_or-le-sum_by key other k d h)) in
        let same = all_one ∙ first.whole target t ∙ sym (second.whole target t) ∙ sym all_other in
        let (more, gives) = elsewhere (given one voter) (given other voter) (range_with_len 0 bound) target same
        (has_range 0 bound target (omega arith) (omega arith)) less in
        elim (cases_Bool (backs snapshot committee voter more)) [
          | inr f ↦ omega (arith, first.to_backed more f, gives)
          | inl u ↦
              let apart : more ≢ target = λ e. omega (arith, ap (given one voter) e, ap (given other voter) e, gives, less) in
              let here = same_base target in
              let there = same_base more in
              elim (first.level more target u t apart (omega (arith, gives))) [
                | inl x ↦ elim (second.level target more t u (λ e. apart (sym e)) (omega (arith, less))) [
                  | inl y ↦ omega (arith, x, y, here, there, gives, less)
                  | inr y ↦ omega (arith, x, y.0, here, there, gives, less)
                ]
                | inr x ↦ elim (second.level target more t u (λ e. apart (sym e)) (omega (arith, less))) [
                  | inl y ↦ omega (arith, x.0, y, here, there, gives, less)
                  | inr y ↦ omega (arith, x.1, y.1)
                ]
              ]
        ]
  ]

others_same : (snapshot : Snapshot) (committee : List ℕ) (voter : ℕ) (old one other : List Edge) → IsTurn snapshot committee voter old one
    → IsTurn snapshot committee voter old other → (someone target : ℕ) → someone ≢ voter → given other someone target ≡ given one someone target
others_same snapshot committee voter old one other first second someone target ne =
    ap (λ es. amount_sum (edges_to es target)) (sym (from_but other voter someone ne) ∙ ap (λ es. edges_from es someone) (second.others ∙ sym first.others)
    ∙ from_but one voter someone ne)

pub unique : UniqueLaw
unique snapshot committee voter old one other first second someone target = elim (cases_eq someone voter) [
  | inr ne ↦ others_same snapshot committee voter old one other first second someone target ne
  | inl e ↦ ap (λ n. given other n target) e ∙ here ∙ ap (λ n. given one n target) (sym e)
] where
  here : given other voter target ≡ given one voter target
  here = elim (cases_lt (given one voter target) (given other voter target)) [
    | inl l ↦ absurd (no_less snapshot committee voter old one other first second target l)
    | inr l ↦ elim (cases_lt (given other voter target) (given one voter target)) [
      | inl m ↦ absurd (no_less snapshot committee voter old other one second first target m)
      | inr m ↦ omega (arith, l, m)
    ]
  ]
