-- A turn does not raise the sum of squares. With L the least support of a member that the voter backs, each member that
-- falls ends at L or above, and each that rises at L + 1 or below. So a unit that moves leaves a square that is no lower
-- than the one it joins.
use Rattle.std.proofs.Common.{◌≡◌, ℕ, zero, suc, ◌+◌, ◌*◌, ◌<◌, ◌≤◌, ◌⊎◌, Bool, true, false, cond, ◌&&◌, nat_eq, List}
use Rattle.std.proofs.Common.{[], ◌∷◌, length, sum_by, get_or, All, inl, inr, refl, ap, sym, subst, ◌-◌, ◌∙◌, arith}
use Rattle.std.specs.List.{IsDistinct}
use Rattle.std.proofs.Math.Nat.{mul-add, mul-suc, suc-mul}
use Rattle.std.proofs.lemmas.List.Sums.{sum_by-cons, get_or-le-sum_by}
use Rattle.std.proofs.lemmas.List.Elements.{All-head, All-tail}
use Rattle.std.proofs.lemmas.Bool.{cases_Bool, cases_lt, cases_eq, cond-true, cond-false, eqb-true, eq-eqb, or_left, or_right, true≢false}
use Rattle.npos_base.specs.declared.figures.Edge.{Edge}
use Rattle.election_snapshot.specs.Snapshot.{Snapshot, has, nominates, stake_of}
use Rattle.weight_book.specs.Weights.{edges_from, edges_to, amount_sum, support, spent}
use Rattle.weight_book.proofs.SumLemmas.{at_least, at_most, sum_among, sum_same, sum_of_sums}
use Rattle.support_balance.specs.Turns.{given, backs, edges_but, IsTurn}
use Rattle.support_balance.specs.Laws.{squares, SquaresLaw}
use Rattle.support_balance.proofs.RowLemmas.{to_weight, weight}
use Rattle.support_balance.proofs.SplitLemmas.{support_split}

-- edges that lead elsewhere have no amount
amount_within : (edges : List Edge) (k : ℕ) (d : Edge) → k < length edges → (get_or edges k d).amount ≤ amount_sum (edges_to edges (get_or edges k d).target)
amount_within edges k d h =
    let t = (get_or edges k d).target in
    omega (arith, to_weight edges t, get_or-le-sum_by (weight t) edges k d h, cond-true (nat_eq t t) (get_or edges k d).amount 0 (eq-eqb t t refl))

among_amounts : (numbers : List ℕ) (edges : List Edge) → All (λ (e : Edge). (has numbers e.target ≡ true) ⊎ (e.amount ≤ 0)) edges
    → sum_among (λ (e : Edge). e.target) (λ (e : Edge). e.amount) edges numbers ≡ amount_sum edges
among_amounts numbers [] all = refl
among_amounts numbers (edge ∷ edges) all = omega (
  arith,
  sum_by-cons (λ (e : Edge). cond (has numbers e.target) e.amount 0) edge edges,
  sum_by-cons (λ (e : Edge). e.amount) edge edges,
  one (All-head (λ (e : Edge). (has numbers e.target ≡ true) ⊎ (e.amount ≤ 0)) edge edges all),
  among_amounts numbers edges (All-tail (λ (e : Edge). (has numbers e.target ≡ true) ⊎ (e.amount ≤ 0)) edge edges all),
) where
  one : (has numbers edge.target ≡ true) ⊎ (edge.amount ≤ 0) → cond (has numbers edge.target) edge.amount 0 ≡ edge.amount
  one here = elim (cases_Bool (has numbers edge.target)) [
    | inl t ↦ cond-true (has numbers edge.target) edge.amount 0 t
    | inr f ↦ elim here [
      | inl t ↦ absurd (true≢false (sym t ∙ f))
      | inr none ↦ omega (arith, cond-false (has numbers edge.target) edge.amount 0 f, none)
    ]
  ]

-- a voter that gives to members alone spends what it gives to the members
given_to_members : (committee : List ℕ) (edges : List Edge) (voter : ℕ) → IsDistinct nat_eq committee
    → ((target : ℕ) → has committee target ≡ false → given edges voter target ≡ 0) → sum_by (given edges voter) committee ≡ spent edges voter
given_to_members committee edges voter distinct elsewhere =
    let own = edges_from edges voter in
    let key = λ (e : Edge). e.target in
    let f = λ (e : Edge). e.amount in
    let all = among_amounts committee own (λ k d h. placed (get_or own k d) (amount_within own k d h)) in
    omega (arith, at_least key f own committee, at_most key f own committee distinct, all)
  where
    placed : (e : Edge) → e.amount ≤ given edges voter e.target → (has committee e.target ≡ true) ⊎ (e.amount ≤ 0)
    placed e within = elim (cases_Bool (has committee e.target)) [
      | inl t ↦ inl t
      | inr f ↦ inr (omega (arith, within, elsewhere e.target f))
    ]

square_more : (n : ℕ) → suc n * suc n ≡ n * n + n + n + 1
square_more n = omega (arith, mul-suc (suc n) n, suc-mul n n)

-- one member: what falls ends at the level or above, what rises a unit above it or below
falls : (v d l : ℕ) → l ≤ v → v * v + (2 * l + 1) * (v + d) ≤ (v + d) * (v + d) + (2 * l + 1) * v
falls v zero l h = omega arith
falls v (suc d) l h =
    let e : v + suc d ≡ suc (v + d) = omega arith in
    rw e (omega (arith, falls v d l h, square_more (v + d), mul-suc (2 * l + 1) (v + d), h))

rises : (u d l : ℕ) → u + d ≤ l + 1 → (u + d) * (u + d) + (2 * l + 1) * u ≤ u * u + (2 * l + 1) * (u + d)
rises u zero l h = omega arith
rises u (suc d) l h =
    let e : u + suc d ≡ suc (u + d) = omega arith in
    rw e (omega (arith, rises u d l (omega (arith, h)), square_more (u + d), mul-suc (2 * l + 1) (u + d), h))

one_member : (u v l : ℕ) → (v < u → l ≤ v) → (u < v → v ≤ l + 1) → v * v + (2 * l + 1) * u ≤ u * u + (2 * l + 1) * v
one_member u v l down up = elim (cases_lt v u) [
  | inl less ↦
      let e : v + (u - v) ≡ u = omega (arith, less) in
      subst (λ n. v * v + (2 * l + 1) * n ≤ n * n + (2 * l + 1) * v) e (falls v (u - v) l (down less))
  | inr least ↦ elim (cases_lt u v) [
    | inl more ↦
        let e : u + (v - u) ≡ v = omega (arith, more) in
        subst (λ n. n * n + (2 * l + 1) * u ≤ u * u + (2 * l + 1) * n) e (rises u (v - u) l (omega (arith, up more)))
    | inr same ↦
        let e : u ≡ v = omega (arith, least, same) in
        subst (λ n. v * v + (2 * l + 1) * n ≤ n * n + (2 * l + 1) * v) (sym e) (omega arith)
  ]
]

sum_scaled : (k : ℕ) (f : ℕ → ℕ) (xs : List ℕ) → sum_by (λ x. k * f x) xs ≡ k * sum_by f xs
sum_scaled k f [] = omega arith
sum_scaled k f (x ∷ xs) = omega (arith, sum_by-cons (λ y. k * f y) x xs, ap (λ n. k * n) (sum_by-cons f x xs), mul-add k (f x) (sum_by f xs), sum_scaled k f xs)

-- the member with the least support among those that pass a test
find_least : (test : ℕ → Bool) (f : ℕ → ℕ) (xs : List ℕ)
    → ((m : ℕ) × (test m ≡ true) × ((x : ℕ) → has xs x ≡ true → test x ≡ true → f m ≤ f x)) ⊎ ((x : ℕ) → has xs x ≡ true → test x ≡ false)
find_least test f [] = inr (λ x h. absurd (true≢false (sym h)))
find_least test f (y ∷ xs) = elim (cases_Bool (test y)) [
  | inr no_pass ↦ elim (find_least test f xs) [
    | inl some ↦ inl (some.0, some.1, λ x h t. later some h t no_pass)
    | inr nothing ↦ inr (λ x h. elim (cases_Bool (nat_eq y x)) [
      | inl e ↦ ap test (sym (eqb-true y x e)) ∙ no_pass
      | inr e ↦ nothing x (rw e at h)
    ])
  ]
  | inl pass ↦ elim (find_least test f xs) [
    | inl some ↦ elim (cases_lt (f y) (f some.0)) [
      | inl less ↦ inl (
        y,
        pass,
        λ x h t. elim (cases_Bool (nat_eq y x)) [
          | inl e ↦ omega (arith, ap f (eqb-true y x e))
          | inr e ↦ omega (arith, some.2 x (rw e at h) t, less)
        ],
      )
      | inr most ↦ inl (
        some.0,
        some.1,
        λ x h t. elim (cases_Bool (nat_eq y x)) [
          | inl e ↦ omega (arith, ap f (eqb-true y x e), most)
          | inr e ↦ some.2 x (rw e at h) t
        ],
      )
    ]
    | inr nothing ↦ inl (
      y,
      pass,
      λ x h t. elim (cases_Bool (nat_eq y x)) [
        | inl e ↦ omega (arith, ap f (eqb-true y x e))
        | inr e ↦ absurd (true≢false (sym t ∙ nothing x (rw e at h)))
      ],
    )
  ]
] where
  later : (some : (m : ℕ) × (test m ≡ true) × ((x : ℕ) → has xs x ≡ true → test x ≡ true → f m ≤ f x)) {x : ℕ} → has (y ∷ xs) x ≡ true → test x ≡ true → test y ≡ false → f some.0 ≤ f x
  later some {x} h t no_pass = elim (cases_Bool (nat_eq y x)) [
    | inl e ↦ absurd (true≢false (sym t ∙ (ap test (sym (eqb-true y x e)) ∙ no_pass)))
    | inr e ↦ some.2 x (rw e at h) t
  ]

all_sums : (f g : ℕ → ℕ) (xs : List ℕ) → ((x : ℕ) → has xs x ≡ true → f x ≤ g x) → sum_by f xs ≤ sum_by g xs
all_sums f g [] all = omega arith
all_sums f g (x ∷ xs) all = omega (
  arith,
  sum_by-cons f x xs,
  sum_by-cons g x xs,
  all x (or_left (nat_eq x x) (has xs x) (eq-eqb x x refl)),
  all_sums f g xs (λ y h. all y (or_right (nat_eq x y) (has xs y) h)),
)

module _ (snapshot : Snapshot) (committee : List ℕ) (voter : ℕ) (old new : List Edge) (distinct : IsDistinct nat_eq committee)
    (within : (target : ℕ) → backs snapshot committee voter target ≡ false → given old voter target ≡ 0)
    (whole : (target : ℕ) → backs snapshot committee voter target ≡ true → spent old voter ≡ stake_of snapshot voter)
    (turn : IsTurn snapshot committee voter old new) where
  base : ℕ → ℕ
  base target = support (edges_but old voter) target

  old_is : (target : ℕ) → support old target ≡ base target + given old voter target
  unfolding base
  old_is target = support_split old voter target

  new_is : (target : ℕ) → support new target ≡ base target + given new voter target
  unfolding base
  new_is target = support_split new voter target ∙ ap (λ es. support es target + given new voter target) turn.others

  still : (target : ℕ) → backs snapshot committee voter target ≡ false → support old target ≡ support new target
  still target f = omega (arith, old_is target, new_is target, within target f, turn.to_backed target f)

  outside : (target : ℕ) → has committee target ≡ false → backs snapshot committee voter target ≡ false
  outside target f = ap (λ b. b && nominates snapshot voter target) f

  module _ (least : ℕ) (backed : backs snapshot committee voter least ≡ true)
      (lowest : (target : ℕ) → has committee target ≡ true → backs snapshot committee voter target ≡ true → support new least ≤ support new target) where
    each : (target : ℕ) → has committee target ≡ true
        → support new target * support new target + (2 * support new least + 1) * support old target
        ≤ support old target * support old target + (2 * support new least + 1) * support new target
    each target there = one_member (support old target) (support new target) (support new least) down up where
      down : support new target < support old target → support new least ≤ support new target
      down less = elim (cases_Bool (backs snapshot committee voter target)) [
        | inl t ↦ lowest target there t
        | inr f ↦ absurd (omega (arith, still target f, less))
      ]

      up : support old target < support new target → support new target ≤ support new least + 1
      up more = elim (cases_Bool (backs snapshot committee voter target)) [
        | inr f ↦ absurd (omega (arith, still target f, more))
        | inl t ↦ elim (cases_eq target least) [
          | inl same ↦ omega (arith, ap (support new) same)
          | inr apart ↦ elim (turn.level target least t backed apart (omega (arith, old_is target, new_is target, more))) [
            | inl x ↦ omega (arith, x)
            | inr x ↦ omega (arith, x.0)
          ]
        ]
      ]

    same_sum : sum_by (support old) committee ≡ sum_by (support new) committee
    same_sum =
        let before = given_to_members committee old voter distinct (λ target f. within target (outside target f)) in
        let after = given_to_members committee new voter distinct (λ target f. turn.to_backed target (outside target f)) in
        omega (
          arith,
          sum_same (support old) (λ target. base target + given old voter target) old_is committee,
          sum_of_sums base (given old voter) committee,
          sum_same (support new) (λ target. base target + given new voter target) new_is committee,
          sum_of_sums base (given new voter) committee,
          before,
          after,
          whole least backed,
          turn.whole least backed,
        )

    lower : squares committee new ≤ squares committee old
    lower =
        let k = 2 * support new least + 1 in
        omega (
          arith,
          all_sums (λ t. support new t * support new t + k * support old t) (λ t. support old t * support old t + k * support new t) committee each,
          sum_of_sums (λ t. support new t * support new t) (λ t. k * support old t) committee,
          sum_of_sums (λ t. support old t * support old t) (λ t. k * support new t) committee,
          sum_scaled k (support old) committee,
          sum_scaled k (support new) committee,
          ap (λ n. k * n) same_sum,
        )

  squares_fall : squares committee new ≤ squares committee old
  squares_fall = elim (find_least (backs snapshot committee voter) (support new) committee) [
    | inl some ↦ lower some.0 some.1 some.2
    | inr none ↦ all_sums (λ t. support new t * support new t) (λ t. support old t * support old t) committee
        (λ t h. omega (arith, ap (λ n. n * n) (still t (none t h))))
  ]

pub no_higher_squares : SquaresLaw
no_higher_squares snapshot committee voter old new distinct within whole turn = squares_fall snapshot committee voter old new distinct within whole turn
