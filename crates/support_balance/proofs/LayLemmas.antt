-- Laying edges along slots.
use Rattle.std.proofs.Common.{◌≡◌, ℕ, zero, suc, ◌+◌, ◌^◌, ◌<◌, ◌≤◌, Bool, true, false, nat_eq, List, [], ◌∷◌, ◌++◌, length}
use Rattle.std.proofs.Common.{take, drop, map, get_or, All, inl, inr, refl, ap, ap₂, sym, subst, ◌∙◌, arith, append-nil}
use Rattle.std.specs.List.{AllPairs}
use Rattle.std.proofs.Math.Seq.{drop-cons}
use Rattle.std.proofs.lemmas.List.{map-append, get_or-drop, length-drop, drop_all, take_all}
use Rattle.std.proofs.lemmas.List.Sums.{sum_by_push, sum_by_more}
use Rattle.std.proofs.lemmas.List.Elements.{All-append, All-cons, All-nil, filter_more}
use Rattle.std.proofs.lemmas.List.Kept.{AllPairs-filter}
use Rattle.std.proofs.lemmas.Bool.{cases_Bool, cases_lt, cond-true, cond-false, eq-eqb, eqb-true, or_cases, true≢false}
use Rattle.npos_base.specs.declared.figures.Edge.{Edge}
use Rattle.weight_book.specs.Weights.{same_pair, support}
use Rattle.support_balance.proofs.RowLemmas.{weight, to_weight}
use Rattle.support_balance.specs.Turns.{given}
use Rattle.support_balance.specs.Rounds.{IsBefore}
use Rattle.support_balance.specs.Rows.{AreAlike}
use Rattle.support_balance.specs.Slots.{marked, has_pair, AreLaid, IsTaken, IsPassed}
use Rattle.support_balance.proofs.Edges.{no_edge}
use Rattle.support_balance.proofs.AlikeLemmas.{voters_alike, alike_from}
use Rattle.support_balance.proofs.TurnLemmas.{targets_alike}
use Rattle.support_balance.proofs.GivenLemmas.{pair_weight, given_weight, same_edge}

pub same_pair_true : (one other : Edge) → one.voter ≡ other.voter → one.target ≡ other.target → same_pair one other ≡ true
same_pair_true one other v t = rw (eq-eqb one.voter other.voter v, eq-eqb one.target other.target t) refl

pub pair_is : (one other : Edge) → same_pair one other ≡ true → (one.voter ≡ other.voter) × (one.target ≡ other.target)
pair_is one other same = elim (cases_Bool (nat_eq one.voter other.voter)) [
  | inl v ↦ (eqb-true one.voter other.voter v, eqb-true one.target other.target (rw v at same))
  | inr v ↦ absurd (true≢false (sym (rw v at same)))
]

pub not_both : (one other : Edge) → IsBefore one other → IsBefore other one → ⊥
not_both one other x y = elim x [
  | inl a ↦ elim y [
    | inl b ↦ omega (arith, a, b)
    | inr b ↦ omega (arith, a, b.0)
  ]
  | inr a ↦ elim y [
    | inl b ↦ omega (arith, a.0, b)
    | inr b ↦ omega (arith, a.1, b.1)
  ]
]

pub moved_before : (one other one' other' : Edge) → IsBefore one other → one.voter ≡ one'.voter → one.target ≡ one'.target → other.voter ≡ other'.voter → other.target ≡ other'.target
    → IsBefore one' other'
moved_before one other one' other' x a b c d = elim x [
  | inl l ↦ inl (omega (arith, l, a, c))
  | inr l ↦ inr (omega (arith, l.0, a, c), omega (arith, l.1, b, d))
]

pub pair_place : (edges : List Edge) (edge : Edge) → has_pair edges edge ≡ true
    → (k : ℕ) × (k < length edges) × ((d : Edge) → (get_or edges k d).voter ≡ edge.voter) × ((d : Edge) → (get_or edges k d).target ≡ edge.target)
pair_place [] edge some = absurd (true≢false (sym some))
pair_place (other ∷ edges) edge some = elim (cases_Bool (same_pair other edge)) [
  | inl t ↦ (0, omega arith, λ d. (pair_is other edge t).0, λ d. (pair_is other edge t).1)
  | inr f ↦ let rest = pair_place edges edge (rw f at some) in (suc rest.0, omega (arith, rest.1), λ d. rest.2 d, λ d. rest.3 d)
]

pub place_pair : (edges : List Edge) (edge : Edge) (k : ℕ) (d : Edge) → k < length edges → (get_or edges k d).voter ≡ edge.voter → (get_or edges k d).target ≡ edge.target
    → has_pair edges edge ≡ true
place_pair [] edge k d h v t = absurd (omega arith)
place_pair (other ∷ edges) edge zero d h v t = rw (same_pair_true other edge v t) refl
place_pair (other ∷ edges) edge (suc k) d h v t = elim (cases_Bool (same_pair other edge)) [
  | inl same ↦ rw same refl
  | inr apart ↦ rw apart (place_pair edges edge k d (omega (arith, h)) v t)
]

-- what the rest has is behind the first
rest_behind : (slot : Edge) (rest : List Edge) → AllPairs IsBefore (slot ∷ rest) → (edge : Edge) → has_pair rest edge ≡ true → IsBefore slot edge
rest_behind slot rest rising edge some =
    let (k, h, v, t) = pair_place rest edge some in
    moved_before slot (get_or rest k edge) slot edge (rising 0 (suc k) edge (omega arith) (omega (arith, h))) refl refl (v edge) (t edge)

-- the edges that are left lead along the slots that are left
next_ahead : (slot : Edge) (rest edges : List Edge) (at : ℕ) → AllPairs IsBefore (slot ∷ rest) → AllPairs IsBefore edges
    → ((k : ℕ) (d : Edge) → at ≤ k → k < length edges → has_pair (slot ∷ rest) (get_or edges k d) ≡ true)
    → ((d : Edge) → at < length edges → same_pair (get_or edges at d) slot ≡ false)
    → (k : ℕ) (d : Edge) → at ≤ k → k < length edges → has_pair rest (get_or edges k d) ≡ true
next_ahead slot rest edges at rising order ahead other k d a h = elim (or_cases (same_pair slot (get_or edges k d)) (has_pair rest (get_or edges k d)) (ahead k d a h)) [
  | inr there ↦ there
  | inl here ↦
      let (v, t) = pair_is slot (get_or edges k d) here in
      let in_range : at < length edges = omega (arith, a, h) in
      elim (cases_lt at k) [
        | inl behind ↦ elim (or_cases (same_pair slot (get_or edges at d)) (has_pair rest (get_or edges at d)) (ahead at d (omega arith) in_range)) [
          | inl first ↦
              let (w, u) = pair_is slot (get_or edges at d) first in
              absurd (true≢false (sym (same_pair_true (get_or edges at d) slot (sym w) (sym u)) ∙ other d in_range))
          | inr later ↦ absurd (not_both slot (get_or edges at d) (rest_behind slot rest rising (get_or edges at d) later)
              (moved_before (get_or edges at d) (get_or edges k d) (get_or edges at d) slot (order at k d behind h) refl refl (sym v) (sym t)))
        ]
        | inr same ↦
            let e : k ≡ at = omega (arith, a, same) in
            absurd (true≢false (sym (same_pair_true (get_or edges at d) slot (ap (λ n. (get_or edges n d).voter)
            (sym e) ∙ sym v) (ap (λ n. (get_or edges n d).target) (sym e) ∙ sym t)) ∙ other d in_range))
      ]
]

pub alike_push : (xs ys : List Edge) (x y : Edge) → AreAlike xs ys → y.voter ≡ x.voter → y.target ≡ x.target → AreAlike (xs ++ x ∷ []) (ys ++ y ∷ [])
alike_push xs ys x y alike v t = alike_from (xs ++ x ∷ []) (ys ++ y ∷ [])
    (pushed (λ (e : Edge). e.voter) (voters_alike xs ys alike) v)
    (pushed (λ (e : Edge). e.target) (targets_alike xs ys alike) t) where
      pushed : (f : Edge → ℕ) → map f ys ≡ map f xs → f y ≡ f x → map f (ys ++ y ∷ []) ≡ map f (xs ++ x ∷ [])
      pushed f same last = map-append f ys (y ∷ []) ∙ ap₂ (λ ns n. ns ++ n ∷ []) same last ∙ sym (map-append f xs (x ∷ []))

pub given_push : (edges : List Edge) (edge : Edge) (voter target : ℕ) → given (edges ++ edge ∷ []) voter target ≡ given edges voter target + pair_weight voter target edge
given_push edges edge voter target = given_weight (edges ++ edge ∷ []) voter target ∙ sum_by_push (pair_weight voter target) edges edge
    ∙ ap (λ n. n + pair_weight voter target edge) (sym (given_weight edges voter target))

pub given_more : (edges : List Edge) (i : ℕ) (d : Edge) → i < length edges → (voter target : ℕ)
    → given (take (i + 1) edges) voter target ≡ given (take i edges) voter target + pair_weight voter target (get_or edges i d)
given_more edges i d h voter target = given_weight (take (i + 1) edges) voter target ∙ sum_by_more (pair_weight voter target) edges i d h
    ∙ ap (λ n. n + pair_weight voter target (get_or edges i d)) (sym (given_weight (take i edges) voter target))

support_push : (edges : List Edge) (edge : Edge) (target : ℕ) → support (edges ++ edge ∷ []) target ≡ support edges target + weight target edge
support_push edges edge target = to_weight (edges ++ edge ∷ []) target ∙ sum_by_push (weight target) edges edge ∙ ap (λ n. n + weight target edge) (sym (to_weight edges target))

pub support_more : (edges : List Edge) (i : ℕ) (d : Edge) → i < length edges → (target : ℕ)
    → support (take (i + 1) edges) target ≡ support (take i edges) target + weight target (get_or edges i d)
support_more edges i d h target = to_weight (take (i + 1) edges) target ∙ sum_by_more (weight target) edges i d h
    ∙ ap (λ n. n + weight target (get_or edges i d)) (sym (to_weight (take i edges) target))

-- the slots so far are laid, and the edges up to the place
pub record IsLaying (marks : ℕ → Bool) (slots edges : List Edge) (i at : ℕ) (laid : List Edge) : Type 0 where
  pub alike : AreAlike (marked marks (take i slots)) laid
  pub same : (voter target : ℕ) → given laid voter target ≡ given (take at edges) voter target
  pub sums : (target : ℕ) → support laid target ≡ support (take at edges) target
  pub small : All (λ (e : Edge). e.amount < 2 ^ 64) laid
  pub inside : at ≤ length edges
  pub ahead : (k : ℕ) (d : Edge) → at ≤ k → k < length edges → has_pair (marked marks (drop i slots)) (get_or edges k d) ≡ true

module _ (marks : ℕ → Bool) (slots edges : List Edge) (rising : AllPairs IsBefore slots) (order : AllPairs IsBefore edges) (i at : ℕ) (laid : List Edge)
    (so : IsLaying marks slots edges i at laid) (h : i < length slots) (d : Edge) where
  abbrev rest : List Edge
  rest = marked marks (drop (i + 1) slots)

  dropped : drop i slots ≡ get_or slots i d ∷ drop (i + 1) slots
  dropped = let one : suc i ≡ i + 1 = omega arith in drop-cons slots i d h ∙ ap (λ n. get_or slots i d ∷ drop n slots) one

  pub skipped : marks (get_or slots i d).target ≡ false → IsLaying marks slots edges (i + 1) at laid
  skipped f = record {
    alike = rw (filter_more (λ (e : Edge). marks e.target) slots i d h, f) (rw (append-nil (marked marks (take i slots))) so.alike);
    same = so.same;
    sums = so.sums;
    small = so.small;
    inside = so.inside;
    ahead = λ k e a b. sym (ap (λ es. has_pair es (get_or edges k e)) gone) ∙ so.ahead k e a b;
  } where
    gone : marked marks (drop i slots) ≡ rest
    gone = ap (marked marks) dropped ∙ cond-false (marks (get_or slots i d).target) (get_or slots i d ∷ rest) rest f

  module _ (t : marks (get_or slots i d).target ≡ true) (amount : ℕ) (fits : amount < 2 ^ 64) where
    first : marked marks (drop i slots) ≡ get_or slots i d ∷ rest
    first = ap (marked marks) dropped ∙ cond-true (marks (get_or slots i d).target) (get_or slots i d ∷ rest) rest t

    first_rising : AllPairs IsBefore (get_or slots i d ∷ rest)
    first_rising = subst (λ es. AllPairs IsBefore es) first (AllPairs-filter IsBefore (λ (e : Edge). marks e.target) (drop i slots)
        (λ a b e p q. rw (get_or-drop i slots a e, get_or-drop i slots b e) (rising (i + a) (i + b) e (omega (arith, p)) (omega (arith, q, length-drop i slots)))))

    first_ahead : (k : ℕ) (e : Edge) → at ≤ k → k < length edges → has_pair (get_or slots i d ∷ rest) (get_or edges k e) ≡ true
    first_ahead k e a b = sym (ap (λ es. has_pair es (get_or edges k e)) first) ∙ so.ahead k e a b

    abbrev edge : Edge
    edge = record { voter = (get_or slots i d).voter; target = (get_or slots i d).target; amount = amount }

    alike' : AreAlike (marked marks (take (i + 1) slots)) (laid ++ edge ∷ [])
    alike' = rw (filter_more (λ (e : Edge). marks e.target) slots i d h, t) (alike_push (marked marks (take i slots)) laid (get_or slots i d) edge so.alike refl refl)

    small' : All (λ (e : Edge). e.amount < 2 ^ 64) (laid ++ edge ∷ [])
    small' = All-append (λ (e : Edge). e.amount < 2 ^ 64) laid (edge ∷ []) so.small (All-cons (λ (e : Edge). e.amount < 2 ^ 64) edge [] fits (All-nil (λ (e : Edge). e.amount < 2 ^ 64)))

    pub taken : (after : ℕ) → IsTaken (get_or slots i d) edges at after amount → IsLaying marks slots edges (i + 1) after (laid ++ edge ∷ [])
    taken after took = subst (λ n. IsLaying marks slots edges (i + 1) n (laid ++ edge ∷ [])) (sym took.moved) (record {
      alike = alike';
      same = λ voter target. given_push laid edge voter target
          ∙ ap₂ (λ n e. n + pair_weight voter target e) (so.same voter target) (same_edge edge (get_or edges at d) (sym (took.voter d)) (sym (took.target d)) (sym (took.amount_is d)))
          ∙ sym (given_more edges at d took.inside voter target);
      sums = λ target. support_push laid edge target
          ∙ ap₂ (λ n e. n + weight target e) (so.sums target) (same_edge edge (get_or edges at d) (sym (took.voter d)) (sym (took.target d)) (sym (took.amount_is d)))
          ∙ sym (support_more edges at d took.inside target);
      small = small';
      inside = omega (arith, took.inside);
      ahead = later;
    }) where
      later : (k : ℕ) (e : Edge) → at + 1 ≤ k → k < length edges → has_pair rest (get_or edges k e) ≡ true
      later k e a b = elim (or_cases (same_pair (get_or slots i d) (get_or edges k e)) (has_pair rest (get_or edges k e)) (first_ahead k e (omega (arith, a)) b)) [
        | inr there ↦ there
        | inl here ↦
            let (v, u) = pair_is (get_or slots i d) (get_or edges k e) here in
            let before = order at k e (omega (arith, a)) b in
            elim before [
              | inl l ↦ absurd (omega (arith, l, v, took.voter e))
              | inr l ↦ absurd (omega (arith, l.1, u, took.target e))
            ]
      ]

    pub passed : (after : ℕ) → IsPassed (get_or slots i d) edges at after amount → IsLaying marks slots edges (i + 1) after (laid ++ edge ∷ [])
    passed after pass = subst (λ n. IsLaying marks slots edges (i + 1) n (laid ++ edge ∷ [])) (sym pass.stays) (record {
      alike = alike';
      same = λ voter target. omega (arith, given_push laid edge voter target, so.same voter target, nothing voter target);
      sums = λ target. omega (arith, support_push laid edge target, so.sums target, no_weight target);
      small = small';
      inside = so.inside;
      ahead = next_ahead (get_or slots i d) rest edges at first_rising order first_ahead pass.other;
    }) where
      no_weight : (target : ℕ) → weight target edge ≡ 0
      no_weight target = rw pass.none (elim (cases_Bool (nat_eq (get_or slots i d).target target)) [
        | inl u ↦ rw u refl
        | inr u ↦ rw u refl
      ])

      nothing : (voter target : ℕ) → pair_weight voter target edge ≡ 0
      nothing voter target = rw pass.none (elim (cases_Bool (nat_eq (get_or slots i d).voter voter)) [
        | inl v ↦ rw v (elim (cases_Bool (nat_eq (get_or slots i d).target target)) [
          | inl u ↦ rw u refl
          | inr u ↦ rw u refl
        ])
        | inr v ↦ rw v refl
      ])

-- all of them are laid
pub all_laid : (marks : ℕ → Bool) (slots edges : List Edge) (i at : ℕ) (laid : List Edge) → IsLaying marks slots edges i at laid → length slots ≤ i → AreLaid marks slots edges laid
all_laid marks slots edges i at laid so end = record {
  alike = rw (take_all i slots end) at so.alike;
  same = λ voter target. so.same voter target ∙ ap (λ es. given es voter target) (take_all at edges past);
  sums = λ target. so.sums target ∙ ap (λ es. support es target) (take_all at edges past);
  small = so.small;
} where
  past : length edges ≤ at
  past = elim (cases_lt at (length edges)) [
    | inl l ↦ absurd (true≢false (sym (so.ahead at no_edge (omega arith) l) ∙ ap (λ es. has_pair (marked marks es) (get_or edges at no_edge)) (drop_all i slots end)))
    | inr l ↦ l
  ]
