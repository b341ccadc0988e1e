-- The passes over a row: one asks whether it is level already, one takes those to whom it gives something.
use Rattle.std.proofs.Common.{◌≡◌, ℕ, ◌+◌, ◌<◌, ◌≤◌, nat_lt, List, [], ◌∷◌, ◌++◌, length, take, sum, get_or, inl, inr, refl, sym, subst, ◌∙◌, arith}
use Rattle.std.proofs.lemmas.Bool.{cases_lt, lt-ltb, le-ltb}
use Rattle.std.proofs.lemmas.List.{append-nil, get_or_default}
use Rattle.std.proofs.lemmas.List.Elements.{filter_more}
use Rattle.std.proofs.lemmas.Grind.{common_steps}
use Rattle.npos_base.specs.declared.figures.Edge.{Edge}
use Rattle.weight_book.specs.Weights.{amount_sum}
use Rattle.support_balance.specs.Backing.{above_zero}
use Rattle.support_balance.specs.Levels.{base_of, bases}
use Rattle.support_balance.specs.Rows.{at, IsRow, IsEven}
use Rattle.support_balance.proofs.Edges.{no_edge}

-- the first edges: the least support, a bound of those with an amount, and none of these above one in front of it
pub record IsScanned (supports : List ℕ) (row : List Edge) (i least top : ℕ) : Type 0 where
  pub below : (k : ℕ) (d : Edge) → k < i → k < length row → least ≤ at supports (get_or row k d).target
  pub above : (k : ℕ) (d : Edge) → k < i → k < length row → 0 < (get_or row k d).amount → at supports (get_or row k d).target ≤ top
  pub falls : (j k : ℕ) (d : Edge) → j < k → k < i → k < length row → 0 < (get_or row k d).amount
      → at supports (get_or row k d).target ≤ at supports (get_or row j d).target

-- those of the first edges that give something, and the least base of the others
pub record IsBacked (supports : List ℕ) (row : List Edge) (i total count highest others : ℕ) : Type 0 where
  pub total_is : total ≡ sum (bases supports (above_zero (take i row)))
  pub count_is : count ≡ length (above_zero (take i row))
  pub below : (k : ℕ) (d : Edge) → k < i → k < length row → 0 < (get_or row k d).amount → base_of supports (get_or row k d) ≤ highest
  pub beyond : (k : ℕ) (d : Edge) → k < i → k < length row → (get_or row k d).amount ≡ 0 → others ≤ base_of supports (get_or row k d)
  pub few : count ≤ i

-- one edge more of the row is passed
module _ (supports : List ℕ) (row : List Edge) (i : ℕ) (h : i < length row) where
  abbrev edge : Edge
  edge = get_or row i no_edge

  -- whatever is read behind the last edge, it stands there
  is : (d : Edge) → edge ≡ get_or row i d
  is d = get_or_default row i no_edge d h

  -- what holds of it holds at each place that is passed with it and was not before
  here : (k : ℕ) (d : Edge) → k < i + 1 → i ≤ k → (P : Edge → Type 0) → P edge → P (get_or row k d)
  here k d a c P p = subst (λ n. P (get_or row n d)) (omega (arith, a, c)) (subst P (is d) p)

  pub scanned_more : (least top lower higher : ℕ) → IsScanned supports row i least top → (0 < edge.amount → at supports edge.target ≤ least)
      → lower ≤ least → lower ≤ at supports edge.target → top ≤ higher → (0 < edge.amount → at supports edge.target ≤ higher)
      → IsScanned supports row (i + 1) lower higher
  scanned_more least top lower higher so low under own over most = record {
    below = λ k d a b. elim (cases_lt k i) [
      | inl c ↦ omega (arith, so.below k d c b, under)
      | inr c ↦ here k d a c (λ e. lower ≤ at supports e.target) own
    ];
    above = λ k d a b. elim (cases_lt k i) [
      | inl c ↦ λ p. omega (arith, so.above k d c b p, over)
      | inr c ↦ here k d a c (λ e. 0 < e.amount → at supports e.target ≤ higher) most
    ];
    falls = λ j k d l a b. elim (cases_lt k i) [
      | inl c ↦ so.falls j k d l c b
      | inr c ↦ here k d a c (λ e. 0 < e.amount → at supports e.target ≤ at supports (get_or row j d).target)
          (λ p. omega (arith, low p, so.below j d (omega (arith, l, a)) (omega (arith, l, b))))
    ];
  }

  module _ (total count highest others : ℕ) (so : IsBacked supports row i total count highest others) where
    pub backed_taken : (higher : ℕ) → 0 < edge.amount → highest ≤ higher → base_of supports edge ≤ higher
        → IsBacked supports row (i + 1) (total + base_of supports edge) (count + 1) higher others
    backed_taken higher some above own = record {
      total_is = rw (more, so.total_is) (grind (arith, common_steps));
      count_is = rw (more, so.count_is) (grind (arith, common_steps));
      below = λ k d a b p. elim (cases_lt k i) [
        | inl c ↦ omega (arith, so.below k d c b p, above)
        | inr c ↦ here k d a c (λ e. base_of supports e ≤ higher) own
      ];
      beyond = λ k d a b p. elim (cases_lt k i) [
        | inl c ↦ so.beyond k d c b p
        | inr c ↦ absurd (omega (arith, p, here k d a c (λ e. 0 < e.amount) some))
      ];
      few = omega (arith, so.few);
    } where
      more : above_zero (take (i + 1) row) ≡ above_zero (take i row) ++ (edge ∷ [])
      more = filter_more (λ (e : Edge). nat_lt 0 e.amount) row i edge h ∙ rw (sym (is edge), lt-ltb 0 edge.amount some) refl

    pub backed_kept : (least : ℕ) → edge.amount ≡ 0 → least ≤ others → least ≤ base_of supports edge
        → IsBacked supports row (i + 1) total count highest least
    backed_kept least none below own = record {
      total_is = rw more so.total_is;
      count_is = rw more so.count_is;
      below = λ k d a b p. elim (cases_lt k i) [
        | inl c ↦ so.below k d c b p
        | inr c ↦ absurd (omega (arith, p, here k d a c (λ e. e.amount ≡ 0) none))
      ];
      beyond = λ k d a b p. elim (cases_lt k i) [
        | inl c ↦ omega (arith, so.beyond k d c b p, below)
        | inr c ↦ here k d a c (λ e. least ≤ base_of supports e) own
      ];
      few = omega (arith, so.few);
    } where
      more : above_zero (take (i + 1) row) ≡ above_zero (take i row)
      more = filter_more (λ (e : Edge). nat_lt 0 e.amount) row i edge h ∙ rw (sym (is edge), le-ltb 0 edge.amount (omega (arith, none))) (append-nil (above_zero (take i row)))

-- a row is level where those with an amount lie at most a unit above its least
pub level_found : (stake : ℕ) (supports : List ℕ) (row : List Edge) (least top : ℕ) → IsRow supports row
    → IsScanned supports row (length row) least top → amount_sum row ≡ stake → top ≤ least + 1 → IsEven stake row supports
level_found stake supports row least top sound so whole near = record {
  whole = whole;
  level = λ i j d a b ne some. elim (cases_lt j i) [
    | inl front ↦ inl (so.falls j i d front a a some)
    | inr behind ↦ elim (cases_lt (at supports (get_or row j d).target) (at supports (get_or row i d).target)) [
      | inl higher ↦ inr (omega (arith, so.above i d a a some, so.below j d b b, higher, near), sound.rising i j d (omega (arith, behind, ne)) b)
      | inr lower ↦ inl lower
    ]
  ];
}
