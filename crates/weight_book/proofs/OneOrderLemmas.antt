-- Edges that rise are told by which edges they are, so that any sort of those that give something makes
-- the edges that are kept.
use Rattle.std.proofs.Common.{◌≡◌, ℕ, suc, ◌≤◌, Bool, true, false, cond, ◌&&◌, IsTrue, nat_eq, List, [], ◌∷◌, filter, sum_by, refl, ap, ap₂, sym, ◌∙◌, true≢false, arith}
use Rattle.std.specs.List.{AllByRecursion}
use Rattle.std.specs.List.Sorted.{IsPermutation}
use Rattle.std.proofs.lemmas.Bool.Decides.{nat_tests}
use Rattle.std.proofs.lemmas.List.Elements.{recursion_from_All, All-from_recursion}
use Rattle.std.proofs.lemmas.List.Kept.{AllPairs-cons}
use Rattle.std.proofs.lemmas.List.Sums.{sum_by-cons}
use Rattle.std.proofs.lemmas.List.Sorted.{sum_by-IsPermutation}
use Rattle.std.proofs.lemmas.Bool.{and_parts}
use Rattle.npos_base.specs.declared.figures.Edge.{Edge}
use Rattle.weight_book.specs.GivenEdges.{gives, is_before, kept_edges, AreRising, OneOrderLaw}
use Rattle.weight_book.proofs.GivenEdgeLemmas.{IsAhead, Rise, before_apart, sum_in_order, support_kept, kept_rise, kept_give}

abbrev same_edge : Edge → Edge → Bool
same_edge a b = nat_eq a.voter b.voter && (nat_eq a.target b.target && nat_eq a.amount b.amount)

edge_is : (a b : Edge) → same_edge a b ≡ true → a ≡ b
edge_is a b e =
    let first = and_parts (nat_eq a.voter b.voter) (nat_eq a.target b.target && nat_eq a.amount b.amount) e in
    let second = and_parts (nat_eq a.target b.target) (nat_eq a.amount b.amount) first.1 in
    let voters : a.voter ≡ b.voter = grind (arith, nat_tests, first.0) in
    let targets : a.target ≡ b.target = grind (arith, nat_tests, second.0) in
    let amounts : a.amount ≡ b.amount = grind (arith, nat_tests, second.1) in
    λ i. record { voter = voters i; target = targets i; amount = amounts i }

edge_itself : (a : Edge) → same_edge a a ≡ true
edge_itself a =
    let voters : nat_eq a.voter a.voter ≡ true = grind (arith, nat_tests) in
    let targets : nat_eq a.target a.target ≡ true = grind (arith, nat_tests) in
    let amounts : nat_eq a.amount a.amount ≡ true = grind (arith, nat_tests) in
    rw (voters, targets, amounts) refl

abbrev one : Bool → ℕ
one b = cond b 1 0

abbrev count : Edge → List Edge → ℕ
count edge edges = sum_by (λ other. one (same_edge edge other)) edges

-- an edge that is counted behind another stands behind it
counted_behind : (first edge : Edge) (edges : List Edge) → AllByRecursion (IsAhead first) edges → 1 ≤ count edge edges → is_before first edge ≡ true
counted_behind first edge [] ahead some = absurd (omega (arith, some))
counted_behind first edge (next ∷ edges) ahead some = at (same_edge edge next) refl (counted_behind first edge edges ahead.1) where
  at : (b : Bool) → same_edge edge next ≡ b → (1 ≤ count edge edges → is_before first edge ≡ true) → is_before first edge ≡ true
  at true is rest = ap (is_before first) (edge_is edge next is) ∙ ahead.0
  at false is rest =
      let here : one (same_edge edge next) ≡ 0 = ap one is in
      rest (omega (arith, some, here, sum_by-cons (λ other. one (same_edge edge other)) next edges))

abbrev AreCountedAlike : List Edge → List Edge → Type 0
AreCountedAlike xs ys = (edge : Edge) → count edge xs ≡ count edge ys

head_counted : (x : Edge) (xs : List Edge) → 1 ≤ count x (x ∷ xs)
head_counted x xs =
    let here : one (same_edge x x) ≡ 1 = ap one (edge_itself x) in
    omega (arith, here, sum_by-cons (λ other. one (same_edge x other)) x xs)

-- edges that rise and are counted alike are the same
risen_same : (xs ys : List Edge) → Rise xs → Rise ys → ((edge : Edge) → count edge xs ≡ count edge ys) → xs ≡ ys
risen_same [] [] up over alike = refl
risen_same [] (y ∷ ys) up over alike = absurd (omega (arith, head_counted y ys, alike y))
risen_same (x ∷ xs) [] up over alike = absurd (omega (arith, head_counted x xs, alike x))
risen_same (x ∷ xs) (y ∷ ys) up over alike = at (same_edge x y) refl (risen_same xs ys up.1 over.1) where
  at : (b : Bool) → same_edge x y ≡ b → (AreCountedAlike xs ys → xs ≡ ys) → x ∷ xs ≡ y ∷ ys
  at true is rest =
      let same : x ≡ y = edge_is x y is in
      ap₂ (λ (e : Edge) (es : List Edge). e ∷ es) same
      (rest (λ edge. omega (
        arith,
        alike edge,
        ap (λ (e : Edge). one (same_edge edge e)) same,
        sum_by-cons (λ other. one (same_edge edge other)) x xs,
        sum_by-cons (λ other. one (same_edge edge other)) y ys,
      )))
  at false is rest =
      let here : one (same_edge x y) ≡ 0 = ap one is in
      let y_before_x : is_before y x ≡ true =
      counted_behind y x ys over.0 (omega (arith, here, head_counted x xs, alike x, sum_by-cons (λ other. one (same_edge x other)) y ys)) in
      let there : one (same_edge y x) ≡ 0 = ap one (turned (same_edge y x) refl) in
      let x_before_y : is_before x y ≡ true =
      counted_behind x y xs up.0 (omega (arith, there, head_counted y ys, alike y, sum_by-cons (λ other. one (same_edge y other)) x xs)) in
      absurd (true≢false (sym x_before_y ∙ before_apart y x y_before_x)) where
        turned : (b : Bool) → same_edge y x ≡ b → same_edge y x ≡ false
        turned false other = other
        turned true other =
            absurd (true≢false (sym (edge_itself x) ∙ (ap (same_edge x) (sym (edge_is y x other)) ∙ is)))

-- the edges that give something, sorted in any way so that they rise, are the edges that are kept
kept_sorted : (edges sorted : List Edge) → IsPermutation (filter gives edges) sorted → Rise sorted → Rise (kept_edges edges) → sorted ≡ kept_edges edges
kept_sorted edges sorted moved up over =
    risen_same sorted (kept_edges edges) up over
    (λ edge. sum_by-IsPermutation (λ other. one (same_edge edge other)) (filter gives edges) sorted moved
    ∙ sym (sum_in_order (λ other. one (same_edge edge other)) (filter gives edges)))

risen : (edges : List Edge) → AreRising edges → Rise edges
risen [] up = tt
risen (edge ∷ edges) up = (
  recursion_from_All (IsAhead edge) edges (λ k d few. up 0 (suc k) d (omega arith) (omega (arith, few))),
  risen edges (λ i j d lt few. up (suc i) (suc j) d (omega (arith, lt)) (omega (arith, few))),
)

rising : (edges : List Edge) → Rise edges → AreRising edges
rising [] up = λ i j d lt few. absurd (omega (arith, few))
rising (edge ∷ edges) up =
    AllPairs-cons (λ (first later : Edge). IsTrue (is_before first later)) edge edges (All-from_recursion (IsAhead edge) edges up.0) (rising edges up.1)

pub one_order : OneOrderLaw
one_order edges distinct = record {
  rising = rising (kept_edges edges) (kept_rise edges distinct);
  given = All-from_recursion (λ (edge : Edge). gives edge ≡ true) (kept_edges edges) (kept_give edges);
  only = λ sorted moved up. kept_sorted edges sorted moved (risen sorted up) (kept_rise edges distinct);
  supports = support_kept edges;
}
