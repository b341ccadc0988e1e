-- What the edges that are kept inherit from those that are given, and that a packed solution can be spelled.
use Rattle.std.proofs.Common.{◌≡◌, inl, inr, ℕ, zero, suc, ◌+◌, ◌-◌, ◌<◌, ◌≤◌, ◌||◌, Bool, true, false, cond, nat_eq}
use Rattle.std.proofs.Common.{nat_lt, if◌then◌else◌, All, true≢false, List, [], ◌∷◌, length, map, filter, take, fold}
use Rattle.std.proofs.Common.{get_or, sum_by, Option, Some, None, IfSome, refl, sym, ◌∙◌, ap, subst, arith, IsTrue}
use Rattle.std.specs.List.{AllByRecursion, list_any, range_with_len}
use Rattle.scale_wire.specs.Form.{Form}
use Rattle.scale_wire.specs.Composite.{IsRow}
use Rattle.std.proofs.Math.Nat.{zero-add, div-le_of_le-mul, mul-le-mul_right}
use Rattle.std.proofs.lemmas.List.{length-map, length-take, get_or_default}
use Rattle.std.proofs.Math.ListN.{get_or-map}
use Rattle.std.proofs.lemmas.List.Elements.{All-filter, All-cons, All-head, All-tail, All-get_or, All-take}
use Rattle.std.proofs.lemmas.List.FromFn.{get_or-map-range_with_len, length-range_with_len, get_or-range_with_len}
use Rattle.std.proofs.lemmas.List.Sums.{sum_by-cons}
use Rattle.std.proofs.lemmas.Bool.{cases_lt}
use Rattle.std.proofs.lemmas.Bool.Decides.{nat_tests, eqb_tells}
use Rattle.npos_base.specs.declared.figures.Edge.{Edge}
use Rattle.compact_solution.specs.declared.entry.TheConstants.{WIDE_GROUPS}
use Rattle.npos_base.specs.Edge.{edges_from}
use Rattle.compact_solution.specs.Solution.{Entry, share_form, entry_form, group_form, groups_form}
use Rattle.compact_solution.specs.Packing.{choice_of, chosen_from, choices_of, chosen, kept_of, kept_at, stake_at, parts_in, has_part}
use Rattle.compact_solution.specs.Packing.{by_target, placed, greater, greatest, share_of, entry_of, entries_with, grouped, IsPackable}
use Rattle.compact_solution.specs.Choosing.{Fits, AllFit, AllKeptFit, no_choice}
use Rattle.compact_solution.proofs.PackLemmas.{choices_many}
use Rattle.compact_solution.proofs.GroupLemmas.{many_groups, all_nominations}

-- ## Rows and parts

row_from : {A : Type 0} (item : ℕ → Form A) (first count : ℕ) (xs : List A) → length xs ≡ count
    → ((i : ℕ) (d : A) → i < count → (item (first + i)).in_range (get_or xs i d)) → IsRow item first count xs
row_from item first zero [] long each = tt
row_from item first zero (x ∷ xs) long each = absurd (omega (arith, long))
row_from item first (suc count) [] long each = absurd (omega (arith, long))
row_from {A = A} item first (suc count) (x ∷ xs) long each = (
  subst (λ (n : ℕ). (item n).in_range x) (omega arith) (each 0 x (omega arith)),
  row_from item (suc first) count xs (omega (arith, long))
      (λ i d h. subst (λ (n : ℕ). (item n).in_range (get_or xs i d)) (omega arith) (each (suc i) d (omega (arith, h)))),
)

parts_small : (stake : ℕ) (edge : Edge) → Fits stake edge → parts_in stake edge < 65536
parts_small stake edge fits =
    let within : parts_in stake edge ≤ 65535 = div-le_of_le-mul stake (mul-le-mul_right 65535 fits.within) in omega (arith, within)

-- ## What holds of each edge

module _ (P : Edge → Type 0) where
  all_placed : (edge : Edge) (edges : List Edge) → P edge → All P edges → All P (placed edges edge)
  all_placed edge [] p all = All-cons P edge [] p all
  all_placed edge (first ∷ rest) p all = at (nat_lt edge.target first.target) (all_placed edge rest p (All-tail P first rest all)) where
    at : (b : Bool) → All P (placed rest edge) → All P (if b then edge ∷ first ∷ rest else first ∷ placed rest edge)
    at true later = All-cons P edge (first ∷ rest) p all
    at false later = All-cons P first (placed rest edge) (All-head P first rest all) later

  all_sorted : (edges done : List Edge) → All P done → All P edges → All P (fold placed done edges)
  all_sorted [] done all these = all
  all_sorted (edge ∷ edges) done all these =
      all_sorted edges (placed done edge) (all_placed edge done (All-head P edge edges these) all) (All-tail P edge edges these)

  best_so_far : (edges : List Edge) (best : Option Edge) → IfSome best P → All P edges → IfSome (fold greater best edges) P
  best_so_far [] best p all = p
  best_so_far (edge ∷ edges) best p all = best_so_far edges (greater best edge) (next best p) (All-tail P edge edges all) where
    here : P edge
    here = All-head P edge edges all

    next : (best : Option Edge) → IfSome best P → IfSome (greater best edge) P
    next None p = here
    next (Some other) p = at (nat_lt other.amount edge.amount) where
      at : (b : Bool) → IfSome (if b then Some edge else Some other) P
      at true = here
      at false = p

  -- what is kept of edges are some of them
  pub all_chosen : (stake : ℕ) (edges : List Edge) → All P edges → All P (chosen (choice_of stake edges))
  all_chosen stake edges all =
      by (by_target (filter (has_part stake) edges)) (greatest edges)
      (all_sorted (filter (has_part stake) edges) [] (λ k d lt. absurd (omega (arith, lt))) (All-filter (has_part stake) P edges all))
      (best_so_far edges None tt all) where
        by : (with : List Edge) (best : Option Edge) → All P with → IfSome best P → All P (chosen_from with best)
        by [] None all p = λ k d lt. absurd (omega (arith, lt))
        by [] (Some edge) all p = All-cons P edge [] p (λ k d lt. absurd (omega (arith, lt)))
        by (edge ∷ more) best all p = all

-- ## How many are kept

length_placed : (edge : Edge) (edges : List Edge) → length (placed edges edge) ≡ length edges + 1
length_placed edge [] = refl
length_placed edge (first ∷ rest) = at (nat_lt edge.target first.target) (length_placed edge rest) where
  at : (b : Bool) → length (placed rest edge) ≡ length rest + 1 → length (if b then edge ∷ first ∷ rest else first ∷ placed rest edge) ≡ length (first ∷ rest) + 1
  at true later = omega arith
  at false later = omega (arith, later)

length_sorted : (edges done : List Edge) → length (fold placed done edges) ≡ length done + length edges
length_sorted [] done = omega arith
length_sorted (edge ∷ edges) done = omega (arith, length_sorted edges (placed done edge), length_placed edge done)

pub short_filter : {X : Type 0} (test : X → Bool) (xs : List X) → length (filter test xs) ≤ length xs
short_filter test [] = omega arith
short_filter test (x ∷ xs) = at (test x) (short_filter test xs) where
  at : (b : Bool) → length (filter test xs) ≤ length xs → length (cond b (x ∷ filter test xs) (filter test xs)) ≤ length (x ∷ xs)
  at true later = omega (arith, later)
  at false later = omega (arith, later)

no_best : (edges : List Edge) → length edges ≡ 0 → greatest edges ≡ None
no_best [] e = refl
no_best (edge ∷ edges) e = absurd (omega (arith, e))

pub few_chosen : (stake : ℕ) (edges : List Edge) → length (chosen (choice_of stake edges)) ≤ length edges
few_chosen stake edges = by (by_target (filter (has_part stake) edges)) (greatest edges) few (no_best edges) where
  few : length (by_target (filter (has_part stake) edges)) ≤ length edges
  few = omega (arith, length_sorted (filter (has_part stake) edges) [], short_filter (has_part stake) edges)

  by : (with : List Edge) (best : Option Edge) → length with ≤ length edges → (length edges ≡ 0 → best ≡ None) → length (chosen_from with best) ≤ length edges
  by [] None few none = omega arith
  by [] (Some edge) few none = elim (cases_lt 0 (length edges)) [
    | inl some ↦ omega (arith, some)
    | inr empty ↦ (let e : Some edge ≡ None = none (omega (arith, empty)) in cc)
  ]
  by (edge ∷ more) best few none = few

-- ## Every edge fits its stake

amount_within : (voter : ℕ) (edges : List Edge) (i : ℕ) (d : Edge) → i < length edges → (get_or edges i d).voter ≡ voter
    → (get_or edges i d).amount ≤ sum_by (λ (edge : Edge). edge.amount) (edges_from edges voter)
amount_within voter [] i d h own = absurd (omega (arith, h))
amount_within voter (edge ∷ edges) zero d h own =
    let test : nat_eq edge.voter voter ≡ true = grind (arith, nat_tests, own) in
    rw test (omega (arith, sum_by-cons (λ (edge : Edge). edge.amount) edge (edges_from edges voter)))
amount_within voter (edge ∷ edges) (suc i) d h own = at (nat_eq edge.voter voter) (amount_within voter edges i d (omega (arith, h)) own) where
  at : (b : Bool) → (get_or edges i d).amount ≤ sum_by (λ (edge : Edge). edge.amount) (edges_from edges voter)
      → (get_or edges i d).amount ≤ sum_by (λ (edge : Edge). edge.amount) (cond b (edge ∷ edges_from edges voter) (edges_from edges voter))
  at true within = omega (arith, within, sum_by-cons (λ (edge : Edge). edge.amount) edge (edges_from edges voter))
  at false within = within

module _ (stakes committee : List ℕ) (edges : List Edge) (fit : IsPackable stakes committee edges) where
  fits_at : (i : ℕ) (d : Edge) → i < length edges → Fits (stake_at stakes (get_or edges i d).voter) (get_or edges i d)
  fits_at i d h =
      let range : (get_or edges i d).voter < length stakes = All-get_or (λ (edge : Edge). edge.voter < length stakes) edges i d h fit.voters_in_range in
      let within = amount_within (get_or edges i d).voter edges i d h refl in
      let above : 0 < (get_or edges i d).amount = All-get_or (λ (edge : Edge). 0 < edge.amount) edges i d h fit.above in
      let stake = fit.within (get_or edges i d).voter range in
      record { some = omega (arith, within, above, stake); within = omega (arith, within, stake) }

  pub all_fit : AllFit stakes edges
  all_fit i d h = fits_at i d h

  -- the edges of a voter fit its stake
  own_fit : (voter : ℕ) → All (Fits (stake_at stakes voter)) (edges_from edges voter)
  own_fit voter = few edges all_fit where
    few : (edges : List Edge) → AllFit stakes edges → All (Fits (stake_at stakes voter)) (edges_from edges voter)
    few [] all = λ k d lt. absurd (omega (arith, lt))
    few (edge ∷ edges) all = elim (eqb_tells edge.voter voter) [
      | inl own ↦
          (let test : nat_eq edge.voter voter ≡ true = grind (arith, nat_tests, own.1) in
          rw test (All-cons (Fits (stake_at stakes voter)) edge (edges_from edges voter)
          (subst (λ (n : ℕ). Fits (stake_at stakes n) edge) own.1 (All-head (λ (edge : Edge). Fits (stake_at stakes edge.voter) edge) edge edges all))
          (few edges (All-tail (λ (edge : Edge). Fits (stake_at stakes edge.voter) edge) edge edges all))))
      | inr other ↦
          (let test : nat_eq edge.voter voter ≡ false = grind (arith, nat_tests, other.1) in
          rw test (few edges (All-tail (λ (edge : Edge). Fits (stake_at stakes edge.voter) edge) edge edges all)))
    ]

  pub many_kept : length (kept_of stakes edges) ≡ length stakes
  many_kept = length-map (choices_of stakes edges) chosen ∙ choices_many stakes edges

  kept_is : (voter : ℕ) (d : List Edge) → voter < length stakes → get_or (kept_of stakes edges) voter d ≡ chosen (choice_of (stake_at stakes voter) (edges_from edges voter))
  kept_is voter d h =
      get_or_default (kept_of stakes edges) voter d (chosen no_choice) (omega (arith, h, many_kept))
      ∙ (get_or-map chosen (choices_of stakes edges) voter no_choice
      ∙ ap chosen (get_or-map-range_with_len (λ (v : ℕ). choice_of (stake_at stakes v) (edges_from edges v)) 0 (length stakes) voter voter no_choice h (zero-add voter)))

  pub few_kept : All (λ (own : List Edge). length own ≤ WIDE_GROUPS) (kept_of stakes edges)
  few_kept voter d h =
      let short : voter < length stakes = omega (arith, h, many_kept) in
      omega (arith, ap length (kept_is voter d short), few_chosen (stake_at stakes voter) (edges_from edges voter), fit.few_edges voter, all_nominations)

  pub kept_fit : AllKeptFit stakes (kept_of stakes edges)
  kept_fit voter h =
      subst (λ (own : List Edge). All (Fits (stake_at stakes voter)) own) (sym (kept_is voter [] h))
      (all_chosen (Fits (stake_at stakes voter)) (stake_at stakes voter) (edges_from edges voter) (own_fit voter))

  -- ## A packed solution can be spelled

  module _ (members : (i : ℕ) → get_or committee i 0 < 65536) where
    named : (target : ℕ) (some : List ℕ) → ((i : ℕ) → get_or some i 0 < 65536) → list_any (λ member. nat_eq member target) some ≡ true → target < 65536
    named target [] small is = absurd (true≢false (sym is))
    named target (member ∷ some) small is = elim (eqb_tells member target) [
      | inl same ↦ omega (arith, same.1, small 0)
      | inr other ↦ named target some (λ i. small (suc i)) (let test : nat_eq member target
          ≡ false = grind (arith, nat_tests, other.1) in
          sym (ap (λ (b : Bool). b || list_any (λ m. nat_eq m target) some) test) ∙ is)
    ]

    small_targets : All (λ (edge : Edge). edge.target < 65536) edges
    small_targets i d h = named (get_or edges i d).target committee members
        (All-get_or (λ (edge : Edge). IsTrue (list_any (λ member. nat_eq member edge.target) committee)) edges i d h fit.to_members)

    small_kept : (voter : ℕ) → voter < length stakes → All (λ (edge : Edge). edge.target < 65536) (kept_at (kept_of stakes edges) voter)
    small_kept voter h =
        subst (λ (own : List Edge). All (λ (edge : Edge). edge.target < 65536) own) (sym (kept_is voter [] h))
        (all_chosen (λ (edge : Edge). edge.target < 65536) (stake_at stakes voter) (edges_from edges voter)
        (All-filter (λ (edge : Edge). nat_eq edge.voter voter) (λ edge. edge.target < 65536) edges small_targets))

    shares_fit : (stake : ℕ) (own : List Edge) → All (Fits stake) own → All (λ (edge : Edge). edge.target < 65536) own → AllByRecursion share_form.in_range (map (share_of stake) own)
    shares_fit stake [] fits small = tt
    shares_fit stake (edge ∷ own) fits small =
        let here = All-head (Fits stake) edge own fits in (
          (All-head (λ (edge : Edge). edge.target < 65536) edge own small, parts_small stake edge here),
          shares_fit stake own (All-tail (Fits stake) edge own fits) (All-tail (λ (edge : Edge). edge.target < 65536) edge own small),
        )

    entry_fits : (shares voter : ℕ) (own : List Edge) (stake : ℕ) → voter < 65536 → length own ≡ shares + 1 → All (Fits stake) own → All (λ (edge : Edge). edge.target < 65536) own
        → (entry_form shares).in_range (entry_of voter stake own)
    entry_fits shares voter own stake low count fits small = (
      omega (arith, low),
      (
        shares_fit stake (take (length own - 1) own) (All-take (Fits stake) (length own - 1) own fits) (All-take (λ (edge : Edge). edge.target < 65536) (length own - 1) own small),
        length-map (take (length own - 1) own) (share_of stake) ∙ omega (arith, count, length-take (length own - 1) own),
      ),
      All-get_or (λ (edge : Edge). edge.target < 65536) own (length own - 1) _ (omega (arith, count)) small,
    )

    entries_fit : (shares : ℕ) (voters : List ℕ) → All (λ (voter : ℕ). voter < length stakes) voters
        → AllByRecursion (entry_form shares).in_range (map (λ voter. entry_of voter (stake_at stakes voter)
        (kept_at (kept_of stakes edges) voter)) (filter
        (λ voter. nat_eq (length (kept_at (kept_of stakes edges) voter)) (shares + 1)) voters))
    entries_fit shares [] low = tt
    entries_fit shares (voter ∷ voters) low = elim (eqb_tells (length (kept_at (kept_of stakes edges) voter)) (shares + 1)) [
      | inl count ↦
          (let here : voter < length stakes = All-head (λ (voter : ℕ). voter < length stakes) voter voters low in
          let test : nat_eq (length (kept_at (kept_of stakes edges) voter)) (shares + 1) ≡ true = grind (arith, nat_tests, count.1) in
          rw test (
            entry_fits shares voter (kept_at (kept_of stakes edges) voter) (stake_at stakes voter) (omega (arith, here, fit.few_voters)) count.1 (kept_fit voter here) (small_kept voter here),
            entries_fit shares voters (All-tail (λ (voter : ℕ). voter < length stakes) voter voters low),
          ))
      | inr other ↦
          (let test : nat_eq (length (kept_at (kept_of stakes edges) voter)) (shares + 1) ≡ false = grind (arith, nat_tests, other.1) in
          rw test (entries_fit shares voters (All-tail (λ (voter : ℕ). voter < length stakes) voter voters low)))
    ]

    group_fits : (shares : ℕ) → (group_form shares).in_range (entries_with stakes (kept_of stakes edges) (length stakes) (shares + 1))
    group_fits shares = (
      omega (arith, fit.few_voters, length-map (filter keeps voters) entry, short_filter keeps voters, length-range_with_len 0 (length stakes)),
      entries_fit shares voters (λ i d h. omega (
        arith,
        h,
        length-range_with_len 0 (length stakes),
        get_or-range_with_len 0 (length stakes) i d (omega (arith, h, length-range_with_len 0 (length stakes))),
      )),
    ) where
      voters : List ℕ
      voters = range_with_len 0 (length stakes)

      keeps : ℕ → Bool
      keeps voter = nat_eq (length (kept_at (kept_of stakes edges) voter)) (shares + 1)

      entry : ℕ → Entry
      entry voter = entry_of voter (stake_at stakes voter) (kept_at (kept_of stakes edges) voter)

    pub packed_fits : (groups : ℕ) → (groups_form groups).in_range (grouped groups stakes (kept_of stakes edges) (length stakes))
    packed_fits groups =
        row_from group_form 0 groups (grouped groups stakes (kept_of stakes edges) (length stakes)) (many_groups groups stakes (kept_of stakes edges) 0 (length stakes))
        (λ i d h. subst (λ (entries : List Entry). (group_form (0 + i)).in_range entries)
        (sym (get_or-map-range_with_len (λ group. entries_with stakes (kept_of stakes edges) (length stakes) (group + 1)) 0 groups i i d h (zero-add i)))
        (subst (λ (n : ℕ). (group_form n).in_range (entries_with stakes (kept_of stakes edges) (length stakes) (i + 1))) (sym (zero-add i)) (group_fits i)))
