-- One voter more: how the groups grow.
use Rattle.std.proofs.Common.{◌≡◌, ◌≢◌, inl, inr, ℕ, ◌+◌, ◌-◌, ◌<◌, ◌≤◌, Bool, true, false, not, cond, nat_eq, nat_le, All}
use Rattle.std.proofs.Common.{List, [], ◌∷◌, ◌++◌, length, map, filter, get_or, refl, sym, ◌∙◌, ap, ap₂, take, ◌&&◌, arith}
use Rattle.std.specs.List.{range_with_len, slice_set, list_all}
use Rattle.std.proofs.lemmas.List.Folds.{list_all_at, list_all_more}
use Rattle.std.proofs.Math.Nat.{zero-add}
use Rattle.std.proofs.lemmas.List.{same_lists, append-nil, map-append, map-id, get_or-set_other, get_or-set_same, length-set}
use Rattle.std.proofs.lemmas.List.Elements.{filter-append}
use Rattle.std.proofs.lemmas.List.Sums.{AllPass-from_list_all}
use Rattle.std.proofs.lemmas.List.FromFn.{map-range_with_len_more, get_or-map-range_with_len, length-map-range_with_len}
use Rattle.std.proofs.lemmas.Bool.{cases_lt, leb-true}
use Rattle.std.proofs.lemmas.Bool.Decides.{nat_tests, eqb_tells}
use Rattle.npos_base.specs.declared.figures.Edge.{Edge}
use Rattle.npos_base.specs.declared.limits.TheConstants.{MOST_NOMINATIONS}
use Rattle.compact_solution.specs.declared.entry.TheConstants.{WIDE_GROUPS}
use Rattle.compact_solution.specs.Solution.{Entry, plain_groups, wide_groups, groups_in, groups_form, solution_form}
use Rattle.compact_solution.specs.Choosing.{empty_groups}
use Rattle.compact_solution.specs.Packing.{stake_at, kept_at, entry_of, entries_with, grouped, fits_plain, groups_for}

abbrev no_entries : List Entry
no_entries = []

pub groups_more : (n : ℕ) → map {A = ℕ} {B = List Entry} (λ group. []) (range_with_len 0 (n + 1)) ≡ map (λ group. []) (range_with_len 0 n) ++ [] ∷ []
groups_more n = map-range_with_len_more (λ (group : ℕ). no_entries) 0 n n (zero-add n)

pub many_empty : (groups : ℕ) → length (empty_groups groups) ≡ groups
many_empty groups = length-map-range_with_len (λ (group : ℕ). no_entries) 0 groups

range_more : (n : ℕ) → range_with_len 0 (n + 1) ≡ range_with_len 0 n ++ n ∷ []
range_more n = sym (map-id (range_with_len 0 (n + 1))) ∙ (map-range_with_len_more (λ (k : ℕ). k) 0 n n (zero-add n) ∙ ap (λ (ns : List ℕ). ns ++ n ∷ []) (map-id (range_with_len 0 n)))

module _ (groups : ℕ) (stakes : List ℕ) (kept : List (List Edge)) (n : ℕ) where
  abbrev entry : ℕ → Entry
  entry voter = entry_of voter (stake_at stakes voter) (kept_at kept voter)

  abbrev keeps : ℕ → ℕ → Bool
  keeps count voter = nat_eq (length (kept_at kept voter)) count

  entries_more : (count : ℕ) (b : Bool) → keeps count n ≡ b → entries_with stakes kept (n + 1) count ≡ entries_with stakes kept n count ++ cond b (entry n ∷ []) []
  entries_more count b e =
      ap (λ (voters : List ℕ). map entry (filter (keeps count) voters)) (range_more n)
      ∙ (ap (map entry) (filter-append (keeps count) (range_with_len 0 n) (n ∷ []))
      ∙ (map-append entry (filter (keeps count) (range_with_len 0 n)) (cond (keeps count n) (n ∷ []) [])
      ∙ ap (λ (more : List Entry). entries_with stakes kept n count ++ more) (at b e))) where
        at : (b : Bool) → keeps count n ≡ b → map entry (cond (keeps count n) (n ∷ []) []) ≡ cond b (entry n ∷ []) []
        at true e = rw e refl
        at false e = rw e refl

  group_at : (voters k : ℕ) (d : List Entry) → k < groups → get_or (grouped groups stakes kept voters) k d ≡ entries_with stakes kept voters (k + 1)
  group_at voters k d h = get_or-map-range_with_len (λ (group : ℕ). entries_with stakes kept voters (group + 1)) 0 groups k k d h (zero-add k)

  pub many_groups : (voters : ℕ) → length (grouped groups stakes kept voters) ≡ groups
  many_groups voters = length-map-range_with_len (λ (group : ℕ). entries_with stakes kept voters (group + 1)) 0 groups

  -- a voter that keeps nothing has no entry
  pub entry_none : length (kept_at kept n) ≡ 0 → grouped groups stakes kept n ≡ grouped groups stakes kept (n + 1)
  entry_none none =
      same_lists (grouped groups stakes kept n) (grouped groups stakes kept (n + 1)) (many_groups n ∙ sym (many_groups (n + 1)))
      (λ k d lt.
      let short : k < groups = omega (arith, lt, many_groups n) in
      let test : keeps (k + 1) n ≡ false = grind (arith, nat_tests, none) in
      group_at n k d short ∙ (sym (entries_more (k + 1) false test ∙ append-nil (entries_with stakes kept n (k + 1))) ∙ sym (group_at (n + 1) k d short)))

  pub entry_listed : (group : ℕ) (new : List Entry) → length (kept_at kept n) ≡ group + 1 → group < groups
      → new ≡ get_or (grouped groups stakes kept n) group [] ++ entry n ∷ [] → slice_set (grouped groups stakes kept n) group new ≡ grouped groups stakes kept (n + 1)
  entry_listed group new count within new_is =
      same_lists (slice_set (grouped groups stakes kept n) group new) (grouped groups stakes kept (n + 1))
      (length-set (grouped groups stakes kept n) group new ∙ (many_groups n ∙ sym (many_groups (n + 1))))
      (λ k d lt. let short : k < groups = omega (arith, lt, length-set (grouped groups stakes kept n) group new, many_groups n) in
      elim (eqb_tells k group) [
        | inl here ↦ (let same : k ≡ group = here.1 in at_here k d same ∙ sym (group_at (n + 1) k d short))
        | inr other ↦ at_other k d short other.1 ∙ sym (group_at (n + 1) k d short)
      ]) where
        at_here : (k : ℕ) (d : List Entry) → k ≡ group → get_or (slice_set (grouped groups stakes kept n) group new) k d ≡ entries_with stakes kept (n + 1) (k + 1)
        at_here k d same =
            let test : keeps (group + 1) n ≡ true = grind (arith, nat_tests, count) in
            ap (λ (i : ℕ). get_or (slice_set (grouped groups stakes kept n) group new) i d) same
            ∙ (get_or-set_same (grouped groups stakes kept n) group new d (omega (arith, within, many_groups n))
            ∙ (new_is ∙ (ap (λ (entries : List Entry). entries ++ entry n ∷ []) (group_at n group [] within)
            ∙ (sym (entries_more (group + 1) true test) ∙ ap (λ (i : ℕ). entries_with stakes kept (n + 1) (i + 1)) (sym same)))))

        at_other : (k : ℕ) (d : List Entry) → k < groups → k ≢ group → get_or (slice_set (grouped groups stakes kept n) group new) k d ≡ entries_with stakes kept (n + 1) (k + 1)
        at_other k d short differ =
            let test : keeps (k + 1) n ≡ false = grind (arith, nat_tests, count, differ) in
            get_or-set_other (grouped groups stakes kept n) group k new d differ
            ∙ (group_at n k d short ∙ sym (entries_more (k + 1) false test ∙ append-nil (entries_with stakes kept n (k + 1))))

-- the groups after one voter, whether it keeps an edge or none
pub voter_listed : (groups : ℕ) (stakes : List ℕ) (kept : List (List Edge)) (n : ℕ) (edges : List Edge) (old new : List (List Entry)) → edges ≡ kept_at kept n → length edges ≤ groups
    → old ≡ grouped groups stakes kept n → (length edges ≡ 0 → new ≡ old)
    → (0 < length edges → new ≡ slice_set old (length edges - 1) (get_or old (length edges - 1) [] ++ entry_of n (stake_at stakes n) edges ∷ []))
    → new ≡ grouped groups stakes kept (n + 1)
voter_listed groups stakes kept n edges old new here few before none some = elim (cases_lt 0 (length edges)) [
  | inl any ↦
      (let last : ℕ = length edges - 1 in
      let count : length (kept_at kept n) ≡ last + 1 = omega (arith, ap length here, any) in
      some any ∙ ((λ i. slice_set (before i) last (get_or (before i) last [] ++ entry_of n (stake_at stakes n) (here i) ∷ []))
      ∙ entry_listed groups stakes kept n last _ count (omega (arith, few, any)) refl))
  | inr empty ↦
      (let nothing : length edges ≡ 0 = omega (arith, empty) in
      none nothing ∙ (before ∙ entry_none groups stakes kept n (sym (ap length here) ∙ nothing)))
]

-- ## How many groups

-- a wide solution has a group for each number of targets that a voter can nominate
pub all_nominations : MOST_NOMINATIONS ≤ WIDE_GROUPS
all_nominations = omega arith

wide_most : WIDE_GROUPS ≤ wide_groups
unfolding wide_groups
wide_most = omega arith

pub groups_most : (wide : Bool) → groups_in wide ≤ WIDE_GROUPS
unfolding plain_groups wide_groups
groups_most true = omega arith
groups_most false = omega arith

-- what fits into a plain solution, by voter
plain_few : (kept : List (List Edge)) → fits_plain kept ≡ true → All (λ (own : List Edge). length own ≤ plain_groups) kept
plain_few kept fits k d h =
    leb-true (length (get_or kept k d)) plain_groups (AllPass-from_list_all (λ (own : List Edge). nat_le (length own) plain_groups) kept fits k d h)

-- there are groups enough for what is kept
pub enough_groups : (kept : List (List Edge)) → All (λ (own : List Edge). length own ≤ WIDE_GROUPS) kept
    → All (λ (own : List Edge). length own ≤ groups_for kept) kept
enough_groups kept few = at (fits_plain kept) refl where
  at : (b : Bool) → fits_plain kept ≡ b → All (λ (own : List Edge). length own ≤ groups_in (not b)) kept
  at true fits = plain_few kept fits
  at false over = λ k d h. omega (arith, few k d h, wide_most)

-- groups in that number make a solution
pub in_form : (kept : List (List Edge)) (groups : List (List Entry)) → (groups_form (groups_for kept)).in_range groups → solution_form.in_range groups
in_form kept groups = at (fits_plain kept) where
  at : (b : Bool) → (groups_form (groups_in (not b))).in_range groups → solution_form.in_range groups
  at true fits = inl fits
  at false fits = inr fits

-- one list more
abbrev fits_one : List Edge → Bool
fits_one own = nat_le (length own) plain_groups

pub over_plain : (kept : List (List Edge)) (i : ℕ) (own : List Edge) → i < length kept → own ≡ get_or kept i own → 16 < length own → false ≡ fits_plain kept
unfolding plain_groups
over_plain kept i own h is over =
    let test : nat_le (length own) 16 ≡ false = grind (arith, nat_tests, over) in
    sym (list_all_at fits_one kept i own h (ap fits_one (sym is) ∙ test))

pub within_plain : (kept : List (List Edge)) (i : ℕ) (own : List Edge) → i < length kept → own ≡ get_or kept i own → length own ≤ 16
    → list_all fits_one (take i kept) ≡ true → list_all fits_one (take (i + 1) kept) ≡ true
unfolding plain_groups
within_plain kept i own h is within so_far =
    let test : nat_le (length own) 16 ≡ true = grind (arith, nat_tests, within) in
    list_all_more fits_one kept i own h ∙ ap₂ (λ a b. a && b) so_far (ap fits_one (sym is) ∙ test)
