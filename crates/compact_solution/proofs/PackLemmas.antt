-- One edge more, one voter more: how what is kept and listed grows.
use Rattle.std.proofs.Common.{◌≡◌, ◌≢◌, inl, inr, ℕ, zero, suc, ◌+◌, ◌<◌, ◌≤◌, ◌||◌, Bool, true, false, cond, not, nat_eq, nat_lt, if◌then◌else◌}
use Rattle.std.proofs.Common.{All, List, [], ◌∷◌, ◌++◌, length, filter, take, fold, get_or, None, refl, sym, ◌∙◌, ap, subst, arith}
use Rattle.std.specs.List.{list_any, slice_set, insert}
use Rattle.std.proofs.Math.Nat.{zero-add}
use Rattle.std.proofs.lemmas.List.{take_all, same_lists, append-nil, get_or-set_other, get_or-set_same, length-set}
use Rattle.std.proofs.lemmas.List.Elements.{filter_more, filter-append, All-head, All-tail}
use Rattle.std.proofs.lemmas.Bool.{lt-ltb}
use Rattle.std.proofs.lemmas.List.Sums.{fold_push}
use Rattle.std.proofs.lemmas.List.Folds.{list_any_more}
use Rattle.std.proofs.lemmas.List.FromFn.{map-range_with_len_more, get_or-map-range_with_len, length-map-range_with_len}
use Rattle.std.proofs.lemmas.Bool.Decides.{nat_tests, eqb_tells}
use Rattle.npos_base.specs.declared.figures.Edge.{Edge}
use Rattle.npos_base.specs.Edge.{edges_from}
use Rattle.compact_solution.specs.Packing.{Choice, choice_of, choices_of, stake_at, has_part, by_target, placed, greater, leads_to, is_kept, lower, lowest_where, lost_among}
use Rattle.compact_solution.specs.Choosing.{no_choice, no_choices, chosen_next, AreKeptMarks}

pub choices_more : (n : ℕ) → no_choices (n + 1) ≡ no_choices n ++ no_choice ∷ []
choices_more n = map-range_with_len_more (λ (k : ℕ). no_choice) 0 n n (zero-add n)

-- ## One edge more

same_choice : (a b : Choice) → a.with_part ≡ b.with_part → a.greatest ≡ b.greatest → a ≡ b
same_choice a b p q = λ i. record { with_part = p i; greatest = q i }

choice_more : (stake : ℕ) (edges : List Edge) (edge : Edge) → choice_of stake (edges ++ edge ∷ []) ≡ chosen_next stake (choice_of stake edges) edge
choice_more stake edges edge =
    same_choice (choice_of stake (edges ++ edge ∷ [])) (chosen_next stake (choice_of stake edges) edge)
    (ap by_target (filter-append (has_part stake) edges (edge ∷ [])) ∙ at (has_part stake edge))
    (fold_push greater None edges edge) where
      at : (b : Bool) → by_target (filter (has_part stake) edges ++ cond b (edge ∷ []) [])
          ≡ (if b then placed (by_target (filter (has_part stake) edges)) edge else by_target
          (filter (has_part stake) edges))
      at true = fold_push placed [] (filter (has_part stake) edges) edge
      at false = ap by_target (append-nil (filter (has_part stake) edges))

pub choices_many : (stakes : List ℕ) (edges : List Edge) → length (choices_of stakes edges) ≡ length stakes
choices_many stakes edges = length-map-range_with_len (λ (v : ℕ). choice_of (stake_at stakes v) (edges_from edges v)) 0 (length stakes)

module _ (stakes : List ℕ) (edges : List Edge) (i : ℕ) (d : Edge) (h : i < length edges) where
  -- an edge more is one more of its voter's
  abbrev own : ℕ → Bool
  own voter = nat_eq (get_or edges i d).voter voter

  edges_more : (voter : ℕ) → edges_from (take (i + 1) edges) voter ≡ edges_from (take i edges) voter ++ cond (own voter) (get_or edges i d ∷ []) []
  edges_more voter = filter_more (λ (edge : Edge). nat_eq edge.voter voter) edges i d h

  choice_at : (voter : ℕ) (given : List Edge) (e : Choice) → voter < length stakes → get_or (choices_of stakes given) voter e ≡ choice_of (stake_at stakes voter) (edges_from given voter)
  choice_at voter given e within =
      get_or-map-range_with_len (λ (v : ℕ). choice_of (stake_at stakes v) (edges_from given v)) 0 (length stakes) voter voter e within (zero-add voter)

  many : (given : List Edge) → length (choices_of stakes given) ≡ length stakes
  many given = choices_many stakes given

  pub choose_more : (voter : ℕ) (new : Choice) → voter ≡ (get_or edges i d).voter → voter < length stakes
      → new ≡ chosen_next (stake_at stakes voter) (get_or (choices_of stakes (take i edges)) voter no_choice) (get_or edges i d)
      → slice_set (choices_of stakes (take i edges)) voter new ≡ choices_of stakes (take (i + 1) edges)
  choose_more voter new is within new_is =
      same_lists (slice_set old voter new) (choices_of stakes (take (i + 1) edges))
      (length-set old voter new ∙ (many (take i edges) ∙ sym (many (take (i + 1) edges))))
      (λ k e lt. let short : k < length stakes = omega (arith, lt, length-set old voter new, many (take i edges)) in
      elim (eqb_tells k voter) [
        | inl here ↦ (let s : k ≡ voter = here.1 in at_here k e s) ∙ sym (choice_at k (take (i + 1) edges) e short)
        | inr other ↦ at_other k e short other.1 ∙ sym (choice_at k (take (i + 1) edges) e short)
      ]) where
        old : List Choice
        old = choices_of stakes (take i edges)

        test_here : nat_eq (get_or edges i d).voter voter ≡ true
        test_here = grind (arith, nat_tests, is)

        grown : (b : Bool) (k : ℕ) → own k ≡ b → edges_from (take (i + 1) edges) k ≡ edges_from (take i edges) k ++ cond b (get_or edges i d ∷ []) []
        grown b k e = edges_more k ∙ ap (λ (c : Bool). edges_from (take i edges) k ++ cond c (get_or edges i d ∷ []) []) e

        at_here : (k : ℕ) (e : Choice) → k ≡ voter → get_or (slice_set old voter new) k e ≡ choice_of (stake_at stakes k) (edges_from (take (i + 1) edges) k)
        at_here k e same =
            ap (λ (n : ℕ). get_or (slice_set old voter new) n e) same
            ∙ (get_or-set_same old voter new e (omega (arith, within, many (take i edges)))
            ∙ (new_is ∙ (ap (λ (c : Choice). chosen_next (stake_at stakes voter) c (get_or edges i d)) (choice_at voter (take i edges) no_choice within)
            ∙ (sym (choice_more (stake_at stakes voter) (edges_from (take i edges) voter) (get_or edges i d))
            ∙ (sym (ap (choice_of (stake_at stakes voter)) (grown true voter test_here))
            ∙ ap (λ (n : ℕ). choice_of (stake_at stakes n) (edges_from (take (i + 1) edges) n)) (sym same))))))

        at_other : (k : ℕ) (e : Choice) → k < length stakes → k ≢ voter → get_or (slice_set old voter new) k e ≡ choice_of (stake_at stakes k) (edges_from (take (i + 1) edges) k)
        at_other k e short differ =
            let test : own k ≡ false = grind (arith, nat_tests, is, differ) in
            get_or-set_other old voter k new e differ
            ∙ (choice_at k (take i edges) e short
            ∙ ap (choice_of (stake_at stakes k)) (sym (grown false k test ∙ append-nil (edges_from (take i edges) k))))

-- ## Placing

-- an edge goes where those before have no higher target and the one there has
pub placed_at : (edge : Edge) (edges : List Edge) (at : ℕ) (d : Edge) → at ≤ length edges → All (λ (other : Edge). other.target ≤ edge.target) (take at edges)
    → (at < length edges → edge.target < (get_or edges at d).target) → insert edges at edge ≡ placed edges edge
placed_at edge [] at d within low high = by at within where
  by : (n : ℕ) → n ≤ 0 → insert [] n edge ≡ edge ∷ []
  by zero h = refl
  by (suc n) h = absurd (omega (arith, h))
placed_at edge (first ∷ rest) zero d within low high =
    let test : nat_lt edge.target first.target ≡ true = lt-ltb edge.target first.target (high (omega arith)) in rw test refl
placed_at edge (first ∷ rest) (suc at) d within low high =
    let below : first.target ≤ edge.target = All-head (λ (other : Edge). other.target ≤ edge.target) first (take at rest) low in
    let test : nat_lt edge.target first.target ≡ false = grind (arith, nat_tests, below) in
    rw test (ap (λ (later : List Edge). first ∷ later)
    (placed_at edge rest at d (omega (arith, within)) (All-tail (λ (other : Edge). other.target ≤ edge.target) first (take at rest) low) (λ lt. high (omega (arith, lt)))))

-- ## Marks

-- one list more
pub kept_more : (kept : List (List Edge)) (i : ℕ) (d : List Edge) (target : ℕ) → i < length kept
    → is_kept (take (i + 1) kept) target ≡ (is_kept (take i kept) target || list_any (leads_to target) (get_or kept i d))
kept_more kept i d target h = list_any_more (λ (edges : List Edge). list_any (leads_to target) edges) kept i d h

pub marks_more : (kept : List (List Edge)) (i : ℕ) (d : List Edge) (old new : List Bool) → i < length kept → AreKeptMarks (take i kept) old → length new ≡ length old
    → ((target : ℕ) → target < 65536 → get_or new target false ≡ (get_or old target false || list_any (leads_to target) (get_or kept i d)))
    → AreKeptMarks (take (i + 1) kept) new
marks_more kept i d old new h marks count more = record {
  count = count ∙ marks.count;
  are = λ target below. more target below ∙ (ap (λ (b : Bool). b || list_any (leads_to target) (get_or kept i d)) (marks.are target below) ∙ sym (kept_more kept i d target h));
}

-- one edge more
pub mark_more : (edges : List Edge) (i : ℕ) (d : Edge) (first old : List Bool) → i < length edges → length old ≡ 65536 → (get_or edges i d).target < 65536
    → ((target : ℕ) → target < 65536 → get_or old target false ≡ (get_or first target false || list_any (leads_to target) (take i edges)))
    → (target : ℕ) → target < 65536 → get_or (slice_set old (get_or edges i d).target true) target false ≡ (get_or first target false || list_any (leads_to target) (take (i + 1) edges))
mark_more edges i d first old h count short before target below = elim (eqb_tells target (get_or edges i d).target) [
  | inl here ↦
      (let same : target ≡ (get_or edges i d).target = here.1 in
      let test : leads_to target (get_or edges i d) ≡ true = grind (arith, nat_tests, same) in
      ap (λ (n : ℕ). get_or (slice_set old (get_or edges i d).target true) n false) same
      ∙ (get_or-set_same old (get_or edges i d).target true false (omega (arith, short, count))
      ∙ sym (ap (λ (b : Bool). get_or first target false || b) (list_any_more (leads_to target) edges i d h
      ∙ ap (λ (b : Bool). list_any (leads_to target) (take i edges) || b) test)
      ∙ always (get_or first target false) (list_any (leads_to target) (take i edges)))))
  | inr other ↦
      (let differ : target ≢ (get_or edges i d).target = other.1 in
      let test : leads_to target (get_or edges i d) ≡ false = grind (arith, nat_tests, differ) in
      get_or-set_other old (get_or edges i d).target target true false differ
      ∙ (before target below
      ∙ ap (λ (b : Bool). get_or first target false || b) (sym (list_any_more (leads_to target) edges i d h
      ∙ (ap (λ (b : Bool). list_any (leads_to target) (take i edges) || b) test
      ∙ never (list_any (leads_to target) (take i edges)))))))
] where
  always : (a b : Bool) → (a || (b || true)) ≡ true
  always true b = refl
  always false true = refl
  always false false = refl

  never : (b : Bool) → (b || false) ≡ b
  never true = refl
  never false = refl

-- one number more
pub lowest_more : (test : ℕ → Bool) (numbers : List ℕ) (i d : ℕ) → i < length numbers
    → lowest_where test (take (i + 1) numbers)
    ≡ (if test (get_or numbers i d)
    then lower (lowest_where test (take i numbers)) (get_or numbers i d)
    else lowest_where test (take i numbers))
lowest_more test numbers i d h =
    ap (λ (passed : List ℕ). fold lower None passed) (filter_more test numbers i d h) ∙ at (test (get_or numbers i d)) where
      before : List ℕ
      before = filter test (take i numbers)

      at : (b : Bool) → fold lower None (before ++ cond b (get_or numbers i d ∷ []) [])
          ≡ (if b then lower (fold lower None before) (get_or numbers i d) else fold lower None before)
      at true = fold_push lower None before (get_or numbers i d)
      at false = ap (λ (passed : List ℕ). fold lower None passed) (append-nil before)

-- the members that are not marked are those that are lost
pub unmarked_lost : (kept : List (List Edge)) (marks : List Bool) (members : List ℕ) → AreKeptMarks kept marks
    → ((i : ℕ) → get_or members i 0 < 65536)
    → lowest_where (λ member. not (get_or marks member false)) members ≡ lost_among kept members
unmarked_lost kept marks members are small = ap (fold lower None) (same members small) where
  same : (members : List ℕ) → ((i : ℕ) → get_or members i 0 < 65536)
      → filter (λ member. not (get_or marks member false)) members ≡ filter (λ member. not (is_kept kept member)) members
  same [] small = refl
  same (member ∷ members) small =
      let rest = filter (λ m. not (get_or marks m false)) members in
      ap (λ (b : Bool). cond (not b) (member ∷ rest) rest) (are.are member (small 0))
      ∙ ap (λ (rest : List ℕ). cond (not (is_kept kept member)) (member ∷ rest) rest) (same members (λ i. small (suc i)))

pub all_lower : (edge : Edge) (edges : List Edge) (n : ℕ) → length edges ≤ n → All (λ (other : Edge). other.target ≤ edge.target) (take n edges) → insert edges (length edges) edge ≡ placed edges edge
all_lower edge edges n h low =
    placed_at edge edges (length edges) edge (omega arith)
    (subst (λ (xs : List Edge). All (λ (other : Edge). other.target ≤ edge.target) xs) (take_all n edges h ∙ sym (take_all (length edges) edges (omega arith))) low) (λ lt. absurd (omega (arith, lt)))
