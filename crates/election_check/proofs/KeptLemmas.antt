-- What a voter keeps of its edges as they are packed: edges to different targets, whose shares leave something.
use Rattle.std.proofs.Common.{◌≡◌, ℕ, ◌+◌, ◌-◌, ◌*◌, ◌<◌, ◌≤◌, Bool, true, false, nat_eq, nat_lt, nat_le, if◌then◌else◌, List, [], ◌∷◌, ◌++◌}
use Rattle.std.proofs.Common.{length, map, filter, take, fold, get_or, sum_by, Option, Some, None, All, inl, inr, refl, sym, ap, ◌∙◌, arith}
use Rattle.std.specs.Prelude.{sum}
use Rattle.std.specs.List.{IsDistinct, AllByRecursion, list_any}
use Rattle.std.proofs.Math.Nat.{div-mul-le_self, le_of_mul-le-mul_left, mul-le-mul_right}
use Rattle.std.proofs.lemmas.Bool.{cases_Bool, ltb-true, eq-eqb, ne_eqb, eqb-true, true≢false, or_parts, or_from, leb-true}
use Rattle.std.proofs.lemmas.List.{map-append, take_more, take_all}
use Rattle.std.proofs.lemmas.List.Elements.{All-cons, All-nil, All-map, All-take}
use Rattle.std.proofs.lemmas.List.Folds.{list_any_none}
use Rattle.std.proofs.lemmas.List.Sums.{sum_by-cons, sum_by_more, sum-map}
use Rattle.npos_base.specs.declared.figures.Edge.{Edge}
use Rattle.npos_base.specs.Edge.{edges_from}
use Rattle.weight_book.specs.Weights.{same_pair, amount_sum}
use Rattle.weight_book.proofs.SumLemmas.{sum_filter-le}
use Rattle.compact_solution.specs.declared.entry.Share.{Share}
use Rattle.compact_solution.specs.Solution.{targets_of, parts_of, whole_stake}
use Rattle.compact_solution.specs.Packing.{parts_in, has_part, placed, by_target, greatest, choice_of, chosen_from, chosen, share_of, no_edge, entry_of}
use Rattle.election_check.specs.Packed.{first_repeat, has_bad_share}

abbrev pub same_target : Edge → Edge → Bool
same_target a b = nat_eq a.target b.target

turned : (a b : ℕ) → nat_eq a b ≡ false → nat_eq b a ≡ false
turned a b e = ne_eqb b a (λ same. true≢false (sym (eq-eqb a b (sym same)) ∙ e))

-- ## Placing

placed_all : (P : Edge → Type 0) (edge : Edge) (edges : List Edge) → P edge → AllByRecursion P edges → AllByRecursion P (placed edges edge)
placed_all P edge [] p all = (p, tt)
placed_all P edge (first ∷ rest) p all = at (nat_lt edge.target first.target) (placed_all P edge rest p all.1) where
  at : (b : Bool) → AllByRecursion P (placed rest edge) → AllByRecursion P (if b then edge ∷ first ∷ rest else first ∷ placed rest edge)
  at true later = (p, all)
  at false later = (all.0, later)

placed_distinct : (edge : Edge) (edges : List Edge) → IsDistinct same_target edges → AllByRecursion (λ other. same_target edge other ≡ false) edges
    → IsDistinct same_target (placed edges edge)
unfolding IsDistinct
placed_distinct edge [] distinct apart = (tt, tt)
placed_distinct edge (first ∷ rest) distinct apart = at (nat_lt edge.target first.target) (placed_distinct edge rest distinct.1 apart.1) where
  at : (b : Bool) → IsDistinct same_target (placed rest edge) → IsDistinct same_target (if b then edge ∷ first ∷ rest else first ∷ placed rest edge)
  at true later = (apart, distinct)
  at false later = (placed_all (λ other. same_target first other ≡ false) edge rest (turned edge.target first.target apart.0) distinct.0, later)

sorted_distinct : (edges done : List Edge) → IsDistinct same_target done → IsDistinct same_target edges
    → AllByRecursion (λ edge. AllByRecursion (λ other. same_target edge other ≡ false) done) edges → IsDistinct same_target (fold placed done edges)
unfolding IsDistinct
sorted_distinct [] done before distinct apart = before
sorted_distinct (edge ∷ edges) done before distinct apart =
    sorted_distinct edges (placed done edge) (placed_distinct edge done before apart.0) distinct.1 (both edges distinct.0 apart.1) where
      both : (edges : List Edge) → AllByRecursion (λ other. same_target edge other ≡ false) edges
          → AllByRecursion (λ later. AllByRecursion (λ other. same_target later other ≡ false) done) edges
          → AllByRecursion (λ later. AllByRecursion (λ other. same_target later other ≡ false) (placed done edge)) edges
      both [] new old = tt
      both (later ∷ edges) new old = (
        placed_all (λ other. same_target later other ≡ false) edge done (turned edge.target later.target new.0) old.0,
        both edges new.1 old.1,
      )

apart_from_none : (edges : List Edge) → AllByRecursion (λ (edge : Edge). AllByRecursion (λ other. same_target edge other ≡ false) []) edges
apart_from_none [] = tt
apart_from_none (edge ∷ edges) = (tt, apart_from_none edges)

placed_sum : (f : Edge → ℕ) (edge : Edge) (edges : List Edge) → sum_by f (placed edges edge) ≡ sum_by f edges + f edge
placed_sum f edge [] = omega (arith, sum_by-cons f edge [])
placed_sum f edge (first ∷ rest) = at (nat_lt edge.target first.target) (placed_sum f edge rest) where
  at : (b : Bool) → sum_by f (placed rest edge) ≡ sum_by f rest + f edge → sum_by f (if b then edge ∷ first ∷ rest else first ∷ placed rest edge) ≡ sum_by f (first ∷ rest) + f edge
  at true later = omega (arith, sum_by-cons f edge (first ∷ rest))
  at false later = omega (arith, sum_by-cons f first (placed rest edge), sum_by-cons f first rest, later)

sorted_sum : (f : Edge → ℕ) (edges done : List Edge) → sum_by f (fold placed done edges) ≡ sum_by f done + sum_by f edges
sorted_sum f [] done = omega arith
sorted_sum f (edge ∷ edges) done = omega (arith, sorted_sum f edges (placed done edge), placed_sum f edge done, sum_by-cons f edge edges)

-- ## Choosing

filter_apart : (P : Edge → Type 0) (p : Edge → Bool) (edges : List Edge) → AllByRecursion P edges → AllByRecursion P (filter p edges)
filter_apart P p [] all = tt
filter_apart P p (edge ∷ edges) all = elim (cases_Bool (p edge)) [
  | inl t ↦ rw t (all.0, filter_apart P p edges all.1)
  | inr t ↦ rw t (filter_apart P p edges all.1)
]

filter_distinct : (p : Edge → Bool) (edges : List Edge) → IsDistinct same_target edges → IsDistinct same_target (filter p edges)
unfolding IsDistinct
filter_distinct p [] distinct = tt
filter_distinct p (edge ∷ edges) distinct = elim (cases_Bool (p edge)) [
  | inl t ↦ rw t (filter_apart (λ other. same_target edge other ≡ false) p edges distinct.0, filter_distinct p edges distinct.1)
  | inr t ↦ rw t (filter_distinct p edges distinct.1)
]

-- the edges of one voter lead to different targets, where no pair stands twice
pub own_distinct : (voter : ℕ) (edges : List Edge) → IsDistinct same_pair edges → IsDistinct same_target (edges_from edges voter)
unfolding IsDistinct
own_distinct voter [] distinct = tt
own_distinct voter (edge ∷ edges) distinct = elim (cases_Bool (nat_eq edge.voter voter)) [
  | inl t ↦ rw t (others edges (eqb-true edge.voter voter t) distinct.0, own_distinct voter edges distinct.1)
  | inr t ↦ rw t (own_distinct voter edges distinct.1)
]
  where
    others : (edges : List Edge) → edge.voter ≡ voter → AllByRecursion (λ other. same_pair edge other ≡ false) edges
        → AllByRecursion (λ other. same_target edge other ≡ false) (edges_from edges voter)
    others [] own apart = tt
    others (other ∷ edges) own apart = elim (cases_Bool (nat_eq other.voter voter)) [
      | inl t ↦
          let same : nat_eq edge.voter other.voter ≡ true = eq-eqb edge.voter other.voter (own ∙ sym (eqb-true other.voter voter t)) in
          rw t ((rw same at apart.0), others edges own apart.1)
      | inr t ↦ rw t (others edges own apart.1)
    ]

pub chosen_distinct : (stake : ℕ) (edges : List Edge) → IsDistinct same_target edges → IsDistinct same_target (chosen (choice_of stake edges))
unfolding IsDistinct
chosen_distinct stake edges distinct =
    by (by_target (filter (has_part stake) edges)) (greatest edges)
    (sorted_distinct (filter (has_part stake) edges) [] tt (filter_distinct (has_part stake) edges distinct) (apart_from_none (filter (has_part stake) edges))) where
      by : (with : List Edge) (best : Option Edge) → IsDistinct same_target with → IsDistinct same_target (chosen_from with best)
      by [] None distinct = tt
      by [] (Some edge) distinct = (tt, tt)
      by (edge ∷ more) best distinct = distinct

pub targets_distinct : (edges : List Edge) → IsDistinct same_target edges → IsDistinct nat_eq (map (λ (edge : Edge). edge.target) edges)
unfolding IsDistinct
targets_distinct [] distinct = tt
targets_distinct (edge ∷ edges) distinct = (others edges distinct.0, targets_distinct edges distinct.1)
  where
    others : (edges : List Edge) → AllByRecursion (λ other. same_target edge other ≡ false) edges
        → AllByRecursion (λ target. nat_eq edge.target target ≡ false) (map (λ (edge : Edge). edge.target) edges)
    others [] apart = tt
    others (other ∷ edges) apart = (apart.0, others edges apart.1)

-- ## Entries

-- the targets of an entry are those of the edges that are kept
pub entry_targets : (voter stake : ℕ) (kept : List Edge) → 1 ≤ length kept
    → targets_of (entry_of voter stake kept) ≡ map (λ (edge : Edge). edge.target) kept
entry_targets voter stake kept some =
    let last = length kept - 1 in
    let count : last + 1 ≡ length kept = omega (arith, some) in
    let all : kept ≡ take last kept ++ get_or kept last no_edge ∷ [] =
    sym (take_all (last + 1) kept (omega (arith, count))) ∙ take_more kept last no_edge (omega (arith, some)) in
    ap (λ targets. targets ++ (get_or kept last no_edge).target ∷ []) (shared (take last kept))
    ∙ (sym (map-append (λ (edge : Edge). edge.target) (take last kept) (get_or kept last no_edge ∷ [])) ∙ ap (map (λ (edge : Edge). edge.target)) (sym all))
  where
    shared : (edges : List Edge) → map (λ (share : Share). share.target) (map (share_of stake) edges) ≡ map (λ (edge : Edge). edge.target) edges
    shared [] = refl
    shared (edge ∷ edges) = ap (λ targets. edge.target ∷ targets) (shared edges)

pub no_repeat_found : (before targets : List ℕ) → AllByRecursion (λ target. list_any (λ other. nat_eq other target) before ≡ false) targets → IsDistinct nat_eq targets
    → first_repeat before targets ≡ None
unfolding IsDistinct
no_repeat_found before [] new distinct = refl
no_repeat_found before (target ∷ targets) new distinct = rw new.0 (no_repeat_found (before ++ target ∷ []) targets (more targets new.1 distinct.0) distinct.1)
  where
    joined : (before : List ℕ) (other : ℕ) → list_any (λ n. nat_eq n other) before ≡ false → nat_eq target other ≡ false → list_any (λ n. nat_eq n other) (before ++ target ∷ []) ≡ false
    joined [] other e f = or_from (nat_eq target other) false f refl
    joined (n ∷ before) other e f =
        let parts = or_parts (nat_eq n other) (list_any (λ n. nat_eq n other) before) e in
        or_from (nat_eq n other) (list_any (λ n. nat_eq n other) (before ++ target ∷ [])) parts.0 (joined before other parts.1 f)

    more : (targets : List ℕ) → AllByRecursion (λ other. list_any (λ n. nat_eq n other) before ≡ false) targets → AllByRecursion (λ other. nat_eq target other ≡ false) targets
        → AllByRecursion (λ other. list_any (λ n. nat_eq n other) (before ++ target ∷ []) ≡ false) targets
    more [] old new = tt
    more (other ∷ targets) old new = (joined before other old.0 new.0, more targets old.1 new.1)

-- ## Shares

more_within : (stake one more amount amounts parts : ℕ) → one * stake ≤ amount * parts → stake * more ≤ amounts * parts → stake * (one + more) ≤ (amount + amounts) * parts
more_within stake one more amount amounts parts here there = grind arith

parts_within : (stake : ℕ) (edges : List Edge) → stake * sum_by (parts_in stake) edges ≤ amount_sum edges * 65535
parts_within stake [] = omega arith
parts_within stake (edge ∷ edges) =
    rw (sum_by-cons (parts_in stake) edge edges, sum_by-cons (λ (e : Edge). e.amount) edge edges)
    (more_within stake (parts_in stake edge) (sum_by (parts_in stake) edges) edge.amount (amount_sum edges) 65535
    (div-mul-le_self (edge.amount * 65535) stake) (parts_within stake edges))

-- the parts of edges within the stake
parts_few : (stake : ℕ) (edges : List Edge) → 0 < stake → amount_sum edges ≤ stake → sum_by (parts_in stake) edges ≤ 65535
parts_few stake edges some within =
    let most : amount_sum edges * 65535 ≤ stake * 65535 = mul-le-mul_right 65535 within in
    let all : stake * sum_by (parts_in stake) edges ≤ stake * 65535 = omega (arith, parts_within stake edges, most) in
    le_of_mul-le-mul_left all some

placed_parts : (stake : ℕ) (edges : List Edge) → sum_by (parts_in stake) (by_target (filter (has_part stake) edges)) ≤ sum_by (parts_in stake) edges
placed_parts stake edges = omega (arith, sorted_sum (parts_in stake) (filter (has_part stake) edges) [], sum_filter-le (has_part stake) (parts_in stake) edges)

all_have : (stake : ℕ) (edges : List Edge) → AllByRecursion (λ edge. has_part stake edge ≡ true) (by_target (filter (has_part stake) edges))
all_have stake edges = sorted (filter (has_part stake) edges) [] (kept edges) tt where
  kept : (edges : List Edge) → AllByRecursion (λ edge. has_part stake edge ≡ true) (filter (has_part stake) edges)
  kept [] = tt
  kept (edge ∷ edges) = elim (cases_Bool (has_part stake edge)) [
    | inl t ↦ rw t (t, kept edges)
    | inr t ↦ rw t (kept edges)
  ]

  sorted : (edges done : List Edge) → AllByRecursion (λ edge. has_part stake edge ≡ true) edges → AllByRecursion (λ edge. has_part stake edge ≡ true) done
      → AllByRecursion (λ edge. has_part stake edge ≡ true) (fold placed done edges)
  sorted [] done all before = before
  sorted (edge ∷ edges) done all before = sorted edges (placed done edge) all.1 (placed_all (λ edge. has_part stake edge ≡ true) edge done all.0 before)

parts_are : (stake voter : ℕ) (kept : List Edge) → parts_of (entry_of voter stake kept) ≡ map (parts_in stake) (take (length kept - 1) kept)
parts_are stake voter kept = same (take (length kept - 1) kept) where
  same : (edges : List Edge) → map (λ (share : Share). share.parts) (map (share_of stake) edges) ≡ map (parts_in stake) edges
  same [] = refl
  same (edge ∷ edges) = ap (λ parts. parts_in stake edge ∷ parts) (same edges)

above_all : (stake : ℕ) (edges : List Edge) → AllByRecursion (λ edge. has_part stake edge ≡ true) edges → All (λ edge. 0 < parts_in stake edge) edges
above_all stake [] all = All-nil (λ edge. 0 < parts_in stake edge)
above_all stake (edge ∷ edges) all = All-cons (λ edge. 0 < parts_in stake edge) edge edges (ltb-true 0 (parts_in stake edge) all.0) (above_all stake edges all.1)

-- edges that all have a part, with few parts in all: those of the first ones leave a part of the last
good_shares : (stake : ℕ) (edge : Edge) (more : List Edge) → All (λ edge. 0 < parts_in stake edge) (edge ∷ more) → sum_by (parts_in stake) (edge ∷ more) ≤ 65535
    → let parts = map (parts_in stake) (take (length more) (edge ∷ more)) in (list_any (λ part. nat_eq part 0) parts ≡ false) × (nat_le whole_stake (sum parts) ≡ false)
good_shares stake edge more above few =
    let kept = edge ∷ more in
    let front = take (length more) kept in
    let whole : sum_by (parts_in stake) kept ≡ sum_by (parts_in stake) front + parts_in stake (get_or kept (length more) edge) =
    ap (sum_by (parts_in stake)) (sym (take_all (length more + 1) kept (omega arith))) ∙ sum_by_more (parts_in stake) kept (length more) edge (omega arith) in
    let last : 0 < parts_in stake (get_or kept (length more) edge) = above (length more) edge (omega arith) in
    let left : sum (map (parts_in stake) front) < whole_stake = omega (arith, sum-map (parts_in stake) front, whole, last, few) in (
      list_any_none (λ part. nat_eq part 0) (map (parts_in stake) front)
          (All-map (λ part. nat_eq part 0 ≡ false) (parts_in stake) front
          (λ k d h. some (parts_in stake (get_or front k d)) (All-take (λ edge. 0 < parts_in stake edge) (length more) kept above k d h))),
      over (sum (map (parts_in stake) front)) left,
    )
  where
    some : (n : ℕ) → 0 < n → nat_eq n 0 ≡ false
    some n h = ne_eqb n 0 (λ e. omega (arith, h, e))

    over : (n : ℕ) → n < whole_stake → nat_le whole_stake n ≡ false
    over n h = elim (cases_Bool (nat_le whole_stake n)) [
      | inl t ↦ absurd (omega (arith, h, leb-true whole_stake n t))
      | inr t ↦ t
    ]

pub good_entry : (voter stake : ℕ) (edges : List Edge) → 0 < stake → amount_sum edges ≤ stake → has_bad_share (entry_of voter stake (chosen (choice_of stake edges))) ≡ false
good_entry voter stake edges some within =
    by (by_target (filter (has_part stake) edges)) (greatest edges) (all_have stake edges)
    (omega (arith, placed_parts stake edges, parts_few stake edges some within)) where
      by : (with : List Edge) (best : Option Edge) → AllByRecursion (λ edge. has_part stake edge ≡ true) with → sum_by (parts_in stake) with ≤ 65535
          → has_bad_share (entry_of voter stake (chosen_from with best)) ≡ false
      by [] None have few = refl
      by [] (Some edge) have few = refl
      by (edge ∷ more) best have few =
          let good = good_shares stake edge more (above_all stake (edge ∷ more) have) few in
          let front : length (edge ∷ more) - 1 ≡ length more = omega arith in
          let parts = parts_are stake voter (edge ∷ more) ∙ ap (λ n. map (parts_in stake) (take n (edge ∷ more))) front in
          or_from (list_any (λ part. nat_eq part 0) (parts_of (entry_of voter stake (edge ∷ more)))) (nat_le whole_stake (sum (parts_of (entry_of voter stake (edge ∷ more)))))
          (ap (λ ps. list_any (λ part. nat_eq part 0) ps) parts ∙ good.0) (ap (λ ps. nat_le whole_stake (sum ps)) parts ∙ good.1)
