-- Entries without a fault make feasible weights.
use Rattle.std.proofs.Common.{◌≡◌, ℕ, ◌+◌, ◌*◌, ◌<◌, ◌≤◌, Bool, true, false, cond, not, nat_eq, nat_le, List, [], ◌∷◌, ◌++◌}
use Rattle.std.proofs.Common.{length, map, get_or, Some, None, find, All, inl, inr, refl, sym, ap, ap₂, ◌∙◌, subst, arith}
use Rattle.std.specs.Prelude.{sum, sum_by}
use Rattle.std.specs.List.{IsDistinct, AllByRecursion, list_any, range_with_len}
use Rattle.std.proofs.lemmas.Bool.{cases_Bool, true≢false, or_parts, or_from, eqb-true, eq-eqb, ne_eqb, and_left, and_right, leb-false, not-false, cond_both}
use Rattle.std.proofs.lemmas.List.{map-append, length-map}
use Rattle.std.proofs.lemmas.List.Elements.{All-head, All-tail, All-cons, All-nil, All-from_recursion, All-append, All-map, filter-append}
use Rattle.std.proofs.lemmas.List.Folds.{list_any-append}
use Rattle.std.proofs.lemmas.List.Sums.{sum_by-cons, sum_by-append, sum-map}
use Rattle.std.proofs.lemmas.List.Concat.{length-flat_map}
use Rattle.std.proofs.lemmas.List.FromFn.{fill_by_all}
use Rattle.std.proofs.Math.Nat.{div-mul-le_self, mul-le-mul_left}
use Rattle.npos_base.specs.declared.figures.Edge.{Edge}
use Rattle.election_snapshot.specs.Snapshot.{Snapshot, Voter, nobody, has, nominates, stake_of, voter_at, votes_of}
use Rattle.election_snapshot.proofs.HasLemmas.{filter_has}
use Rattle.weight_book.specs.Weights.{Follows, IsFeasible, same_pair, spent, amount_sum, edges_from}
use Rattle.weight_book.specs.Room.{vote_count}
use Rattle.weight_book.proofs.SumLemmas.{sum_covered, sum_filter-cons, sum_of_ones, sum_le}
use Rattle.compact_solution.specs.declared.entry.Share.{Share}
use Rattle.compact_solution.specs.Solution.{Entry, targets_of, parts_of, whole_stake}
use Rattle.election_check.specs.declared.fault.Fault.TheVariants.{NoVoter, NoTarget, VoterTwice, TargetTwice, NotNominated, BadShare, WrongSize}
use Rattle.election_check.specs.First.{when}
use Rattle.election_check.specs.Steps.{size_fault}
use Rattle.election_check.specs.Packed.{amount_of, edge_of, rest_of, entry_edges, listed_in, weights_of, first_repeat, unknown_target}
use Rattle.election_check.specs.Packed.{repeated_target, unnominated_target, has_bad_share, entry_fault, voters_in, entries_fault}
use Rattle.election_check.proofs.FirstLemmas.{when_none, first_none, all_good}
use Rattle.election_check.proofs.PassingLemmas.{mapped_none}
use Rattle.election_check.proofs.ListFacts.{find_none_all, All-of_map, All-flat_map, map-flat_map, all_stand, has_range, range_within, range_distinct, IsDistinct-append}

-- ## One entry

pub no_repeat : (before xs : List ℕ) → first_repeat before xs ≡ None → AllByRecursion (λ x. has before x ≡ false) xs × IsDistinct nat_eq xs
unfolding IsDistinct
no_repeat before [] none = (tt, tt)
no_repeat before (x ∷ xs) none = elim (cases_Bool (has before x)) [
  | inl t ↦ absurd (let some : Some x ≡ None = rw t at none in cc)
  | inr t ↦
      let rest = no_repeat (before ++ x ∷ []) xs (rw t at none) in
      ((t, before_alone xs rest.0), (apart xs rest.0, rest.1))
]
  where
    parted : (y : ℕ) → has (before ++ x ∷ []) y ≡ false → (has before y ≡ false) × (nat_eq x y ≡ false)
    parted y e =
        let parts = or_parts (has before y) (has (x ∷ []) y) (sym (list_any-append (λ other. nat_eq other y) before (x ∷ [])) ∙ e) in
        (parts.0, (or_parts (nat_eq x y) false parts.1).0)

    before_alone : (ys : List ℕ) → AllByRecursion (λ y. has (before ++ x ∷ []) y ≡ false) ys → AllByRecursion (λ y. has before y ≡ false) ys
    before_alone [] all = tt
    before_alone (y ∷ ys) all = ((parted y all.0).0, before_alone ys all.1)

    apart : (ys : List ℕ) → AllByRecursion (λ y. has (before ++ x ∷ []) y ≡ false) ys → AllByRecursion (λ y. nat_eq x y ≡ false) ys
    apart [] all = tt
    apart (y ∷ ys) all = ((parted y all.0).1, apart ys all.1)

-- an entry that has no fault
pub record IsSound (snapshot : Snapshot) (entry : Entry) : Type 0 where
  pub voter : entry.voter < length snapshot.voters
  pub targets : All (λ target. target < length snapshot.targets) (targets_of entry)
  pub distinct : IsDistinct nat_eq (targets_of entry)
  pub nominated : All (λ target. nominates snapshot entry.voter target ≡ true) (targets_of entry)
  pub shares : sum (parts_of entry) < whole_stake

pub entry_sound : (snapshot : Snapshot) (is_repeated : Bool) (entry : Entry) → entry_fault snapshot is_repeated entry ≡ None
    → IsSound snapshot entry × (is_repeated ≡ false)
entry_sound snapshot is_repeated entry none =
    let o1 = when (nat_le (length snapshot.voters) entry.voter) (NoVoter entry.voter) in
    let o2 = unknown_target snapshot entry in
    let o3 = when is_repeated (VoterTwice entry.voter) in
    let o4 = repeated_target entry in
    let o5 = unnominated_target snapshot entry in
    let o6 = when (has_bad_share entry) (BadShare entry.voter) in
    let (p1, r1) = first_none o1 (o2 ∷ o3 ∷ o4 ∷ o5 ∷ o6 ∷ []) none in
    let (p2, r2) = first_none o2 (o3 ∷ o4 ∷ o5 ∷ o6 ∷ []) r1 in
    let (p3, r3) = first_none o3 (o4 ∷ o5 ∷ o6 ∷ []) r2 in
    let (p4, r4) = first_none o4 (o5 ∷ o6 ∷ []) r3 in
    let (p5, r5) = first_none o5 (o6 ∷ []) r4 in
    let (p6, r6) = first_none o6 [] r5 in
    let known = find_none_all (λ target. nat_le (length snapshot.targets) target) (targets_of entry)
    (mapped_none NoTarget (find (λ target. nat_le (length snapshot.targets) target) (targets_of entry)) p2) in
    let voted = find_none_all (λ target. not (nominates snapshot entry.voter target)) (targets_of entry)
    (mapped_none (NotNominated entry.voter) (find (λ target. not (nominates snapshot entry.voter target)) (targets_of entry)) p5) in (
      record {
        voter = leb-false (length snapshot.voters) entry.voter (when_none (nat_le (length snapshot.voters) entry.voter) (NoVoter entry.voter) p1);
        targets = λ k d below. leb-false (length snapshot.targets) (get_or (targets_of entry) k d) (known k d below);
        distinct = (no_repeat [] (targets_of entry) (mapped_none TargetTwice (first_repeat [] (targets_of entry)) p4)).1;
        nominated = λ k d below. not-false (nominates snapshot entry.voter (get_or (targets_of entry) k d)) (voted k d below);
        shares = leb-false whole_stake (sum (parts_of entry))
            (or_parts (list_any (λ parts. nat_eq parts 0) (parts_of entry)) (nat_le whole_stake (sum (parts_of entry))) (when_none (has_bad_share entry) (BadShare entry.voter) p6)).1;
      },
      when_none is_repeated (VoterTwice entry.voter) p3,
    )

-- ## Its edges

edge_targets : (stake voter : ℕ) (shares : List Share) → map (λ (edge : Edge). edge.target) (map (edge_of stake voter) shares) ≡ map (λ (share : Share). share.target) shares
edge_targets stake voter [] = refl
edge_targets stake voter (share ∷ shares) = ap (λ targets. share.target ∷ targets) (edge_targets stake voter shares)

-- the edges of an entry lead to its targets
pub targets_of_edges : (stake : ℕ) (entry : Entry) → map (λ (edge : Edge). edge.target) (entry_edges stake entry) ≡ targets_of entry
targets_of_edges stake entry =
    map-append (λ (edge : Edge). edge.target) (map (edge_of stake entry.voter) entry.shares) (record { voter = entry.voter; target = entry.last; amount = rest_of stake entry.shares } ∷ [])
    ∙ ap (λ targets. targets ++ entry.last ∷ []) (edge_targets stake entry.voter entry.shares)

edge_voters : (stake voter : ℕ) (shares : List Share) → All (λ (edge : Edge). edge.voter ≡ voter) (map (edge_of stake voter) shares)
edge_voters stake voter [] = All-nil (λ (edge : Edge). edge.voter ≡ voter)
edge_voters stake voter (share ∷ shares) =
    All-cons (λ (edge : Edge). edge.voter ≡ voter) (edge_of stake voter share) (map (edge_of stake voter) shares) refl (edge_voters stake voter shares)

-- and from its voter
pub voter_of_edges : (stake : ℕ) (entry : Entry) → All (λ (edge : Edge). edge.voter ≡ entry.voter) (entry_edges stake entry)
voter_of_edges stake entry =
    let last : Edge = record { voter = entry.voter; target = entry.last; amount = rest_of stake entry.shares } in
    All-append (λ (edge : Edge). edge.voter ≡ entry.voter) (map (edge_of stake entry.voter) entry.shares) (last ∷ []) (edge_voters stake entry.voter entry.shares)
    (All-cons (λ (edge : Edge). edge.voter ≡ entry.voter) last [] refl (All-nil (λ (edge : Edge). edge.voter ≡ entry.voter)))

pub length_of_edges : (stake : ℕ) (entry : Entry) → length (entry_edges stake entry) ≡ length (targets_of entry)
length_of_edges stake entry =
    sym (length-map (entry_edges stake entry) (λ (edge : Edge). edge.target)) ∙ ap length (targets_of_edges stake entry)

more_within : (a b w s p q : ℕ) → a * w ≤ s * p → b * w ≤ s * q → (a + b) * w ≤ s * (p + q)
more_within a b w s p q here there = grind arith

amounts_within : (stake : ℕ) (shares : List Share) → sum_by (amount_of stake) shares * whole_stake ≤ stake * sum_by (λ (share : Share). share.parts) shares
amounts_within stake [] = omega arith
amounts_within stake (share ∷ shares) =
    rw (sum_by-cons (amount_of stake) share shares, sum_by-cons (λ (s : Share). s.parts) share shares)
    (more_within (amount_of stake share) (sum_by (amount_of stake) shares) whole_stake stake share.parts (sum_by (λ (s : Share). s.parts) shares)
    (div-mul-le_self (stake * share.parts) whole_stake) (amounts_within stake shares))

-- the shares are within the stake
pub shares_within : (stake : ℕ) (entry : Entry) → sum (parts_of entry) < whole_stake → sum_by (amount_of stake) entry.shares ≤ stake
shares_within stake entry fits =
    let parts : sum (parts_of entry) ≡ sum_by (λ (share : Share). share.parts) entry.shares = sum-map (λ (share : Share). share.parts) entry.shares in
    let within : sum_by (amount_of stake) entry.shares * whole_stake ≤ stake * sum_by (λ (share : Share). share.parts) entry.shares = amounts_within stake entry.shares in
    let most : stake * sum_by (λ (share : Share). share.parts) entry.shares ≤ stake * whole_stake = mul-le-mul_left stake (omega (arith, fits, parts)) in
    omega (arith, within, most)

-- ## What entries spend

edge_amounts : (stake voter : ℕ) (shares : List Share) → amount_sum (map (edge_of stake voter) shares) ≡ sum_by (amount_of stake) shares
edge_amounts stake voter [] = refl
edge_amounts stake voter (share ∷ shares) =
    sum_by-cons (λ (edge : Edge). edge.amount) (edge_of stake voter share) (map (edge_of stake voter) shares)
    ∙ (ap (λ n. amount_of stake share + n) (edge_amounts stake voter shares) ∙ sym (sum_by-cons (amount_of stake) share shares))

-- the edges of an entry give the whole stake
pub amounts_of_edges : (stake : ℕ) (entry : Entry) → sum (parts_of entry) < whole_stake → amount_sum (entry_edges stake entry) ≡ stake
amounts_of_edges stake entry fits =
    let last : Edge = record { voter = entry.voter; target = entry.last; amount = rest_of stake entry.shares } in
    let both : amount_sum (entry_edges stake entry) ≡ amount_sum (map (edge_of stake entry.voter) entry.shares) + amount_sum (last ∷ []) =
    sum_by-append (λ (edge : Edge). edge.amount) (map (edge_of stake entry.voter) entry.shares) (last ∷ []) in
    omega (arith, both, edge_amounts stake entry.voter entry.shares, sum_by-cons (λ (edge : Edge). edge.amount) last [], shares_within stake entry fits)

-- edges of one voter spend all or nothing of what they give
spent_of_one : (voter other : ℕ) (edges : List Edge) → All (λ (edge : Edge). edge.voter ≡ other) edges → spent edges voter ≡ cond (nat_eq other voter) (amount_sum edges) 0
spent_of_one voter other [] all = elim (cases_Bool (nat_eq other voter)) [
  | inl t ↦ rw t refl
  | inr t ↦ rw t refl
]
spent_of_one voter other (edge ∷ edges) all =
    let here : edge.voter ≡ other = All-head (λ (e : Edge). e.voter ≡ other) edge edges all in
    let rest = spent_of_one voter other edges (All-tail (λ (e : Edge). e.voter ≡ other) edge edges all) in
    let first : spent (edge ∷ edges) voter ≡ cond (nat_eq edge.voter voter) edge.amount 0 + spent edges voter =
    sum_filter-cons (λ (e : Edge). nat_eq e.voter voter) (λ (e : Edge). e.amount) edge edges in
    elim (cases_Bool (nat_eq other voter)) [
      | inl t ↦ first ∙ (rw (here, rest, t) (sym (sum_by-cons (λ (e : Edge). e.amount) edge edges)))
      | inr t ↦ first ∙ (rw (here, rest, t) refl)
    ]

spent-append : (xs ys : List Edge) (voter : ℕ) → spent (xs ++ ys) voter ≡ spent xs voter + spent ys voter
spent-append xs ys voter =
    ap (sum_by (λ (edge : Edge). edge.amount)) (filter-append (λ (edge : Edge). nat_eq edge.voter voter) xs ys)
    ∙ sum_by-append (λ (edge : Edge). edge.amount) (edges_from xs voter) (edges_from ys voter)

abbrev all_edges : Snapshot → List Entry → List Edge
all_edges snapshot entries = (weights_of snapshot entries).edges

module _ (snapshot : Snapshot) where
  -- a voter without an entry spends nothing, and with one its stake
  spends : (entries : List Entry) → All (IsSound snapshot) entries → IsDistinct (λ (a b : Entry). nat_eq a.voter b.voter) entries
      → (voter : ℕ) → spent (all_edges snapshot entries) voter ≡ cond (has (voters_in entries) voter) (stake_of snapshot voter) 0
  unfolding IsDistinct
  spends [] sound distinct voter = refl
  spends (entry ∷ entries) sound distinct voter =
      let here : IsSound snapshot entry = All-head (IsSound snapshot) entry entries sound in
      let rest = spends entries (All-tail (IsSound snapshot) entry entries sound) distinct.1 voter in
      let one : spent (entry_edges (stake_of snapshot entry.voter) entry) voter ≡ cond (nat_eq entry.voter voter) (stake_of snapshot entry.voter) 0 =
      spent_of_one voter entry.voter (entry_edges (stake_of snapshot entry.voter) entry) (voter_of_edges (stake_of snapshot entry.voter) entry)
      ∙ ap (λ n. cond (nat_eq entry.voter voter) n 0) (amounts_of_edges (stake_of snapshot entry.voter) entry here.shares) in
      let both : spent (all_edges snapshot (entry ∷ entries)) voter
      ≡ cond (nat_eq entry.voter voter) (stake_of snapshot entry.voter) 0 + cond (has (voters_in entries) voter)
      (stake_of snapshot voter) 0 =
      spent-append (entry_edges (stake_of snapshot entry.voter) entry) (all_edges snapshot entries) voter ∙ ap₂ (λ a b. a + b) one rest in
      elim (cases_Bool (nat_eq entry.voter voter)) [
        | inl t ↦
            let same : entry.voter ≡ voter = eqb-true entry.voter voter t in
            let none : has (voters_in entries) voter ≡ false = subst (λ (v : ℕ). has (voters_in entries) v ≡ false) same (not_among entries distinct.0) in
            both ∙ rw (t, none, same) (omega arith)
        | inr t ↦ both ∙ rw t (omega arith)
      ]
    where
      not_among : (others : List Entry) → AllByRecursion (λ (other : Entry). nat_eq entry.voter other.voter ≡ false) others → has (voters_in others) entry.voter ≡ false
      not_among [] all = refl
      not_among (other ∷ others) all = or_from (nat_eq other.voter entry.voter) (has (voters_in others) entry.voter) (flipped other.voter all.0) (not_among others all.1)
        where
          flipped : (v : ℕ) → nat_eq entry.voter v ≡ false → nat_eq v entry.voter ≡ false
          flipped v e = ne_eqb v entry.voter (λ same. true≢false (sym (eq-eqb entry.voter v (sym same)) ∙ e))

sum_by_map : {X Y : Type 0} (g : Y → ℕ) (f : X → Y) (xs : List X) → sum_by g (map f xs) ≡ sum_by (λ x. g (f x)) xs
sum_by_map g f [] = refl
sum_by_map g f (x ∷ xs) = sum_by-cons g (f x) (map f xs) ∙ (ap (λ n. g (f x) + n) (sum_by_map g f xs) ∙ sym (sum_by-cons (λ y. g (f y)) x xs))

-- ## Edges that differ

targets_apart : (edge : Edge) (edges : List Edge) → AllByRecursion (λ target. nat_eq edge.target target ≡ false) (map (λ (e : Edge). e.target) edges)
    → AllByRecursion (λ other. same_pair edge other ≡ false) edges
targets_apart edge [] all = tt
targets_apart edge (other ∷ edges) all = (and_right (nat_eq edge.voter other.voter) (nat_eq edge.target other.target) all.0, targets_apart edge edges all.1)

-- edges to different targets are different
pairs_of_targets : (edges : List Edge) → IsDistinct nat_eq (map (λ (e : Edge). e.target) edges) → IsDistinct same_pair edges
unfolding IsDistinct
pairs_of_targets [] distinct = tt
pairs_of_targets (edge ∷ edges) distinct = (targets_apart edge edges distinct.0, pairs_of_targets edges distinct.1)

voters_apart : (voter : ℕ) (edges others : List Edge) → All (λ (e : Edge). e.voter ≡ voter) edges → AllByRecursion (λ (o : Edge). nat_eq voter o.voter ≡ false) others
    → AllByRecursion (λ edge. AllByRecursion (λ other. same_pair edge other ≡ false) others) edges
voters_apart voter [] others all apart = tt
voters_apart voter (edge ∷ edges) others all apart = (from_one others apart, voters_apart voter edges others (All-tail (λ (e : Edge). e.voter ≡ voter) edge edges all) apart)
  where
    same : edge.voter ≡ voter
    same = All-head (λ (e : Edge). e.voter ≡ voter) edge edges all

    from_one : (os : List Edge) → AllByRecursion (λ (o : Edge). nat_eq voter o.voter ≡ false) os → AllByRecursion (λ other. same_pair edge other ≡ false) os
    from_one [] none = tt
    from_one (o ∷ os) none = (and_left (nat_eq edge.voter o.voter) (nat_eq edge.target o.target) (ap (λ v. nat_eq v o.voter) same ∙ none.0), from_one os none.1)

all_by-append : {X : Type 0} (P : X → Type 0) (xs ys : List X) → AllByRecursion P xs → AllByRecursion P ys → AllByRecursion P (xs ++ ys)
all_by-append P [] ys here there = there
all_by-append P (x ∷ xs) ys here there = (here.0, all_by-append P xs ys here.1 there)

module _ (snapshot : Snapshot) where
  others_apart : (voter : ℕ) (entries : List Entry) → AllByRecursion (λ (other : Entry). nat_eq voter other.voter ≡ false) entries
      → AllByRecursion (λ (edge : Edge). nat_eq voter edge.voter ≡ false) (all_edges snapshot entries)
  others_apart voter [] all = tt
  others_apart voter (entry ∷ entries) all =
      all_by-append (λ (edge : Edge). nat_eq voter edge.voter ≡ false) (entry_edges (stake_of snapshot entry.voter) entry) (all_edges snapshot entries)
      (each (entry_edges (stake_of snapshot entry.voter) entry) (voter_of_edges (stake_of snapshot entry.voter) entry)) (others_apart voter entries all.1)
    where
      each : (edges : List Edge) → All (λ (e : Edge). e.voter ≡ entry.voter) edges → AllByRecursion (λ (edge : Edge). nat_eq voter edge.voter ≡ false) edges
      each [] same = tt
      each (edge ∷ edges) same = (
        ap (λ v. nat_eq voter v) (All-head (λ (e : Edge). e.voter ≡ entry.voter) edge edges same) ∙ all.0,
        each edges (All-tail (λ (e : Edge). e.voter ≡ entry.voter) edge edges same),
      )

  pairs_differ : (entries : List Entry) → All (IsSound snapshot) entries → IsDistinct (λ (a b : Entry). nat_eq a.voter b.voter) entries
      → IsDistinct same_pair (all_edges snapshot entries)
  unfolding IsDistinct
  pairs_differ [] sound distinct = tt
  pairs_differ (entry ∷ entries) sound distinct =
      let here : IsSound snapshot entry = All-head (IsSound snapshot) entry entries sound in
      let edges = entry_edges (stake_of snapshot entry.voter) entry in
      IsDistinct-append same_pair edges (all_edges snapshot entries)
      (pairs_of_targets edges (subst (λ (ts : List ℕ). IsDistinct nat_eq ts) (sym (targets_of_edges (stake_of snapshot entry.voter) entry)) here.distinct))
      (pairs_differ entries (All-tail (IsSound snapshot) entry entries sound) distinct.1)
      (voters_apart entry.voter edges (all_edges snapshot entries) (voter_of_edges (stake_of snapshot entry.voter) entry) (others_apart entry.voter entries distinct.0))

  -- ## Edges that follow nominations

  edge_follows : (entry : Entry) → IsSound snapshot entry
      → All (λ (edge : Edge). (edge.voter < length snapshot.voters) × (nominates snapshot edge.voter edge.target ≡ true)) (entry_edges (stake_of snapshot entry.voter) entry)
  edge_follows entry sound k d below =
      let edges = entry_edges (stake_of snapshot entry.voter) entry in
      let voter : (get_or edges k d).voter ≡ entry.voter = voter_of_edges (stake_of snapshot entry.voter) entry k d below in
      let voted : nominates snapshot entry.voter (get_or edges k d).target ≡ true =
      All-of_map (λ target. nominates snapshot entry.voter target ≡ true) (λ (e : Edge). e.target) edges
      (subst (λ (ts : List ℕ). All (λ target. nominates snapshot entry.voter target ≡ true) ts) (sym (targets_of_edges (stake_of snapshot entry.voter) entry)) sound.nominated) k d below in
      (subst (λ (v : ℕ). v < length snapshot.voters) (sym voter) sound.voter, subst (λ (v : ℕ). nominates snapshot v (get_or edges k d).target ≡ true) (sym voter) voted)

  listed_within : (entries : List Entry) → All (IsSound snapshot) entries → All (λ target. target < length snapshot.targets) (listed_in entries)
  listed_within entries sound = All-flat_map (λ target. target < length snapshot.targets) targets_of entries (λ k d below. (sound k d below).targets)

  to_listed : (entries : List Entry) → All (IsSound snapshot) entries → All (λ (edge : Edge). has (weights_of snapshot entries).committee edge.target ≡ true) (all_edges snapshot entries)
  to_listed entries sound =
      All-of_map (λ target. has (weights_of snapshot entries).committee target ≡ true) (λ (e : Edge). e.target) (all_edges snapshot entries)
      (subst (λ (ts : List ℕ). All (λ target. has (weights_of snapshot entries).committee target ≡ true) ts) (sym listed_is)
      (λ k d below. filter_has (has (listed_in entries)) (range_with_len 0 (length snapshot.targets)) (get_or (listed_in entries) k d)
      (has_range 0 (length snapshot.targets) (get_or (listed_in entries) k d) (omega arith) (omega (arith, listed_within entries sound k d below)))
      (all_stand (listed_in entries) k d below)))
    where
      listed_is : map (λ (e : Edge). e.target) (all_edges snapshot entries) ≡ listed_in entries
      listed_is = map-flat_map (λ (e : Edge). e.target) (λ entry. entry_edges (stake_of snapshot entry.voter) entry) targets_of
          (λ entry. targets_of_edges (stake_of snapshot entry.voter) entry) entries

  -- entries that have no fault
  pub all_sound : (entries : List Entry) → entries_fault snapshot [] entries ≡ None
      → All (IsSound snapshot) entries × IsDistinct (λ (a b : Entry). nat_eq a.voter b.voter) entries
  all_sound entries none =
      let (each, distinct) = all_good (λ (a b : Entry). nat_eq a.voter b.voter) (IsSound snapshot)
      (λ before entry. entry_fault snapshot (has (voters_in before) entry.voter) entry) (entries_fault snapshot) (λ _. refl) (λ _ _ _. refl) good [] entries none in
      (λ k d below. (All-from_recursion (λ entry. IsSound snapshot entry × (false ≡ false)) entries each k d below).0, distinct)
    where
      new : (before : List Entry) (voter : ℕ) → has (voters_in before) voter ≡ false → list_any (λ (other : Entry). nat_eq other.voter voter) before ≡ false
      new [] voter e = refl
      new (other ∷ before) voter e =
          let parts = or_parts (nat_eq other.voter voter) (has (voters_in before) voter) e in
          or_from (nat_eq other.voter voter) (list_any (λ (o : Entry). nat_eq o.voter voter) before) parts.0 (new before voter parts.1)

      good : (before : List Entry) (entry : Entry) → entry_fault snapshot (has (voters_in before) entry.voter) entry ≡ None
          → IsSound snapshot entry × (list_any (λ (other : Entry). nat_eq other.voter entry.voter) before ≡ false)
      good before entry e =
          let parts = entry_sound snapshot (has (voters_in before) entry.voter) entry e in
          (parts.0, new before entry.voter parts.1)

  pub follows_packed : (entries : List Entry) → entries_fault snapshot [] entries ≡ None → Follows snapshot (weights_of snapshot entries)
  follows_packed entries none =
      let sound = (all_sound entries none).0 in
      let edges = All-flat_map (λ (edge : Edge). (edge.voter < length snapshot.voters) × (nominates snapshot edge.voter edge.target ≡ true))
      (λ entry. entry_edges (stake_of snapshot entry.voter) entry) entries (λ k d below. edge_follows (get_or entries k d) (sound k d below)) in
      record {
        members_in_range = λ k d below.
            let within = (All-from_recursion (λ n. (0 ≤ n) × (n < 0 + length snapshot.targets)) (weights_of snapshot entries).committee
            (range_within (has (listed_in entries)) 0 (length snapshot.targets)) k d below).1 in
            omega (arith, within);
        members_distinct = range_distinct (has (listed_in entries)) 0 (length snapshot.targets);
        pairs_distinct = pairs_differ entries sound (all_sound entries none).1;
        voters_in_range = λ k d below. (edges k d below).0;
        to_members = to_listed entries sound;
        nominated = λ k d below. (edges k d below).1;
      }

  pub feasible_packed : (entries : List Entry) → entries_fault snapshot [] entries ≡ None → size_fault snapshot (weights_of snapshot entries) ≡ None
      → IsFeasible snapshot (weights_of snapshot entries)
  feasible_packed entries none filled = record {
    follows = follows_packed entries none;
    seats_filled = eqb-true (length (weights_of snapshot entries).committee) snapshot.seats
        (not-false (nat_eq (length (weights_of snapshot entries).committee) snapshot.seats)
        (when_none (not (nat_eq (length (weights_of snapshot entries).committee) snapshot.seats)) (WrongSize (length (weights_of snapshot entries).committee)) filled));
    within_stakes = λ voter below.
        let sound = all_sound entries none in
        let part = cond_both (has (voters_in entries) voter) (stake_of snapshot voter) 0 (λ n. n ≤ stake_of snapshot voter) (λ _. omega arith) (λ _. omega arith) in
        omega (arith, spends snapshot entries sound.0 sound.1 voter, part);
  }

  -- ## Room for the edges

  few_targets : (entry : Entry) → IsSound snapshot entry → length (targets_of entry) ≤ length (votes_of snapshot entry.voter)
  few_targets entry sound =
      let covered = sum_covered (λ _. 1) (targets_of entry) (votes_of snapshot entry.voter) sound.distinct sound.nominated in
      omega (arith, covered, sum_of_ones (targets_of entry), sum_of_ones (votes_of snapshot entry.voter))

  votes_by_voter : sum_by (λ voter. length (votes_of snapshot voter)) (range_with_len 0 (length snapshot.voters)) ≡ vote_count snapshot
  votes_by_voter =
      sym (sum_by_map (λ (voter : Voter). length voter.votes) (voter_at snapshot) (range_with_len 0 (length snapshot.voters)))
      ∙ ap (sum_by (λ (voter : Voter). length voter.votes)) (sym (fill_by_all (voter_at snapshot) snapshot.voters (length snapshot.voters) nobody refl (λ k below. refl)))

  voters_distinct : (entries : List Entry) → IsDistinct (λ (a b : Entry). nat_eq a.voter b.voter) entries → IsDistinct nat_eq (voters_in entries)
  unfolding IsDistinct
  voters_distinct [] distinct = tt
  voters_distinct (entry ∷ entries) distinct = (others entries distinct.0, voters_distinct entries distinct.1)
    where
      others : (os : List Entry) → AllByRecursion (λ (o : Entry). nat_eq entry.voter o.voter ≡ false) os → AllByRecursion (λ v. nat_eq entry.voter v ≡ false) (voters_in os)
      others [] all = tt
      others (o ∷ os) all = (all.0, others os all.1)

  -- there is an edge at most for each nomination
  pub edges_within : (entries : List Entry) → entries_fault snapshot [] entries ≡ None → length (all_edges snapshot entries) ≤ vote_count snapshot
  edges_within entries none =
      let sound = all_sound entries none in
      let votes : ℕ → ℕ = λ voter. length (votes_of snapshot voter) in
      let count : length (all_edges snapshot entries) ≡ sum_by (λ (entry : Entry). length (entry_edges (stake_of snapshot entry.voter) entry)) entries =
      length-flat_map (λ entry. entry_edges (stake_of snapshot entry.voter) entry) entries in
      let few : sum_by (λ (entry : Entry). length (entry_edges (stake_of snapshot entry.voter) entry)) entries ≤ sum_by (λ (entry : Entry). votes entry.voter) entries =
      sum_le (λ (entry : Entry). length (entry_edges (stake_of snapshot entry.voter) entry)) (λ (entry : Entry). votes entry.voter) entries
      (λ k d below. omega (arith, length_of_edges (stake_of snapshot (get_or entries k d).voter) (get_or entries k d), few_targets (get_or entries k d) (sound.0 k d below))) in
      let covered : sum_by votes (voters_in entries) ≤ sum_by votes (range_with_len 0 (length snapshot.voters)) =
      sum_covered votes (voters_in entries) (range_with_len 0 (length snapshot.voters)) (voters_distinct entries sound.1)
      (All-map (λ voter. has (range_with_len 0 (length snapshot.voters)) voter ≡ true) (λ (e : Entry). e.voter) entries
      (λ k d below. has_range 0 (length snapshot.voters) (get_or entries k d).voter (omega arith) (omega (arith, (sound.0 k d below).voter)))) in
      omega (arith, count, few, covered, sum_by_map votes (λ (e : Entry). e.voter) entries, votes_by_voter)
