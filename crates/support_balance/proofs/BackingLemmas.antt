-- How a backing is kept.
use Rattle.std.proofs.Common.{◌≡◌, ◌≢◌, ℕ, zero, suc, ◌^◌, ◌<◌, Bool, true, false, ◌&&◌, ◌||◌, nat_eq, List, [], ◌∷◌, ◌++◌, length, take}
use Rattle.std.proofs.Common.{drop, append-nil, slice_index_or, replicate, get_or, set, All, inl, inr, refl, ap, sym, subst, ◌∙◌, arith}
use Rattle.std.specs.List.{AllPairs, IsDistinct}
use Rattle.std.proofs.lemmas.List.{get_or-set_same, get_or-set_other, length-set, drop_all, take_all, get_or_past, get_or-replicate, length-replicate}
use Rattle.std.proofs.lemmas.List.Elements.{All-append, All-cons, All-nil, recursion_from_All}
use Rattle.std.proofs.lemmas.List.Quantifiers.{all_pairs_push}
use Rattle.std.proofs.lemmas.List.Folds.{list_any-append, list_any_at}
use Rattle.std.proofs.lemmas.Map.Made.{AllPairs-from_IsDistinct, IsDistinct-from_AllPairs}
use Rattle.std.proofs.lemmas.Bool.{cases_Bool, cases_lt, cases_eq, ne_eqb, eq-eqb, eqb-true, and_parts, true≢false}
use Rattle.std.proofs.lemmas.Bool.Decides.{Decides-eqb}
use Rattle.npos_base.specs.declared.figures.Edge.{Edge}
use Rattle.election_snapshot.specs.Snapshot.{Snapshot, IsWellFormed, has, nominates}
use Rattle.weight_book.specs.Weights.{edges_from, same_pair, Follows}
use Rattle.support_balance.specs.Rounds.{IsBefore}
use Rattle.support_balance.specs.Rows.{AreAlike}
use Rattle.support_balance.specs.Laid.{targets_of, Covers, AreKept}
use Rattle.support_balance.specs.Slots.{AreSlots, marked, IsJoined}
use Rattle.support_balance.specs.Backing.{IsKept}
use Rattle.support_balance.proofs.AlikeLemmas.{from_alike, covers_alike}
use Rattle.support_balance.proofs.SplitLemmas.{filter_swap}
use Rattle.support_balance.proofs.JoinLemmas.{joined_all, joined_covers}
use Rattle.support_balance.proofs.CoverLemmas.{few_covering}
use Rattle.support_balance.proofs.FallLemmas.{support_same}

has_marked : (marks : ℕ → Bool) (row : List Edge) (target : ℕ) → has (targets_of (marked marks row)) target ≡ marks target && has (targets_of row) target
has_marked marks [] target = elim (cases_Bool (marks target)) [
  | inl t ↦ rw t refl
  | inr t ↦ rw t refl
]
has_marked marks (edge ∷ row) target =
    let rest = has_marked marks row target in
    elim (cases_Bool (nat_eq edge.target target)) [
      | inl same ↦
          let e = eqb-true edge.target target same in
          elim (cases_Bool (marks target)) [
            | inl t ↦ rw (ap marks e ∙ t, same, t) refl
            | inr t ↦ rw (ap marks e ∙ t, same, t) (rest ∙ ap (λ b. b && has (targets_of row) target) t)
          ]
      | inr other ↦ elim (cases_Bool (marks edge.target)) [
        | inl t ↦ rw (t, other) rest
        | inr t ↦ rw (t, other) rest
      ]
    ]

pub laid_covers : (snapshot : Snapshot) (members : List ℕ) (slots edges : List Edge) → AreSlots snapshot (length snapshot.voters) slots
    → AreAlike (marked (has members) slots) edges → Covers snapshot members edges
laid_covers snapshot members slots edges are alike voter target h =
    ap (λ ns. has ns target) (from_alike voter (marked (has members) slots) edges alike)
    ∙ ap (λ es. has (targets_of es) target) (filter_swap (λ (e : Edge). nat_eq e.voter voter) (λ (e : Edge). has members e.target) slots)
    ∙ has_marked (has members) (edges_from slots voter) target
    ∙ ap (λ b. has members target && b) (are.pairs voter target h)

-- edges in order are of different pairs
pub distinct_before : (edges : List Edge) → AllPairs IsBefore edges → IsDistinct same_pair edges
unfolding IsDistinct
distinct_before [] rising = tt
distinct_before (edge ∷ edges) rising = (
  recursion_from_All (λ (other : Edge). same_pair edge other ≡ false) edges (λ k d h. apart (get_or edges k d) (rising 0 (suc k) d (omega arith) (omega (arith, h)))),
  distinct_before edges (λ i j d a b. rising (suc i) (suc j) d (omega (arith, a)) (omega (arith, b))),
) where
  apart : (other : Edge) → IsBefore edge other → same_pair edge other ≡ false
  apart other before = elim before [
    | inl l ↦ rw (ne_eqb edge.voter other.voter (λ e. omega (arith, l, e))) refl
    | inr l ↦ rw (ne_eqb edge.target other.target (λ e. omega (arith, l.1, e)), eq-eqb edge.voter other.voter l.0) refl
  ]

stands_own : (edges : List Edge) (k : ℕ) (d : Edge) → k < length edges → has (targets_of (edges_from edges (get_or edges k d).voter)) (get_or edges k d).target ≡ true
stands_own [] k d h = absurd (omega arith)
stands_own (edge ∷ edges) zero d h = rw (eq-eqb edge.voter edge.voter refl) (rw (eq-eqb edge.target edge.target refl) refl)
stands_own (edge ∷ edges) (suc k) d h =
    let one = get_or edges k d in
    let rest = stands_own edges k d (omega (arith, h)) in
    elim (cases_Bool (nat_eq edge.voter one.voter)) [
      | inl t ↦ rw t (elim (cases_Bool (nat_eq edge.target one.target)) [
        | inl u ↦ rw u refl
        | inr u ↦ rw u rest
      ])
      | inr t ↦ rw t rest
    ]

-- what holds of the slots holds of the edges laid along them
pub laid_all : (P : ℕ → ℕ → Type 0) (xs ys : List Edge) → AreAlike xs ys → All (λ (e : Edge). P e.voter e.target) xs → All (λ (e : Edge). P e.voter e.target) ys
laid_all P xs ys alike all k d h =
    let l : k < length xs = omega (arith, h, alike.count) in
    subst (λ n. P n (get_or ys k d).target) (sym (alike.voters k d l)) (subst (P (get_or xs k d).voter) (sym (alike.targets k d l)) (all k d l))

-- the edges of what is kept follow
pub kept_follows : (snapshot : Snapshot) (members : List ℕ) (is_member : List Bool) (edges : List Edge) (supports : List ℕ)
    → IsKept snapshot members is_member edges supports → Follows snapshot (record { committee = members; edges = edges })
kept_follows snapshot members is_member edges supports so = record {
  members_in_range = so.in_range;
  members_distinct = so.distinct;
  pairs_distinct = distinct_before edges so.kept.rising;
  voters_in_range = so.voters_in_range;
  to_members = λ k d h. (backed k d h).0;
  nominated = λ k d h. (backed k d h).1;
} where
  backed : (k : ℕ) (d : Edge) → k < length edges
      → (has members (get_or edges k d).target ≡ true) × (nominates snapshot (get_or edges k d).voter (get_or edges k d).target ≡ true)
  backed k d h =
      let edge = get_or edges k d in
      and_parts (has members edge.target) (nominates snapshot edge.voter edge.target)
      (sym (so.covers edge.voter edge.target (so.voters_in_range k d h)) ∙ stands_own edges k d h)

-- other amounts along the same edges are kept too
pub kept_alike : (snapshot : Snapshot) (members : List ℕ) (is_member : List Bool) (edges : List Edge) (supports : List ℕ)
    → IsKept snapshot members is_member edges supports → (new : List Edge) (after : List ℕ) → AreAlike edges new → AreKept after new → length after ≡ length supports
    → IsKept snapshot members is_member new after
kept_alike snapshot members is_member edges supports so new after alike kept count = record {
  formed = so.formed;
  in_range = so.in_range;
  distinct = so.distinct;
  marks = so.marks;
  marks_count = so.marks_count;
  covers = covers_alike snapshot members edges new alike so.covers;
  voters_in_range = laid_all (λ v t. v < length snapshot.voters) edges new alike so.voters_in_range;
  kept = kept;
  count = count ∙ so.count;
}

-- all of a list is written over
pub written : {X : Type 0} (count : ℕ) (new old : List X) → count ≡ length old → length new ≡ length old → take count (new ++ drop (length new) old) ≡ new
written count new old c same = ap (λ ys. take count (new ++ ys)) (drop_all (length new) old (omega (arith, same))) ∙ ap (take count) (append-nil new) ∙ take_all count new (omega (arith, c, same))

-- a member more
module _ (snapshot : Snapshot) (members : List ℕ) (is_member : List Bool) (edges : List Edge) (supports : List ℕ)
    (so : IsKept snapshot members is_member edges supports) (target : ℕ) (in_range : target < length snapshot.targets) (outside : has members target ≡ false) where
  abbrev after : List Bool
  after = set is_member target true

  abbrev more : List ℕ
  more = members ++ target ∷ []

  has_more : (other : ℕ) → has more other ≡ has members other || (nat_eq target other || false)
  has_more other = list_any-append (λ n. nat_eq n other) members (target ∷ [])

  marks_more : (other : ℕ) → slice_index_or after other false ≡ has more other
  marks_more other = elim (cases_eq other target) [
    | inl here ↦ ap (λ n. slice_index_or after n false) here ∙ get_or-set_same is_member target true false (omega (arith, in_range, so.marks_count))
        ∙ sym (has_more other ∙ ap (λ b. has members other || (b || false)) (eq-eqb target other (sym here)) ∙ or_true (has members other))
    | inr there ↦ get_or-set_other is_member target other true false there ∙ so.marks other
        ∙ sym (has_more other ∙ ap (λ b. has members other || (b || false)) (ne_eqb target other (λ e. there (sym e))) ∙ or_false (has members other))
  ] where
    or_true : (b : Bool) → b || (true || false) ≡ true
    or_true true = refl
    or_true false = refl

    or_false : (b : Bool) → b || (false || false) ≡ b
    or_false true = refl
    or_false false = refl

  -- no edge leads to the target yet
  pub fresh_edges : All (λ (e : Edge). e.target ≢ target) edges
  fresh_edges k d h same = true≢false (sym ((kept_follows snapshot members is_member edges supports so).to_members k d h) ∙ ap (has members) same ∙ outside)

  pub kept_more : (joined : List Edge) → IsJoined snapshot target edges joined → IsKept snapshot more after joined supports
  kept_more joined joins = record {
    formed = so.formed;
    in_range = All-append (λ member. member < length snapshot.targets) members (target ∷ []) so.in_range
        (All-cons (λ member. member < length snapshot.targets) target [] in_range (All-nil (λ member. member < length snapshot.targets)));
    distinct = IsDistinct-from_AllPairs Decides-eqb more (all_pairs_push (λ x y. x ≢ y) members target (AllPairs-from_IsDistinct Decides-eqb members so.distinct) apart);
    marks = marks_more;
    marks_count = length-set is_member target true ∙ so.marks_count;
    covers = covers';
    voters_in_range = voters';
    kept = record {
      rising = joins.rising;
      few = few_covering snapshot more joined so.formed joins.rising voters' covers';
      small = joins.small;
      in_range = joined_all snapshot members more target has_more edges joined so.covers joins (λ v t. t < length supports) so.kept.in_range (λ v h. omega (arith, in_range, so.count));
      table = λ other. so.kept.table other ∙ sym (support_same edges joined joins.same other);
    };
    count = so.count;
  } where
    covers' : Covers snapshot more joined
    covers' = joined_covers snapshot members more target has_more edges joined so.covers joins

    voters' : All (λ (e : Edge). e.voter < length snapshot.voters) joined
    voters' = joined_all snapshot members more target has_more edges joined so.covers joins (λ v t. v < length snapshot.voters) so.voters_in_range (λ v h. h)

    apart : (k d : ℕ) → k < length members → get_or members k d ≡ target → ⊥
    apart k d h same = true≢false (sym (list_any_at (λ n. nat_eq n target) members k d h (eq-eqb (get_or members k d) target same)) ∙ outside)

replicated : {X : Type 0} (count : ℕ) (x : X) (k : ℕ) → slice_index_or (replicate count x) k x ≡ x
replicated count x k = elim (cases_lt k count) [
  | inl l ↦ get_or-replicate count k x x l
  | inr l ↦ get_or_past (replicate count x) k x (omega (arith, l, length-replicate count x))
]

-- no member yet
pub kept_none : (snapshot : Snapshot) → IsWellFormed snapshot
    → IsKept snapshot [] (replicate (length snapshot.targets) false) [] (replicate (length snapshot.targets) 0)
kept_none snapshot formed = record {
  formed = formed;
  in_range = All-nil (λ member. member < length snapshot.targets);
  distinct = IsDistinct-from_AllPairs Decides-eqb [] (λ i j d a b. absurd (omega (arith, b)));
  marks = λ target. replicated (length snapshot.targets) false target;
  marks_count = length-replicate (length snapshot.targets) false;
  covers = λ voter target h. refl;
  voters_in_range = All-nil (λ (e : Edge). e.voter < length snapshot.voters);
  kept = record {
    rising = λ i j d a b. absurd (omega (arith, b));
    few = omega arith;
    small = All-nil (λ (e : Edge). e.amount < 2 ^ 64);
    in_range = All-nil (λ (e : Edge). e.target < length (replicate (length snapshot.targets) 0));
    table = λ target. replicated (length snapshot.targets) 0 target;
  };
  count = length-replicate (length snapshot.targets) 0;
}
