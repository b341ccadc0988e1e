-- What each step of a check has found so far.
use Rattle.std.proofs.Common.{◌≡◌, ℕ, ◌+◌, ◌*◌, ◌<◌, ◌≤◌, Bool, true, false, ◌&&◌, ◌||◌, nat_eq, List, [], length, take, drop}
use Rattle.std.proofs.Common.{get_or, set, sum_by, slice_index, slice_index_or, ◌⊎◌, inl, inr, refl, sym, ap, ap₂, subst, ◌∙◌, arith}
use Rattle.std.specs.List.{list_any, IsDistinct}
use Rattle.std.proofs.lemmas.List.{get_or-set_same, get_or-set_other, get_or-map}
use Rattle.std.proofs.lemmas.List.Folds.{list_any_more}
use Rattle.std.proofs.lemmas.Nat.{same_from_place}
use Rattle.std.proofs.lemmas.Map.Made.{AllPairs-from_IsDistinct}
use Rattle.std.proofs.lemmas.Bool.Decides.{Decides-eqb}
use Rattle.std.proofs.lemmas.Bool.{cases_eq, cases_order, eq-eqb, ne_eqb, or_right, and_from, and_left, and_right}
use Rattle.npos_base.specs.declared.figures.Edge.{Edge}
use Rattle.npos_base.specs.declared.limits.TheConstants.{MOST_NOMINATIONS}
use Rattle.election_snapshot.specs.Snapshot.{Snapshot, IsWellFormed, nobody, stake_of, stakes_of, votes_of}
use Rattle.weight_book.specs.Weights.{Weights, spent, edges_from}
use Rattle.weight_book.specs.Passing.{pay}
use Rattle.election_check.specs.Kept.{AreMarks}
use Rattle.election_check.specs.Plain.{members_fault, edges_fault}

-- the members so far had no fault and are marked
pub record AreChecked (snapshot : Snapshot) (members : List ℕ) (i : ℕ) (table : List Bool) : Type 0 where
  pub faults : members_fault snapshot (take i members) (drop i members) ≡ members_fault snapshot [] members
  pub marks : AreMarks table (take i members)
  pub size : length table ≡ length snapshot.targets

-- an edge goes from the voter to the target
abbrev pub has_pair : List Edge → ℕ → ℕ → Bool
has_pair edges voter target = list_any (λ edge. nat_eq edge.voter voter && nat_eq edge.target target) edges

abbrev pub ArePairs : Snapshot → List Bool → List Edge → Type 0
ArePairs snapshot table edges = (voter place : ℕ) → voter < length snapshot.voters → place < length (votes_of snapshot voter)
    → slice_index_or table (voter * MOST_NOMINATIONS + place) false ≡ has_pair edges voter (slice_index (votes_of snapshot voter) place)

-- the edges so far had no fault, and their nominations are marked
pub record AreEdges (snapshot : Snapshot) (weights : Weights) (i : ℕ) (table : List Bool) : Type 0 where
  pub faults : edges_fault snapshot weights.committee (take i weights.edges) (drop i weights.edges) ≡ edges_fault snapshot weights.committee [] weights.edges
  pub pairs : ArePairs snapshot table (take i weights.edges)
  pub size : length table ≡ length snapshot.voters * MOST_NOMINATIONS

pub distinct_places : (numbers : List ℕ) → IsDistinct nat_eq numbers → (i j : ℕ) → i < length numbers → j < length numbers → get_or numbers i 0 ≡ get_or numbers j 0 → i ≡ j
distinct_places numbers distinct i j p q e = elim (cases_order i j) [
  | inl same ↦ same
  | inr apart ↦ elim apart [
    | inl l ↦ absurd (AllPairs-from_IsDistinct Decides-eqb numbers distinct i j 0 l q e)
    | inr l ↦ absurd (AllPairs-from_IsDistinct Decides-eqb numbers distinct j i 0 l p (sym e))
  ]
]

or_none : (b c : Bool) → c ≡ false → b ≡ (b || c)
or_none true c e = refl
or_none false c e = sym e

module _ (snapshot : Snapshot) (formed : IsWellFormed snapshot) (edges : List Edge) (i : ℕ) (d : Edge) (place : ℕ) (h : i < length edges)
    (in_range : (get_or edges i d).voter < length snapshot.voters) (in_votes : place < length (votes_of snapshot (get_or edges i d).voter))
    (is : get_or (votes_of snapshot (get_or edges i d).voter) place 0 ≡ (get_or edges i d).target) where
  abbrev edge : Edge
  edge = get_or edges i d

  few : (voter : ℕ) → voter < length snapshot.voters → length (votes_of snapshot voter) ≤ MOST_NOMINATIONS
  few voter p = (formed.voters.each_voter voter nobody p).few_votes

  -- the nomination of the edge, and no other
  this_pair : (voter k : ℕ) → voter < length snapshot.voters → k < length (votes_of snapshot voter) → edge.voter * MOST_NOMINATIONS + place ≡ voter * MOST_NOMINATIONS + k
      → (nat_eq edge.voter voter && nat_eq edge.target (get_or (votes_of snapshot voter) k 0)) ≡ true
  this_pair voter k p q same =
      let (voter_is, place_is) = same_from_place edge.voter place voter k MOST_NOMINATIONS (omega (arith, few edge.voter in_range, in_votes)) (omega (arith, few voter p, q)) same in
      and_from (nat_eq edge.voter voter) (nat_eq edge.target (get_or (votes_of snapshot voter) k 0)) (eq-eqb edge.voter voter voter_is)
      (eq-eqb edge.target (get_or (votes_of snapshot voter) k 0) (sym is ∙ ap (λ n. get_or (votes_of snapshot n) place 0) voter_is ∙ ap (λ n. get_or (votes_of snapshot voter) n 0) place_is))

  other_pair : (voter k : ℕ) → voter < length snapshot.voters → k < length (votes_of snapshot voter) → (edge.voter * MOST_NOMINATIONS + place ≡ voter * MOST_NOMINATIONS + k → ⊥)
      → (nat_eq edge.voter voter && nat_eq edge.target (get_or (votes_of snapshot voter) k 0)) ≡ false
  other_pair voter k p q differ = elim (cases_eq edge.voter voter) [
    | inl same ↦ and_right (nat_eq edge.voter voter) (nat_eq edge.target (get_or (votes_of snapshot voter) k 0))
        (ne_eqb edge.target (get_or (votes_of snapshot voter) k 0) (λ e. differ (ap₂ (λ a b. a * MOST_NOMINATIONS + b) same
        (distinct_places (votes_of snapshot voter) (formed.voters.each_voter voter nobody p).votes_distinct place k
        (subst (λ n. place < length (votes_of snapshot n)) same in_votes) q
        (sym (ap (λ n. get_or (votes_of snapshot n) place 0) same) ∙ is ∙ e)))))
    | inr apart ↦ and_left (nat_eq edge.voter voter) (nat_eq edge.target (get_or (votes_of snapshot voter) k 0)) (ne_eqb edge.voter voter apart)
  ]

  pub pairs_more : (table : List Bool) → length table ≡ length snapshot.voters * MOST_NOMINATIONS → ArePairs snapshot table (take i edges)
      → ArePairs snapshot (set table ((get_or edges i d).voter * MOST_NOMINATIONS + place) true) (take (i + 1) edges)
  pairs_more table size pairs voter k p q =
      at (cases_eq (edge.voter * MOST_NOMINATIONS + place) (voter * MOST_NOMINATIONS + k))
      ∙ sym (list_any_more (λ e. nat_eq e.voter voter && nat_eq e.target (get_or (votes_of snapshot voter) k 0))
      edges i d h)
    where
      at : (edge.voter * MOST_NOMINATIONS + place ≡ voter * MOST_NOMINATIONS + k) ⊎ (edge.voter * MOST_NOMINATIONS + place ≡ voter * MOST_NOMINATIONS + k → ⊥)
          → get_or (set table (edge.voter * MOST_NOMINATIONS + place) true) (voter * MOST_NOMINATIONS + k) false
          ≡ (has_pair (take i edges) voter (get_or (votes_of snapshot voter) k 0) || (nat_eq edge.voter voter && nat_eq edge.target (get_or (votes_of snapshot voter) k 0)))
      at (inl same) = ap (λ n. get_or (set table n true) (voter * MOST_NOMINATIONS + k) false) same
          ∙ get_or-set_same table (voter * MOST_NOMINATIONS + k) true false (omega (arith, size, few voter p, q, p))
          ∙ sym (or_right (has_pair (take i edges) voter (get_or (votes_of snapshot voter) k 0))
          (nat_eq edge.voter voter && nat_eq edge.target (get_or (votes_of snapshot voter) k 0))
          (this_pair voter k p q same))
      at (inr differ) = get_or-set_other table (edge.voter * MOST_NOMINATIONS + place) (voter * MOST_NOMINATIONS + k) true false (λ e. differ (sym e))
          ∙ pairs voter k p q
          ∙ or_none (has_pair (take i edges) voter (get_or (votes_of snapshot voter) k 0))
          (nat_eq edge.voter voter && nat_eq edge.target (get_or (votes_of snapshot voter) k 0))
          (other_pair voter k p q differ)

-- the stakes by voter
pub stakes_at : (snapshot : Snapshot) (voter : ℕ) → voter < length snapshot.voters → get_or (stakes_of snapshot.voters) voter 0 ≡ stake_of snapshot voter
stakes_at snapshot voter h = get_or-map (λ v. v.stake) snapshot.voters voter nobody 0 h

-- what is left once the edges so far are spent, up to the lowest voter that overspends
pub record AreSpent (snapshot : Snapshot) (edges : List Edge) (i lowest : ℕ) (left : List ℕ) : Type 0 where
  pub most : lowest ≤ length snapshot.voters
  pub kept : (voter : ℕ) → voter < lowest → slice_index_or left voter 0 + spent (take i edges) voter ≡ stake_of snapshot voter
  pub over : lowest < length snapshot.voters → stake_of snapshot lowest < spent (take i edges) lowest
  pub size : length left ≡ length snapshot.voters

-- what is left once the edges so far have paid
pub record ArePaid (cap : ℕ) (snapshot : Snapshot) (edges : List Edge) (i : ℕ) (left : List ℕ) : Type 0 where
  pub kept : (voter : ℕ) → voter < length snapshot.voters
      → slice_index_or left voter 0 + sum_by (pay cap edges) (edges_from (take i edges) voter) ≡ stake_of snapshot voter
  pub size : length left ≡ length snapshot.voters
