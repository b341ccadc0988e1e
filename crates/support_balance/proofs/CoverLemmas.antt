-- Edges that cover the nominations of members.
use Rattle.std.proofs.Common.{◌≡◌, ℕ, ◌^◌, ◌<◌, ◌≤◌, true, ◌||◌, nat_eq, List, [], ◌∷◌, length, get_or, sum_by, All, inl, inr, ap, refl, sym, ◌∙◌, arith}
use Rattle.std.specs.List.{AllPairs, IsDistinct, range_with_len}
use Rattle.std.proofs.lemmas.List.{length-map, get_or-map}
use Rattle.std.proofs.lemmas.List.Elements.{filter_passes}
use Rattle.std.proofs.lemmas.List.Folds.{list_any_at}
use Rattle.std.proofs.lemmas.List.Sums.{sum_by-le}
use Rattle.std.proofs.lemmas.List.FromFn.{get_or-range_with_len, length-range_with_len}
use Rattle.std.proofs.lemmas.List.Kept.{AllPairs-filter}
use Rattle.std.proofs.lemmas.Map.Made.{IsDistinct-from_AllPairs}
use Rattle.std.proofs.lemmas.Bool.{cases_Bool, eq-eqb, eqb-true, and_parts}
use Rattle.std.proofs.lemmas.Bool.Decides.{Decides-eqb}
use Rattle.npos_base.specs.declared.figures.Edge.{Edge}
use Rattle.npos_base.specs.declared.limits.TheConstants.{MOST_NOMINATIONS}
use Rattle.election_snapshot.specs.Snapshot.{Snapshot, IsWellFormed, has, nobody, votes_of}
use Rattle.weight_book.specs.Weights.{edges_from}
use Rattle.weight_book.proofs.SumLemmas.{has_range, parts_all, sum_covered, sum_of_ones}
use Rattle.support_balance.specs.Rounds.{IsBefore}
use Rattle.support_balance.specs.Laid.{targets_of, Covers}
use Rattle.support_balance.specs.Slots.{has_pair}
use Rattle.support_balance.proofs.Edges.{no_edge}
use Rattle.support_balance.proofs.SplitLemmas.{range_distinct}

-- some edge of the voter leads to the target where some edge leads along the pair
pub from_pair : (edges : List Edge) (edge : Edge) → has (targets_of (edges_from edges edge.voter)) edge.target ≡ has_pair edges edge
from_pair [] edge = refl
from_pair (other ∷ edges) edge = elim (cases_Bool (nat_eq other.voter edge.voter)) [
  | inl t ↦ rw t (ap (λ b. nat_eq other.target edge.target || b) (from_pair edges edge))
  | inr f ↦ rw f (from_pair edges edge)
]

module _ (snapshot : Snapshot) (members : List ℕ) (edges : List Edge) (formed : IsWellFormed snapshot) (rising : AllPairs IsBefore edges)
    (in_range : All (λ (e : Edge). e.voter < length snapshot.voters) edges) (covers : Covers snapshot members edges) where
  -- a voter has no more edges than votes
  few_own : (voter : ℕ) → voter < length snapshot.voters → length (edges_from edges voter) ≤ MOST_NOMINATIONS
  few_own voter h = omega (
    arith,
    sum_covered (λ _. 1) (targets_of row) (votes_of snapshot voter) distinct voted,
    sum_of_ones (targets_of row),
    sum_of_ones (votes_of snapshot voter),
    length-map row (λ (e : Edge). e.target),
    (formed.voters.each_voter voter nobody h).few_votes,
  ) where
    row : List Edge
    row = edges_from edges voter

    distinct : IsDistinct nat_eq (targets_of row)
    distinct = IsDistinct-from_AllPairs Decides-eqb (targets_of row) (λ i j d a b same.
        let below : j < length row = omega (arith, b, length-map row (λ (e : Edge). e.target)) in
        let own : (k : ℕ) → k < length row → (get_or row k no_edge).voter ≡ voter =
        λ k l. eqb-true (get_or row k no_edge).voter voter (filter_passes (λ (e : Edge). nat_eq e.voter voter) edges k no_edge l) in
        let target_at : (k : ℕ) → k < length row → get_or (targets_of row) k d ≡ (get_or row k no_edge).target = λ k l. get_or-map (λ (e : Edge). e.target) row k no_edge d l in
        elim (AllPairs-filter IsBefore (λ (e : Edge). nat_eq e.voter voter) edges rising i j no_edge a below) [
          | inl l ↦ omega (arith, l, own i (omega (arith, a, below)), own j below)
          | inr l ↦ omega (arith, l.1, same, target_at i (omega (arith, a, below)), target_at j below)
        ])

    voted : All (λ target. has (votes_of snapshot voter) target ≡ true) (targets_of row)
    voted k d l =
        let target = get_or (targets_of row) k d in
        (and_parts (has members target) (has (votes_of snapshot voter) target)
        (sym (covers voter target h) ∙ list_any_at (λ n. nat_eq n target) (targets_of row) k d l (eq-eqb target target refl))).1

  -- so there are at most as many edges as votes can be
  pub few_covering : length edges ≤ 2 ^ 20
  few_covering = omega (
    arith,
    sum_of_ones edges,
    parts_all (λ (e : Edge). e.voter) (λ (e : Edge). 1) edges voters (range_distinct 0 count) (λ k d h. has_range 0 count (get_or edges k d).voter (omega arith) (omega (arith, in_range k d h))),
    sum_by-le (λ voter. sum_by (λ (e : Edge). 1) (edges_from edges voter)) MOST_NOMINATIONS voters
        (λ k d h. omega (arith, sum_of_ones (edges_from edges (get_or voters k d)), few_own (get_or voters k d) (below k d h))),
    length-range_with_len 0 count,
    formed.voters.voters_few,
  ) where
    count : ℕ
    count = length snapshot.voters

    voters : List ℕ
    voters = range_with_len 0 count

    below : All (λ voter. voter < count) voters
    below k d h =
        let l : k < count = omega (arith, h, length-range_with_len 0 count) in
        omega (arith, l, get_or-range_with_len 0 count k d l)
