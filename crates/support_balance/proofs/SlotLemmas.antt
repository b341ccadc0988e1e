-- The slots, voter by voter.
use Rattle.std.proofs.Common.{◌≡◌, ℕ, suc, ◌+◌, ◌<◌, nat_eq, List, [], ◌∷◌, ◌++◌, length, map, get_or, All, IsPermutation, inl, inr, refl, ap, ap₂, sym, ◌∙◌, arith, append-nil}
use Rattle.std.specs.List.{AllPairs}
use Rattle.std.specs.List.Sorted.{IsNonDecreasing}
use Rattle.std.proofs.lemmas.List.{length-map, get_or-map}
use Rattle.std.proofs.lemmas.List.Elements.{All-append, All-map, filter-append}
use Rattle.std.proofs.lemmas.List.Kept.{AllPairs-from_increasing, AllPairs-cons}
use Rattle.std.proofs.lemmas.List.Sorted.{All-permutation}
use Rattle.std.proofs.lemmas.Map.Keys.{IsDistinct-IsPermutation}
use Rattle.std.proofs.lemmas.Bool.{cases_eq, ne_eqb, eq-eqb}
use Rattle.npos_base.specs.declared.figures.Edge.{Edge}
use Rattle.election_snapshot.specs.Snapshot.{Snapshot, IsVoterOf, voter_at, votes_of, has, nominates}
use Rattle.weight_book.specs.Weights.{edges_from}
use Rattle.weight_book.proofs.SumLemmas.{eqb_turned}
use Rattle.weight_book.proofs.OrderLemmas.{has_permutation, rising}
use Rattle.support_balance.specs.Rounds.{IsBefore}
use Rattle.support_balance.specs.Laid.{targets_of}
use Rattle.support_balance.specs.Slots.{AreSlots, slot_of}
use Rattle.support_balance.proofs.TurnLemmas.{filter_all, filter_none}

targets_of_slots : (voter : ℕ) (votes : List ℕ) → targets_of (map (slot_of voter) votes) ≡ votes
targets_of_slots voter [] = refl
targets_of_slots voter (vote ∷ votes) = ap (λ ns. vote ∷ ns) (targets_of_slots voter votes)

-- the first list's items stand before those of the second
pub pairs_append : {X : Type 0} (R : X → X → Type 0) (xs ys : List X) → AllPairs R xs → AllPairs R ys
    → ((i j : ℕ) (d : X) → i < length xs → j < length ys → R (get_or xs i d) (get_or ys j d)) → AllPairs R (xs ++ ys)
pairs_append {X = X} R [] ys first second across = second
pairs_append {X = X} R (x ∷ xs) ys first second across = AllPairs-cons R x (xs ++ ys)
    (All-append (R x) xs ys (λ k d h. first 0 (suc k) d (omega arith) (omega (arith, h))) (λ k d h. across 0 k d (omega arith) h))
    (pairs_append R xs ys (λ i j d a b. first (suc i) (suc j) d (omega (arith, a)) (omega (arith, b))) second (λ i j d a b. across (suc i) j d (omega (arith, a)) b))

module _ (snapshot : Snapshot) (voter : ℕ) (slots : List Edge) (so : AreSlots snapshot voter slots) (sound : IsVoterOf (length snapshot.targets) (voter_at snapshot voter))
    (sorted : List ℕ) (up : IsNonDecreasing sorted) (moved : IsPermutation (votes_of snapshot voter) sorted) where
  abbrev row : List Edge
  row = map (slot_of voter) sorted

  row_at : (k : ℕ) (d : Edge) → k < length row → get_or row k d ≡ slot_of voter (get_or sorted k 0)
  row_at k d h = get_or-map (slot_of voter) sorted k 0 d (omega (arith, h, length-map sorted (slot_of voter)))

  row_rising : AllPairs IsBefore row
  row_rising i j d a b =
      let distinct = IsDistinct-IsPermutation nat_eq eqb_turned (votes_of snapshot voter) sorted moved sound.votes_distinct in
      let long = length-map sorted (slot_of voter) in
      let below = AllPairs-from_increasing sorted (rising sorted up distinct) i j 0 a (omega (arith, b, long)) in
      inr (
        ap (λ (e : Edge). e.voter) (row_at i d (omega (arith, a, b))) ∙ sym (ap (λ (e : Edge). e.voter) (row_at j d b)),
        omega (arith, below, ap (λ (e : Edge). e.target) (row_at i d (omega (arith, a, b))), ap (λ (e : Edge). e.target) (row_at j d b)),
      )

  of_row : All (λ (e : Edge). e.voter ≡ voter) row
  of_row k d h = ap (λ (e : Edge). e.voter) (row_at k d h)

  pub slots_next : AreSlots snapshot (voter + 1) (slots ++ row)
  slots_next = record {
    rising = pairs_append IsBefore slots row so.rising row_rising (λ i j d a b. inl (omega (arith, so.voters_in_range i d a, of_row j d b)));
    voters_in_range = All-append (λ (e : Edge). e.voter < voter + 1) slots row (λ k d h. omega (arith, so.voters_in_range k d h)) (λ k d h. omega (arith, of_row k d h));
    targets_in_range = All-append (λ (e : Edge). e.target < length snapshot.targets) slots row so.targets_in_range
        (All-map (λ (e : Edge). e.target < length snapshot.targets) (slot_of voter) sorted
        (All-permutation (λ target. target < length snapshot.targets) (votes_of snapshot voter) sorted moved sound.votes_in_range));
    pairs = pairs';
  } where
    pairs' : (voter' target : ℕ) → voter' < voter + 1 → has (targets_of (edges_from (slots ++ row) voter')) target ≡ nominates snapshot voter' target
    pairs' voter' target l =
        let own = λ (e : Edge). nat_eq e.voter voter' in
        let split = filter-append own slots row in
        elim (cases_eq voter' voter) [
          | inl same ↦
              let before : edges_from slots voter' ≡ [] = filter_none own slots (λ k d h. ne_eqb (get_or slots k d).voter voter' (λ e. omega (arith, e, same, so.voters_in_range k d h))) in
              let here : edges_from row voter' ≡ row = filter_all own row (λ k d h. eq-eqb (get_or row k d).voter voter' (of_row k d h ∙ sym same)) in
              ap (λ es. has (targets_of es) target) (split ∙ ap₂ (λ xs ys. xs ++ ys) before here)
              ∙ ap (λ ns. has ns target) (targets_of_slots voter sorted)
              ∙ has_permutation (votes_of snapshot voter) sorted target moved
              ∙ ap (λ n. nominates snapshot n target) (sym same)
          | inr other ↦
              let here : edges_from row voter' ≡ [] = filter_none own row (λ k d h. ne_eqb (get_or row k d).voter voter' (λ e. other (sym e ∙ of_row k d h))) in
              ap (λ es. has (targets_of es) target) (split ∙ ap (λ ys. edges_from slots voter' ++ ys) here ∙ append-nil (edges_from slots voter'))
              ∙ so.pairs voter' target (omega (arith, l, other))
        ]

pub no_slots : (snapshot : Snapshot) → AreSlots snapshot 0 []
no_slots snapshot = record {
  rising = λ i j d a b. absurd (omega (arith, b));
  voters_in_range = λ k d h. absurd (omega arith);
  targets_in_range = λ k d h. absurd (omega arith);
  pairs = λ voter target h. absurd (omega (arith, h));
}
