-- The voters that nominate a target, one after the other, and the slots of a member that joins.
use Rattle.std.proofs.Common.{◌≡◌, ◌≢◌, ℕ, ◌+◌, ◌-◌, ◌^◌, ◌<◌, ◌≤◌, true, List, [], ◌∷◌, ◌++◌, length, take, drop, get_or, All, inl, inr, subst, ap, arith}
use Rattle.std.specs.List.{AllPairs, range_with_len}
use Rattle.std.proofs.Math.ListN.{get_or-eq_default}
use Rattle.std.proofs.lemmas.Bool.{cases_lt, cases_eq}
use Rattle.std.proofs.lemmas.List.{get_or_default}
use Rattle.std.proofs.lemmas.List.Elements.{All-filter, filter_passes}
use Rattle.std.proofs.lemmas.List.FromFn.{get_or-range_with_len, length-range_with_len}
use Rattle.std.proofs.lemmas.List.Kept.{AllPairs-filter}
use Rattle.election_snapshot.specs.Snapshot.{Snapshot, has, nominates}
use Rattle.election_snapshot.proofs.HasLemmas.{filter_has, all_has}
use Rattle.weight_book.specs.Passing.{nominators}
use Rattle.weight_book.proofs.SumLemmas.{has_range}
use Rattle.npos_base.specs.declared.figures.Edge.{Edge}
use Rattle.support_balance.specs.Rounds.{IsBefore}
use Rattle.support_balance.specs.Slots.{slot_of}
use Rattle.support_balance.proofs.JoinLemmas.{IsJoining, none_joined, row_joined, passed_by}

module _ (snapshot : Snapshot) (target : ℕ) where
  abbrev voters : List ℕ
  voters = nominators snapshot target

  abbrev count : ℕ
  count = length snapshot.voters

  pub voters_rise : AllPairs (λ one other. one < other) voters
  voters_rise = AllPairs-filter (λ one other. one < other) (λ voter. nominates snapshot voter target) (range_with_len 0 count)
      (λ i j d a b.
      let within : j < count = omega (arith, b, length-range_with_len 0 count) in
      omega (arith, a, get_or-range_with_len 0 count i d (omega (arith, a, within)), get_or-range_with_len 0 count j d within))

  pub voters_within : All (λ voter. voter < count) voters
  voters_within = All-filter (λ voter. nominates snapshot voter target) (λ voter. voter < count) (range_with_len 0 count)
      (λ k d h.
      let within : k < count = omega (arith, h, length-range_with_len 0 count) in
      omega (arith, within, get_or-range_with_len 0 count k d within))

  -- where the next one stands, or behind all voters
  abbrev pub next_voter : ℕ → ℕ
  next_voter i = get_or voters i count

  next_within : (i : ℕ) → next_voter i ≤ count
  next_within i = elim (cases_lt i (length voters)) [
    | inl l ↦ omega (arith, voters_within i count l)
    | inr m ↦ omega (arith, get_or-eq_default voters count m)
  ]

  pub voters_end : (i : ℕ) → length voters ≤ i → count ≤ next_voter i
  voters_end i m = omega (arith, get_or-eq_default voters count m)

  -- who nominates the target and stands before the next one is one of those before it
  pub before_next : (i low : ℕ) → ((k d : ℕ) → k < i → k < length voters → get_or voters k d < low)
      → (other : ℕ) → other < next_voter i → nominates snapshot other target ≡ true → other < low
  before_next i low first other less votes =
      all_has (λ voter. voter < next_voter i → voter < low) voters other each there less
    where
      there : has voters other ≡ true
      there = filter_has (λ voter. nominates snapshot voter target) (range_with_len 0 count) other
          (has_range 0 count other (omega arith) (omega (arith, less, next_within i))) votes

      each : All (λ voter. voter < next_voter i → voter < low) voters
      each k d h ahead = elim (cases_lt k i) [
        | inl l ↦ first k d l h
        | inr m ↦ elim (cases_eq k i) [
          | inl same ↦ absurd (omega (arith, ahead, get_or_default voters k d count h, ap (λ n. get_or voters n count) same))
          | inr differ ↦ absurd (omega (arith, ahead, voters_rise i k d (omega (arith, m, differ)) h, get_or_default voters i d count (omega (arith, m, h))))
        ]
      ]

  -- before the first one there is nothing to lay out
  pub first_joined : (edges : List Edge) → AllPairs IsBefore edges → All (λ (e : Edge). e.amount < 2 ^ 64) edges → IsJoining snapshot target edges (next_voter 0) 0 []
  first_joined edges up fits = passed_by snapshot target edges up fits 0 0 [] (none_joined snapshot target edges) (next_voter 0)
      (before_next 0 0 (λ k d none h. absurd (omega (arith, none))))

  -- the row of the next one, with its slot
  module _ (edges : List Edge) (up : AllPairs IsBefore edges) (fits : All (λ (e : Edge). e.amount < 2 ^ 64) edges) (fresh : All (λ (e : Edge). e.target ≢ target) edges)
      (i done place : ℕ) (joined : List Edge) (h : i < length voters) (from : done ≤ place) (within : place ≤ length edges) where
    abbrev voter : ℕ
    voter = get_or voters i 0

    this : (d : ℕ) → get_or voters i d ≡ voter
    this d = get_or_default voters i d 0 h

    abbrev laid : List Edge
    laid = (joined ++ take (place - done) (drop done edges)) ++ slot_of voter target ∷ []

    ahead : voter < next_voter (i + 1)
    ahead = elim (cases_lt (i + 1) (length voters)) [
      | inl l ↦ omega (arith, voters_rise i (i + 1) count (omega arith) l, this count)
      | inr m ↦ omega (arith, get_or-eq_default voters count m, voters_within i 0 h)
    ]

    first : (k d : ℕ) → k < i + 1 → k < length voters → get_or voters k d < voter + 1
    first k d a b = elim (cases_lt k i) [
      | inl l ↦ omega (arith, voters_rise k i d l h, this d)
      | inr m ↦ omega (arith, this d, ap (λ n. get_or voters n d) (same_place a m))
    ] where
      same_place : k < i + 1 → i ≤ k → k ≡ i
      same_place a m = omega (arith, a, m)

    pub next_joined : IsJoining snapshot target edges (next_voter i) done joined → All (λ (e : Edge). e.voter < next_voter i) joined
        → ((k : ℕ) (d : Edge) → done ≤ k → k < place → IsBefore (get_or edges k d) (slot_of voter target))
        → ((d : Edge) → place < length edges → IsBefore (get_or edges place d) (slot_of voter target) → ⊥)
        → IsJoining snapshot target edges (next_voter (i + 1)) place laid × All (λ (e : Edge). e.voter < next_voter (i + 1)) laid
    next_joined so below before next =
        let rows = row_joined snapshot target edges up fits voter done joined (subst (λ n. IsJoining snapshot target edges n done joined) (this count) so) fresh place from within before next
        (filter_passes (λ n. nominates snapshot n target) (range_with_len 0 count) i 0 h) (voters_within i 0 h)
        (subst (λ n. All (λ (e : Edge). e.voter < n) joined) (this count) below) in (
          passed_by snapshot target edges up fits (voter + 1) place laid rows.0 (next_voter (i + 1)) (before_next (i + 1) (voter + 1) first),
          λ k d l. omega (arith, rows.1 k d l, ahead),
        )
