-- The run, seat by seat.
use Rattle.std.proofs.Common.{◌≡◌, ℕ, zero, suc, ◌+◌, ◌<◌, ◌≤◌, Bool, true, false, not, List, [], ◌∷◌, ◌++◌, length, take}
use Rattle.std.proofs.Common.{filter, get_or, slice_index_or, inl, inr, refl, ap, sym, subst, ◌∙◌, arith, append-nil}
use Rattle.std.specs.List.{range_with_len}
use Rattle.std.proofs.lemmas.List.{take-append-le, take_all, get_or_append_left, get_or_push}
use Rattle.std.proofs.lemmas.List.Elements.{All-filter, filter-append}
use Rattle.std.proofs.lemmas.List.Kept.{AllPairs-filter}
use Rattle.std.proofs.lemmas.List.FromFn.{get_or-range_with_len, length-range_with_len}
use Rattle.std.proofs.lemmas.Bool.{cases_Bool, true≢false}
use Rattle.npos_base.specs.declared.figures.Edge.{Edge}
use Rattle.election_snapshot.specs.Snapshot.{Snapshot, has, stake_of}
use Rattle.election_snapshot.proofs.HasLemmas.{filter_has}
use Rattle.weight_book.specs.Weights.{Weights, Follows, IsFeasible, spent}
use Rattle.weight_book.proofs.StakeLemmas.{range_more}
use Rattle.weight_book.proofs.SumLemmas.{has_range, sum_covered, sum_of_ones}
use Rattle.support_balance.specs.Rounds.{GiveSame, AreListed}
use Rattle.support_balance.proofs.SpendLemmas.{spent_same}
use Rattle.support_balance.proofs.SplitLemmas.{range_distinct}
use Rattle.phragmms_miner.specs.Scores.{score, IsBest}
use Rattle.phragmms_miner.specs.Search.{IsBestOf, AreRising}
use Rattle.phragmms_miner.specs.Run.{IsSeated, AreSeated, IsRun, IsNext}
use Rattle.phragmms_miner.proofs.NarrowLemmas.{has_filter, has_place}

abbrev pub outside_of : List ℕ → ℕ → List ℕ
outside_of committee targets = filter (λ target. not (has committee target)) (range_with_len 0 targets)

pub outside_rising : (committee : List ℕ) (targets : ℕ) → AreRising targets (outside_of committee targets)
outside_rising committee targets = record {
  rising = AllPairs-filter (λ a b. a < b) (λ target. not (has committee target)) (range_with_len 0 targets)
      (λ i j d a b. omega (
        arith,
        a,
        length-range_with_len 0 targets,
        get_or-range_with_len 0 targets i d
            (omega (arith, a, b, length-range_with_len 0 targets)),
        get_or-range_with_len 0 targets j d
            (omega (arith, b, length-range_with_len 0 targets)),
      ));
  in_range = All-filter (λ target. not (has committee target)) (λ target. target < targets) (range_with_len 0 targets)
      (λ k d h. omega (arith, length-range_with_len 0 targets, get_or-range_with_len 0 targets k d (omega (arith, h, length-range_with_len 0 targets))));
}

is_outside : (committee : List ℕ) (targets target : ℕ) → target < targets → has committee target ≡ false → has (outside_of committee targets) target ≡ true
is_outside committee targets target h f = filter_has (λ t. not (has committee t)) (range_with_len 0 targets) target (has_range 0 targets target (omega arith) (omega (arith, h))) (ap not f)

not_member : (b : Bool) → not b ≡ true → b ≡ false
not_member true h = absurd (true≢false (sym h))
not_member false h = refl

-- some target is outside, where there are fewer members than targets
pub some_outside : (committee : List ℕ) (targets : ℕ) → length committee < targets → 1 ≤ length (outside_of committee targets)
some_outside committee targets few = count (outside_of committee targets) refl where
  count : (outs : List ℕ) → outside_of committee targets ≡ outs → 1 ≤ length outs
  count (out ∷ outs) is = omega arith
  count [] is =
      let all = range_with_len 0 targets in
      let covered = sum_covered (λ _. 1) all committee (range_distinct 0 targets) (λ k d h. member (get_or all k d)
      (omega (arith, length-range_with_len 0 targets, h, get_or-range_with_len 0 targets k d (omega (arith, h, length-range_with_len 0 targets))))) in
      absurd (omega (arith, covered, sum_of_ones all, sum_of_ones committee, length-range_with_len 0 targets, few))
    where
      member : (target : ℕ) → target < targets → has committee target ≡ true
      member target h = elim (cases_Bool (has committee target)) [
        | inl t ↦ t
        | inr f ↦ absurd (true≢false (sym (is_outside committee targets target h f) ∙ ap (λ xs. has xs target) is))
      ]

pub best_of_all : (snapshot : Snapshot) (committee : List ℕ) (edges : List Edge) (pick : ℕ)
    → IsBestOf (score snapshot edges) (outside_of committee (length snapshot.targets)) pick → IsBest snapshot committee edges pick
best_of_all snapshot committee edges pick so =
    let targets = length snapshot.targets in
    let (in_all, out) = has_filter (λ t. not (has committee t)) (range_with_len 0 targets) pick so.is_out in
    let (k, h, is) = has_place (range_with_len 0 targets) pick in_all in
    let below : pick < targets = omega (arith, is 0, length-range_with_len 0 targets, h, get_or-range_with_len 0 targets k 0 (omega (arith, h, length-range_with_len 0 targets))) in
    record {
      in_range = below;
      outside = not_member (has committee pick) out;
      greatest = λ other l f. so.greatest other (is_outside committee targets other l f);
      lowest = λ other l f. so.lowest other (is_outside committee targets other (omega (arith, l, below)) f) l;
    }

-- what stands stays as the committee grows
still_seated : (snapshot : Snapshot) (rounds : ℕ) (picks : List ℕ) (pick seat : ℕ) (edges : List Edge) → seat ≤ length picks
    → AreSeated snapshot rounds picks seat edges → AreSeated snapshot rounds (picks ++ pick ∷ []) seat edges
still_seated snapshot rounds picks pick zero edges h seated = seated
still_seated snapshot rounds picks pick (suc seat) edges h (before, earlier, follows, last) =
    let same : take seat picks ≡ take seat (picks ++ pick ∷ []) = sym (take-append-le seat picks (pick ∷ []) (omega (arith, h))) in
    let place : slice_index_or picks seat 0 ≡ slice_index_or (picks ++ pick ∷ []) seat 0 = sym (get_or_append_left picks (pick ∷ []) 0 seat (omega (arith, h))) in (
      before,
      still_seated snapshot rounds picks pick seat before (omega (arith, h)) earlier,
      subst (λ ps. Follows snapshot (record { committee = ps; edges = before })) same follows,
      subst (λ p. IsSeated snapshot rounds (take seat (picks ++ pick ∷ [])) before p edges) place
          (subst (λ ps. IsSeated snapshot rounds ps before (slice_index_or picks seat 0) edges) same last),
    )

pub next_seated : (snapshot : Snapshot) (rounds : ℕ) (old new : Weights) (seat : ℕ) → length old.committee ≡ seat → IsNext snapshot rounds old new
    → AreSeated snapshot rounds old.committee seat old.edges → AreSeated snapshot rounds new.committee (suc seat) new.edges
next_seated snapshot rounds old new seat count next seated =
    let picks = old.committee ++ next.pick ∷ [] in
    let all : old.committee ≡ take seat picks =
    sym (take-append-le seat old.committee (next.pick ∷ []) (omega (arith, count)) ∙ take_all seat old.committee (omega (arith, count))) in
    let here : next.pick ≡ slice_index_or picks seat 0 = sym (get_or_push old.committee next.pick 0 seat count) in
    subst (λ ps. AreSeated snapshot rounds ps (suc seat) new.edges) (sym next.committee) (
      old.edges,
      still_seated snapshot rounds old.committee next.pick seat old.edges (omega (arith, count)) seated,
      subst (λ ps. Follows snapshot (record { committee = ps; edges = old.edges })) all next.follows,
      subst (λ p. IsSeated snapshot rounds (take seat picks) old.edges p new.edges) here
          (subst (λ ps. IsSeated snapshot rounds ps old.edges next.pick new.edges) all next.seated),
    )

one_in : (p : ℕ → Bool) (x : ℕ) → p x ≡ true → filter p (x ∷ []) ≡ x ∷ []
one_in p x t = rw t refl

one_out : (p : ℕ → Bool) (x : ℕ) → p x ≡ false → filter p (x ∷ []) ≡ []
one_out p x f = rw f refl

pub outside_more : (committee : List ℕ) (target : ℕ) → has committee target ≡ false → outside_of committee (target + 1) ≡ outside_of committee target ++ target ∷ []
outside_more committee target f =
    let test : ℕ → Bool = λ t. not (has committee t) in
    ap (filter test) (range_more target) ∙ filter-append test (range_with_len 0 target) (target ∷ [])
    ∙ ap (λ xs. outside_of committee target ++ xs) (one_in test target (ap not f))

pub outside_less : (committee : List ℕ) (target : ℕ) → has committee target ≡ true → outside_of committee (target + 1) ≡ outside_of committee target
outside_less committee target t =
    let test : ℕ → Bool = λ u. not (has committee u) in
    ap (filter test) (range_more target) ∙ filter-append test (range_with_len 0 target) (target ∷ [])
    ∙ ap (λ xs. outside_of committee target ++ xs) (one_out test target (ap not t)) ∙ append-nil (outside_of committee target)

module _ (snapshot : Snapshot) (rounds : ℕ) (backed weights : Weights) (filled : length backed.committee ≡ snapshot.seats) (members : weights.committee ≡ backed.committee)
    (same : GiveSame backed.edges weights.edges) where
  pub whole_run : AreSeated snapshot rounds backed.committee snapshot.seats backed.edges → AreListed weights.edges → IsRun snapshot rounds weights
  whole_run seated listed = record {
    seats_filled = ap (λ (ns : List ℕ). length ns) members ∙ filled;
    edges = backed.edges;
    seated = subst (λ ps. AreSeated snapshot rounds ps snapshot.seats backed.edges) (sym members) seated;
    same = same;
    listed = listed;
  }

  pub whole_feasible : Follows snapshot weights → ((voter : ℕ) → voter < length snapshot.voters → spent backed.edges voter ≤ stake_of snapshot voter)
      → IsFeasible snapshot weights
  whole_feasible follows within = record {
    follows = follows;
    seats_filled = ap (λ (ns : List ℕ). length ns) members ∙ filled;
    within_stakes = λ voter h. omega (arith, spent_same backed.edges weights.edges same voter, within voter h);
  }
