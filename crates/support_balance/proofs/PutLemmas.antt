-- Edges above 0, and rounds from edges that give the same.
use Rattle.std.proofs.Common.{◌≡◌, ℕ, zero, suc, ◌+◌, ◌<◌, ◌≤◌, Bool, true, nat_lt, List, [], ◌∷◌, length, sum_by, get_or, inl, inr, refl, ap, sym, ◌∙◌, arith}
use Rattle.std.specs.List.{AllPairs}
use Rattle.std.proofs.lemmas.List.Sums.{sum_by-cons}
use Rattle.std.proofs.lemmas.List.Elements.{All-filter, filter_passes}
use Rattle.std.proofs.lemmas.List.Kept.{AllPairs-filter}
use Rattle.std.proofs.lemmas.Bool.{cases_Bool, ltb-true, ltb-false}
use Rattle.npos_base.specs.declared.figures.Edge.{Edge}
use Rattle.election_snapshot.specs.Snapshot.{Snapshot, has, nominates}
use Rattle.weight_book.specs.Weights.{Follows}
use Rattle.support_balance.specs.Rounds.{GiveSame, AreRounds, IsBalanced, IsBefore, AreListed}
use Rattle.support_balance.specs.Backing.{above_zero}
use Rattle.support_balance.proofs.GivenLemmas.{pair_weight, given_weight, none_weight}
use Rattle.support_balance.proofs.BackingLemmas.{distinct_before}

above_weight : (edges : List Edge) (voter target : ℕ) → sum_by (pair_weight voter target) (above_zero edges) ≡ sum_by (pair_weight voter target) edges
above_weight [] voter target = refl
above_weight (edge ∷ edges) voter target =
    let rest = above_weight edges voter target in
    let whole = sum_by-cons (pair_weight voter target) edge edges in
    elim (cases_Bool (nat_lt 0 edge.amount)) [
      | inl t ↦ rw t (sum_by-cons (pair_weight voter target) edge (above_zero edges) ∙ ap (λ n. pair_weight voter target edge + n) rest ∙ sym whole)
      | inr t ↦ rw t (omega (arith, rest, whole, none_weight edge voter target (ltb-false 0 edge.amount t)))
    ]

pub same_above : (edges : List Edge) → GiveSame edges (above_zero edges)
same_above edges voter target = given_weight (above_zero edges) voter target ∙ above_weight edges voter target ∙ sym (given_weight edges voter target)

pub listed_above : (edges : List Edge) → AllPairs IsBefore edges → AreListed (above_zero edges)
listed_above edges rising = record {
  rising = AllPairs-filter IsBefore (λ (e : Edge). nat_lt 0 e.amount) edges rising;
  above = λ k d h. ltb-true 0 (get_or (above_zero edges) k d).amount (filter_passes (λ (e : Edge). nat_lt 0 e.amount) edges k d h);
}

pub follows_above : (snapshot : Snapshot) (committee : List ℕ) (edges : List Edge) → AllPairs IsBefore edges → Follows snapshot (record { committee = committee; edges = edges })
    → Follows snapshot (record { committee = committee; edges = above_zero edges })
follows_above snapshot committee edges rising so = record {
  members_in_range = so.members_in_range;
  members_distinct = so.members_distinct;
  pairs_distinct = distinct_before (above_zero edges) (listed_above edges rising).rising;
  voters_in_range = All-filter test (λ (e : Edge). e.voter < length snapshot.voters) edges so.voters_in_range;
  to_members = All-filter test (λ (e : Edge). has committee e.target ≡ true) edges so.to_members;
  nominated = All-filter test (λ (e : Edge). nominates snapshot e.voter e.target ≡ true) edges so.nominated;
} where
  test : Edge → Bool
  test edge = nat_lt 0 edge.amount

pub same_then : (a b c : List Edge) → GiveSame a b → GiveSame b c → GiveSame a c
same_then a b c x y voter target = y voter target ∙ x voter target

pub rounds_from : (snapshot : Snapshot) (committee : List ℕ) (made : ℕ) (first old new : List Edge) → GiveSame first old → AreRounds snapshot committee made old new
    → AreRounds snapshot committee made first new
rounds_from snapshot committee zero first old new same rounds = same_then first old new same rounds
rounds_from snapshot committee (suc made) first old new same (before, rounds, last, apart) =
    (before, rounds_from snapshot committee made first old before same rounds, last, apart)

pub balanced_between : (snapshot : Snapshot) (committee : List ℕ) (asked made : ℕ) (first old new last : List Edge) → GiveSame first old → GiveSame new last
    → IsBalanced snapshot committee asked made old new → IsBalanced snapshot committee asked made first last
balanced_between snapshot committee asked made first old new last before behind so = record {
  after = so.after;
  no_more = so.no_more;
  rounds = elim so.rounds [
    | inl all ↦ inl (rounds_from snapshot committee made first old so.after before all.0, all.1)
    | inr (earlier, mid, is, rounds, round, same) ↦ inr (earlier, mid, is, rounds_from snapshot committee earlier first old mid before rounds, round, same)
  ];
  same = same_then so.after new last so.same behind;
}

pub balanced_some : (snapshot : Snapshot) (committee : List ℕ) (asked made : ℕ) (old new : List Edge) → IsBalanced snapshot committee asked made old new → 1 ≤ asked → 1 ≤ made
balanced_some snapshot committee asked made old new so some = elim so.rounds [
  | inl all ↦ omega (arith, all.1, some)
  | inr settled ↦ omega (arith, settled.2)
]

pub none_balanced : (snapshot : Snapshot) (committee : List ℕ) (edges : List Edge) → IsBalanced snapshot committee 0 0 edges edges
none_balanced snapshot committee edges = record {
  after = edges;
  no_more = omega arith;
  rounds = inl (λ voter target. refl, refl);
  same = λ voter target. refl;
}
