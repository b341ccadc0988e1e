-- A balancing does not raise the sum of squares where all stakes were given whole.
use Rattle.std.proofs.Common.{◌≡◌, ◌≢◌, ℕ, zero, suc, ◌+◌, ◌*◌, ◌<◌, ◌≤◌, true, false, nat_eq, List, length, sum_by, get_or, inl, inr, ap, sym, subst, ◌∙◌, arith}
use Rattle.std.specs.List.{IsDistinct, range_with_len}
use Rattle.std.proofs.lemmas.List.Sums.{get_or-le-sum_by}
use Rattle.std.proofs.lemmas.List.Elements.{All-filter, filter_passes}
use Rattle.std.proofs.lemmas.Bool.{cases_Bool, cases_eq, eqb-true, true≢false}
use Rattle.npos_base.specs.declared.figures.Edge.{Edge}
use Rattle.election_snapshot.specs.Snapshot.{Snapshot, has, nominates, stake_of}
use Rattle.weight_book.specs.Weights.{edges_from, edges_to, amount_sum, support, spent, Follows}
use Rattle.weight_book.proofs.SumLemmas.{sum_same}
use Rattle.support_balance.specs.Turns.{given, backs, IsTurn}
use Rattle.support_balance.specs.Rounds.{GiveSame, AreTurns, AreRounds, IsBalanced}
use Rattle.support_balance.specs.Laid.{targets_of}
use Rattle.support_balance.specs.Laws.{squares, HaveSpent, BalanceLaw}
use Rattle.support_balance.proofs.Edges.{no_edge}
use Rattle.support_balance.proofs.SplitLemmas.{from_but, support_given}
use Rattle.support_balance.proofs.SpendLemmas.{spent_same}
use Rattle.support_balance.proofs.SquareLemmas.{no_higher_squares}
use Rattle.support_balance.proofs.TurnLemmas.{none_to, place_of}

pub support_same : (old new : List Edge) → GiveSame old new → (target : ℕ) → support new target ≡ support old target
support_same old new same target =
    let key = λ (e : Edge). e.voter in
    let bound = sum_by key old + sum_by key new + 1 in
    sym (support_given new target bound (λ k d h. omega (arith, get_or-le-sum_by key new k d h)))
    ∙ sum_same (λ voter. given new voter target) (λ voter. given old voter target) (λ voter. same voter target) (range_with_len 0 bound)
    ∙ support_given old target bound (λ k d h. omega (arith, get_or-le-sum_by key old k d h))

module _ (snapshot : Snapshot) (committee : List ℕ) (distinct : IsDistinct nat_eq committee) where
  -- each voter gives to members that it nominates alone, and to them its whole stake
  record AreSpent (edges : List Edge) : Type 0 where
    pub to_backed : (voter target : ℕ) → voter < length snapshot.voters → backs snapshot committee voter target ≡ false → given edges voter target ≡ 0
    pub whole : HaveSpent snapshot committee edges

  record Falls (old new : List Edge) : Type 0 where
    pub still : AreSpent new
    pub lower : squares committee new ≤ squares committee old

  falls_on : (a b c : List Edge) → Falls a b → Falls b c → Falls a c
  falls_on a b c one other = record { still = other.still; lower = omega (arith, one.lower, other.lower) }

  same_falls : (old new : List Edge) → AreSpent old → GiveSame old new → Falls old new
  same_falls old new so same = record {
    still = record {
      to_backed = λ voter target h f. same voter target ∙ so.to_backed voter target h f;
      whole = λ voter target h t. spent_same old new same voter ∙ so.whole voter target h t;
    };
    lower = omega (
      arith,
      sum_same (λ member. support new member * support new member) (λ member. support old member * support old member)
          (λ member. ap (λ n. n * n) (support_same old new same member)) committee,
    );
  }

  turn_falls : (voter : ℕ) (old new : List Edge) → voter < length snapshot.voters → AreSpent old → IsTurn snapshot committee voter old new → Falls old new
  turn_falls voter old new within so turn = record {
    still = record {
      to_backed = λ other target h f. elim (cases_eq other voter) [
        | inl same ↦ subst (λ n. backs snapshot committee n target ≡ false → given new n target ≡ 0) (sym same) (turn.to_backed target) f
        | inr apart ↦ ap (λ es. amount_sum (edges_to es target)) (kept other apart) ∙ so.to_backed other target h f
      ];
      whole = λ other target h t. elim (cases_eq other voter) [
        | inl same ↦ subst (λ n. backs snapshot committee n target ≡ true → spent new n ≡ stake_of snapshot n) (sym same) (turn.whole target) t
        | inr apart ↦ ap amount_sum (kept other apart) ∙ so.whole other target h t
      ];
    };
    lower = no_higher_squares snapshot committee voter old new distinct (λ target. so.to_backed voter target within) (λ target. so.whole voter target within) turn;
  } where
    kept : (other : ℕ) → other ≢ voter → edges_from new other ≡ edges_from old other
    kept other apart = sym (from_but new voter other apart) ∙ ap (λ es. edges_from es other) turn.others ∙ from_but old voter other apart

  turns_fall : (voters : ℕ) (old new : List Edge) → voters ≤ length snapshot.voters → AreSpent old → AreTurns snapshot committee voters old new → Falls old new
  turns_fall zero old new within so turns = same_falls old new so turns
  turns_fall (suc voter) old new within so (before, turns, turn) =
      let first = turns_fall voter old before (omega (arith, within)) so turns in
      falls_on old before new first (turn_falls voter before new (omega (arith, within)) first.still turn)

  rounds_fall : (made : ℕ) (old new : List Edge) → AreSpent old → AreRounds snapshot committee made old new → Falls old new
  rounds_fall zero old new so rounds = same_falls old new so rounds
  rounds_fall (suc made) old new so (before, rounds, round, apart) =
      let first = rounds_fall made old before so rounds in
      falls_on old before new first (turns_fall (length snapshot.voters) before new (omega arith) first.still round)

  balance_falls : (asked made : ℕ) (old new : List Edge) → AreSpent old → IsBalanced snapshot committee asked made old new → Falls old new
  balance_falls asked made old new so balanced =
      let made_all : Falls old balanced.after = elim balanced.rounds [
        | inl all ↦ rounds_fall made old balanced.after so all.0
        | inr (earlier, before, is, rounds, round, same) ↦
            let first = rounds_fall earlier old before so rounds in
            falls_on old before balanced.after first (turns_fall (length snapshot.voters) before balanced.after (omega arith) first.still round)
      ] in
      falls_on old balanced.after new made_all (same_falls balanced.after new made_all.still balanced.same)

-- edges that follow give to members that are nominated alone
following : (snapshot : Snapshot) (committee : List ℕ) (edges : List Edge) → Follows snapshot (record { committee = committee; edges = edges })
    → (voter target : ℕ) → backs snapshot committee voter target ≡ false → given edges voter target ≡ 0
following snapshot committee edges follows voter target f = elim (cases_Bool (has (targets_of (edges_from edges voter)) target)) [
  | inr none ↦ none_to (edges_from edges voter) target none
  | inl some ↦
      let (k, h, is) = place_of (edges_from edges voter) target some in
      let own = λ (e : Edge). nat_eq e.voter voter in
      let edge = get_or (edges_from edges voter) k no_edge in
      let from : edge.voter ≡ voter = eqb-true edge.voter voter (filter_passes own edges k no_edge h) in
      let member : has committee target ≡ true = ap (has committee) (sym (is no_edge)) ∙ All-filter own (λ (e : Edge). has committee e.target ≡ true) edges follows.to_members k no_edge h in
      let voted : nominates snapshot voter target ≡ true =
      ap (λ n. nominates snapshot n target) (sym from) ∙ ap (nominates snapshot edge.voter) (sym (is no_edge))
      ∙ All-filter own (λ (e : Edge). nominates snapshot e.voter e.target ≡ true) edges follows.nominated k no_edge h in
      absurd (true≢false (sym (rw member (voted)) ∙ f))
]

pub no_higher_balance : BalanceLaw
no_higher_balance snapshot committee asked made old new follows whole balanced =
    let so = balance_falls snapshot committee follows.members_distinct asked made old new
    (record { to_backed = λ voter target h. following snapshot committee old follows voter target; whole = whole }) balanced in
    (so.lower, so.still.whole)
