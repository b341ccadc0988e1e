-- One round after others.
use Rattle.std.proofs.Common.{◌≡◌, ℕ, suc, ◌+◌, ◌≤◌, true, false, List, inr, refl, subst, arith}
use Rattle.std.specs.List.{AllPairs}
use Rattle.npos_base.specs.declared.figures.Edge.{Edge}
use Rattle.election_snapshot.specs.Snapshot.{Snapshot}
use Rattle.support_balance.specs.Rounds.{IsRound, AreRounds, IsBalanced, IsBefore}
use Rattle.support_balance.specs.Rows.{AreAlike, amounts, differs}
use Rattle.support_balance.proofs.GivenLemmas.{same_edges, not_same, same_given}

module _ (snapshot : Snapshot) (committee : List ℕ) (made : ℕ) (old before new : List Edge) (rounds : AreRounds snapshot committee made old before)
    (alike : AreAlike before new) (round : IsRound snapshot committee before new) where
  -- it changed an amount
  pub more_rounds : AllPairs IsBefore before → AllPairs IsBefore new → differs (amounts before) (amounts new) ≡ true → AreRounds snapshot committee (made + 1) old new
  more_rounds rising rising' some =
      let one : suc made ≡ made + 1 = omega arith in
      let all : AreRounds snapshot committee (suc made) old new = (before, rounds, round, not_same before new alike rising rising' some) in
      subst (λ n. AreRounds snapshot committee n old new) one all

  -- it changed nothing
  pub settled : (asked : ℕ) → made + 1 ≤ asked → differs (amounts before) (amounts new) ≡ false → IsBalanced snapshot committee asked (made + 1) old new
  settled asked most none = record {
    after = new;
    no_more = most;
    rounds = inr (made, before, refl, rounds, round, same_given before new (same_edges before new alike none));
    same = λ voter target. refl;
  }
