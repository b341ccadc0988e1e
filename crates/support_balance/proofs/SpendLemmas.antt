-- After a round each voter with a member has spent its whole stake.
use Rattle.std.proofs.Common.{◌≡◌, ℕ, zero, suc, ◌+◌, ◌<◌, ◌≤◌, true, nat_eq, List, [], ◌∷◌, length, sum_by, inl, inr, refl, ap, sym, ◌∙◌, arith}
use Rattle.std.specs.List.{range_with_len}
use Rattle.std.proofs.lemmas.List.Sums.{get_or-le-sum_by}
use Rattle.std.proofs.lemmas.Bool.{cases_eq, eq-eqb, or_left}
use Rattle.npos_base.specs.declared.figures.Edge.{Edge}
use Rattle.election_snapshot.specs.Snapshot.{Snapshot, has, stake_of}
use Rattle.weight_book.specs.Weights.{edges_from, amount_sum, spent}
use Rattle.weight_book.proofs.SumLemmas.{sum_same}
use Rattle.support_balance.specs.Turns.{given, backs}
use Rattle.support_balance.specs.Rounds.{GiveSame, AreTurns, IsRound, AreRounds, IsBalanced}
use Rattle.support_balance.specs.Laid.{targets_of, Covers}
use Rattle.support_balance.proofs.SplitLemmas.{from_but, spent_given}

pub spent_same : (old new : List Edge) → GiveSame old new → (voter : ℕ) → spent new voter ≡ spent old voter
spent_same old new same voter =
    let key = λ (e : Edge). e.target in
    let bound = sum_by key old + sum_by key new + 1 in
    sym (spent_given new voter bound (λ k d h. omega (arith, get_or-le-sum_by key new k d h)))
    ∙ sum_same (given new voter) (given old voter) (same voter) (range_with_len 0 bound)
    ∙ spent_given old voter bound (λ k d h. omega (arith, get_or-le-sum_by key old k d h))

turns_whole : (snapshot : Snapshot) (committee : List ℕ) (voters : ℕ) (old new : List Edge) → AreTurns snapshot committee voters old new
    → (voter target : ℕ) → voter < voters → backs snapshot committee voter target ≡ true → spent new voter ≡ stake_of snapshot voter
turns_whole snapshot committee zero old new turns voter target h some = absurd (omega arith)
turns_whole snapshot committee (suc last) old new (before, turns, turn) voter target h some = elim (cases_eq voter last) [
  | inl same ↦ ap (spent new) same ∙ turn.whole target (ap (λ n. backs snapshot committee n target) (sym same) ∙ some) ∙ ap (stake_of snapshot) (sym same)
  | inr other ↦
      ap amount_sum (sym (from_but new last voter other) ∙ ap (λ es. edges_from es voter) turn.others ∙ from_but before last voter other)
      ∙ turns_whole snapshot committee last old before turns voter target (omega (arith, h, other)) some
]

last_round : (snapshot : Snapshot) (committee : List ℕ) (made : ℕ) (old new : List Edge) → 1 ≤ made → AreRounds snapshot committee made old new
    → (before : List Edge) × IsRound snapshot committee before new
last_round snapshot committee zero old new some rounds = absurd (omega arith)
last_round snapshot committee (suc made) old new some (before, rounds, round, apart) = (before, round)

balanced_round : (snapshot : Snapshot) (committee : List ℕ) (asked made : ℕ) (old new : List Edge) → 1 ≤ asked → (so : IsBalanced snapshot committee asked made old new)
    → (before : List Edge) × IsRound snapshot committee before so.after
balanced_round snapshot committee asked made old new some so = elim so.rounds [
  | inl all ↦ last_round snapshot committee made old so.after (omega (arith, all.1, some)) all.0
  | inr (earlier, before, is, rounds, round, same) ↦ (before, round)
]

pub balanced_whole : (snapshot : Snapshot) (committee : List ℕ) (asked made : ℕ) (old new : List Edge) → 1 ≤ asked → IsBalanced snapshot committee asked made old new
    → (voter target : ℕ) → voter < length snapshot.voters → backs snapshot committee voter target ≡ true → spent new voter ≡ stake_of snapshot voter
balanced_whole snapshot committee asked made old new some so voter target h t =
    let (before, round) = balanced_round snapshot committee asked made old new some so in
    spent_same so.after new so.same voter ∙ turns_whole snapshot committee (length snapshot.voters) before so.after round voter target h t

pub spends_within : (snapshot : Snapshot) (committee : List ℕ) (asked made : ℕ) (old new : List Edge) → Covers snapshot committee new → 1 ≤ asked
    → IsBalanced snapshot committee asked made old new → (voter : ℕ) → voter < length snapshot.voters → spent new voter ≤ stake_of snapshot voter
spends_within snapshot committee asked made old new covers some so voter h = by_edges (edges_from new voter) refl where
  by_edges : (own : List Edge) → edges_from new voter ≡ own → spent new voter ≤ stake_of snapshot voter
  by_edges [] is = omega (arith, ap amount_sum is)
  by_edges (edge ∷ edges) is =
      let there : has (targets_of (edges_from new voter)) edge.target ≡ true =
      ap (λ es. has (targets_of es) edge.target) is ∙ or_left (nat_eq edge.target edge.target) (has (targets_of edges) edge.target) (eq-eqb edge.target edge.target refl) in
      omega (arith, balanced_whole snapshot committee asked made old new some so voter edge.target h (sym (covers voter edge.target h) ∙ there))
