use Rattle.std.proofs.Common.{arith, ℕ, List, sym, subst, inl, inr}
use Rattle.std.proofs.lemmas.Bool.{cases_eq}
use Rattle.weight_book.specs.Answered.{IsDenied}
use Rattle.committee_answer.proofs.finding.find_denied.Goals as goal

pub tell-requires-clause-lowest : goal.tell-requires-clause-lowest
tell-requires-clause-lowest c = λ lower below denied.
    c.loop-target.invariant.1 lower below (subst (λ (members : List ℕ). IsDenied c.args.snapshot.now members lower) c.in_ok-committee.ensures denied)

pub loop-target-preserved : goal.loop-target-preserved
loop-target-preserved c =
    let snapshot = c.args.snapshot.now in
    let n = c.loop-target.target in
    let not_this : IsDenied snapshot c.args.committee.now n → ⊥ = λ denied.
    c.in_ok-denies.ensures.no c.if-branch.false (subst (λ (members : List ℕ). IsDenied snapshot members n) (sym c.in_ok-committee.ensures) denied) in (
      c.in_ok-denies.ensures.tables,
      λ lower below denied. elim (cases_eq lower n) [
        | inl e ↦ not_this (subst (λ (m : ℕ). IsDenied snapshot c.args.committee.now m) e denied)
        | inr e ↦ c.loop-target.invariant.1 lower (omega (arith, below, e)) denied
      ],
    )

pub returns-clause-answered : goal.returns-clause-answered
returns-clause-answered c = λ _ target denied.
    c.loop-target.invariant.1 target (omega (arith, denied.in_range, c.loop-target-test.false, c.target_count-target-end.ensures.count)) denied
