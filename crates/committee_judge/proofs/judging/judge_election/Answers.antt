use Rattle.std.proofs.Common.{List, ℕ, Ok, ap, subst}
use Rattle.election_snapshot.specs.Snapshot.{Snapshot}
use Rattle.committee_judge.specs.Judgements.{IsJudgement}
use Rattle.committee_judge.proofs.ReportLemmas.{judged, judged_within}
use Rattle.committee_judge.proofs.judging.judge_election.Goals as goal

pub returns-in_ok-denied-in-Stands-clause-judging : goal.returns-in_ok-denied-in-Stands-clause-judging
returns-in_ok-denied-in-Stands-clause-judging c =
    let seating = rw c.in-Stands.is at c.in_ok-seated.ensures.seating in
    let denied = c.in_ok-denied-in-Stands.denied in
    let is = judged c.in-Stands.seated.snapshot c.committee.result.now denied (λ none. c.in_ok-denied-in-Stands.ensures.answered (ap Ok none)) c.in_ok-denied-in-Stands.ensures.denied in (
      c.in-Stands.seated.weights.plain.committee,
      seating.1,
      seating.0,
      subst (λ (s : Snapshot). IsJudgement s c.in-Stands.seated.weights.plain.committee denied) seating.0
          (subst (λ (members : List ℕ). IsJudgement c.in-Stands.seated.snapshot members denied) c.committee.ensures is),
    )

pub returns-in_ok-denied-in-Stands-clause-within : goal.returns-in_ok-denied-in-Stands-clause-within
returns-in_ok-denied-in-Stands-clause-within c =
    let denied = c.in_ok-denied-in-Stands.denied in
    judged_within c.in-Stands.seated.snapshot c.committee.result.now denied
    (judged c.in-Stands.seated.snapshot c.committee.result.now denied (λ none. c.in_ok-denied-in-Stands.ensures.answered (ap Ok none)) c.in_ok-denied-in-Stands.ensures.denied)
