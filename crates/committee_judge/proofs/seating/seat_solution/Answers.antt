use Rattle.std.proofs.Common.{◌≡◌, ◌∙◌, Ok, Err, ap, sym, subst}
use Rattle.election_snapshot.specs.Snapshot.{Snapshot}
use Rattle.weight_book.specs.Weights.{Weights}
use Rattle.election_check.specs.declared.verdict.Verdict.{Verdict}
use Rattle.election_check.specs.declared.verdict.Verdict.TheVariants.{Yes}
use Rattle.election_check.specs.Packed.{expand_fault, expand_verdict, expanded, weights_unless}
use Rattle.election_work.specs.declared.finding.Finding.TheVariants.{Judged}
use Rattle.committee_judge.specs.Committees.{IsCommittee, unless}
use Rattle.committee_judge.proofs.SeatingLemmas.{unless_refused, expanded_seats, expanded_left}
use Rattle.committee_judge.proofs.seating.seat_solution.Goals as goal

pub returns-in-Yes-clause-seating : goal.returns-in-Yes-clause-seating
returns-in-Yes-clause-seating c =
    let snapshot = c.args.snapshot in
    let solution = c.args.solution.now in
    let yes : expand_verdict snapshot solution ≡ Yes = sym (c.expand.ensures.verdict ∙ ap (λ (s : Snapshot). expand_verdict s solution) c.in_ok-checker.ensures) ∙ c.in-Yes.is in
    let left : c.expand.new.weights.plain ≡ expanded snapshot solution = c.expand.ensures.weights
    ∙ ap (λ (s : Snapshot). weights_unless (expand_fault s solution) (expanded s solution)) c.in_ok-checker.ensures ∙ expanded_left snapshot solution yes in (
      c.into_snapshot.ensures ∙ c.expand.ensures.snapshot ∙ c.in_ok-checker.ensures,
      ap (λ (verdict : Verdict). unless verdict (expanded snapshot solution).committee) yes ∙ ap (λ (weights : Weights). Ok weights.committee) (sym left),
    )

pub returns-in-Yes-clause-seated : goal.returns-in-Yes-clause-seated
returns-in-Yes-clause-seated c =
    let snapshot = c.args.snapshot in
    let solution = c.args.solution.now in
    let yes : expand_verdict snapshot solution ≡ Yes = sym (c.expand.ensures.verdict ∙ ap (λ (s : Snapshot). expand_verdict s solution) c.in_ok-checker.ensures) ∙ c.in-Yes.is in
    let left : c.expand.new.weights.plain ≡ expanded snapshot solution = c.expand.ensures.weights
    ∙ ap (λ (s : Snapshot). weights_unless (expand_fault s solution) (expanded s solution)) c.in_ok-checker.ensures ∙ expanded_left snapshot solution yes in
    subst (λ (s : Snapshot). IsCommittee s c.expand.new.weights.plain.committee) (sym (c.into_snapshot.ensures ∙ c.expand.ensures.snapshot ∙ c.in_ok-checker.ensures))
    (subst (λ (weights : Weights). IsCommittee snapshot weights.committee) (sym left) (expanded_seats snapshot solution yes))

pub returns-in_default : goal.returns-in_default
returns-in_default c =
    let snapshot = c.args.snapshot in
    let solution = c.args.solution.now in
    let is : c.expand.result ≡ expand_verdict snapshot solution = c.expand.ensures.verdict ∙ ap (λ (s : Snapshot). expand_verdict s solution) c.in_ok-checker.ensures in
    record {
      seating = unless_refused (expand_verdict snapshot solution) (expanded snapshot solution).committee (λ yes. c.in_default.not-Yes (is ∙ yes))
          ∙ ap (λ (verdict : Verdict). Err (Judged verdict)) (sym is);
      seated = tt;
    }
