use Rattle.std.proofs.Common.{◌≡◌, ◌∙◌, Ok, Err, ap, ap₂, sym, subst}
use Rattle.election_snapshot.specs.Snapshot.{Snapshot}
use Rattle.weight_book.specs.Weights.{Weights}
use Rattle.election_check.specs.declared.verdict.Verdict.{Verdict}
use Rattle.election_check.specs.Plain.{verdict_plain}
use Rattle.election_work.specs.declared.finding.Finding.TheVariants.{Judged}
use Rattle.committee_judge.specs.Committees.{IsCommittee, without_edges, is_refusal}
use Rattle.committee_judge.proofs.SeatingLemmas.{list_stands, list_refused, with_edges}
use Rattle.committee_judge.proofs.seating.seat_listed.Goals as goal

pub returns-then-is_refusal-clause-seating : goal.returns-then-is_refusal-clause-seating
returns-then-is_refusal-clause-seating c =
    let snapshot = c.args.snapshot in
    let committee = c.args.committee in
    let plain : c.in_ok-weights.weights.plain ≡ without_edges committee = c.in_ok-weights.ensures.plain ∙ ap (with_edges committee) c.new-no_edges.ensures in
    let is : c.verdict-verdict.result ≡ verdict_plain snapshot (without_edges committee) = c.verdict-verdict.ensures.verdict ∙ ap₂ verdict_plain c.in_ok-checker.ensures plain in
    list_refused snapshot committee (sym (ap is_refusal is) ∙ sym c.is_refusal.ensures ∙ c.if-is_refusal.true)
    ∙ ap (λ (verdict : Verdict). Err (Judged verdict)) (sym is)

pub returns-clause-seating : goal.returns-clause-seating
returns-clause-seating c =
    let snapshot = c.args.snapshot in
    let committee = c.args.committee in
    let plain : c.in_ok-weights.weights.plain ≡ without_edges committee = c.in_ok-weights.ensures.plain ∙ ap (with_edges committee) c.new-no_edges.ensures in
    let is : c.verdict-verdict.result ≡ verdict_plain snapshot (without_edges committee) = c.verdict-verdict.ensures.verdict ∙ ap₂ verdict_plain c.in_ok-checker.ensures plain in (
      c.into_snapshot.ensures ∙ c.verdict-verdict.ensures.snapshot ∙ c.in_ok-checker.ensures,
      (list_stands snapshot committee (sym (ap is_refusal is) ∙ sym c.is_refusal.ensures ∙ c.if-is_refusal.false)).0
          ∙ ap (λ (weights : Weights). Ok weights.committee) (sym plain),
    )

pub returns-clause-seated : goal.returns-clause-seated
returns-clause-seated c =
    let snapshot = c.args.snapshot in
    let committee = c.args.committee in
    let plain : c.in_ok-weights.weights.plain ≡ without_edges committee = c.in_ok-weights.ensures.plain ∙ ap (with_edges committee) c.new-no_edges.ensures in
    let is : c.verdict-verdict.result ≡ verdict_plain snapshot (without_edges committee) = c.verdict-verdict.ensures.verdict ∙ ap₂ verdict_plain c.in_ok-checker.ensures plain in
    subst (λ (s : Snapshot). IsCommittee s c.in_ok-weights.weights.plain.committee) (sym (c.into_snapshot.ensures ∙ c.verdict-verdict.ensures.snapshot ∙ c.in_ok-checker.ensures))
    (subst (λ (weights : Weights). IsCommittee snapshot weights.committee) (sym plain)
    (list_stands snapshot committee (sym (ap is_refusal is) ∙ sym c.is_refusal.ensures ∙ c.if-is_refusal.false)).1)
