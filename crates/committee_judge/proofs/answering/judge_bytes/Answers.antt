use Rattle.std.proofs.Common.{rules, ◌≡◌, ℕ, length, Ok, subst}
use Rattle.election_work.specs.Bundles.{election_in}
use Rattle.committee_judge.specs.Committees.{committee_in}
use Rattle.committee_judge.specs.Judgements.{IsJudging}
use Rattle.committee_judge.proofs.ReportLemmas.{judge_reported, judge_settled}
use Rattle.committee_judge.proofs.answering.judge_bytes.Goals as goal

pub returns-in_ok-judging-in-Stands-clause-report : goal.returns-in_ok-judging-in-Stands-clause-report
returns-in_ok-judging-in-Stands-clause-report c =
    let bytes = c.args.bytes.items in
    let election = c.in-Stands.election in
    let judging = c.in_ok-judging-in-Stands.judging in
    let is : election_in bytes ≡ Ok election = rw (c.in-Stands.is, c.as_slice.ensures.value) at c.in_ok-read.ensures in
    let size : c.len-size.result ≡ length bytes = search rules in
    let are = subst (λ (size : ℕ). IsJudging election.snapshot (committee_in size election) judging) size c.in_ok-judging-in-Stands.ensures.judging in
    judge_reported bytes election judging is are c.judging_answer.result c.judging_answer.ensures

pub returns-in_ok-judging-in-Stands-clause-answered : goal.returns-in_ok-judging-in-Stands-clause-answered
returns-in_ok-judging-in-Stands-clause-answered c =
    let bytes = c.args.bytes.items in
    let election = c.in-Stands.election in
    let judging = c.in_ok-judging-in-Stands.judging in
    let is : election_in bytes ≡ Ok election = rw (c.in-Stands.is, c.as_slice.ensures.value) at c.in_ok-read.ensures in
    let size : c.len-size.result ≡ length bytes = search rules in
    let are = subst (λ (size : ℕ). IsJudging election.snapshot (committee_in size election) judging) size c.in_ok-judging-in-Stands.ensures.judging in
    judge_settled bytes election judging is are c.judging_answer.result c.judging_answer.ensures
