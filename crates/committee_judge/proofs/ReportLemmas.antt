-- What is told of a judgement.
use Rattle.std.proofs.Common.{◌≡◌, ℕ, ◌+◌, ◌<◌, ◌≤◌, List, ◌++◌, length, take, get_or, flat_map, slice_get, Option, Some, None, Result, Ok, Err, IfOk, IfSome, All, arith, refl, ap, sym, subst, ◌∙◌, ◌&&◌}
use Rattle.std.proofs.lemmas.List.{take_more, flat_map_more}
use Rattle.std.proofs.lemmas.List.Elements.{All-from_recursion}
use Rattle.std.proofs.lemmas.Option.{get_or_from_slice_get}
use Rattle.npos_base.specs.declared.account.AccountId.{AccountId}
use Rattle.npos_base.specs.declared.no_memory.NoMemory.{NoMemory}
use Rattle.scale_wire.specs.declared.fault.WireFault.{WireFault}
use Rattle.block_wire.specs.declared.bundle.Work.{Work}
use Rattle.block_wire.specs.declared.bundle.Work.TheVariants.{Nothing, Packed, Plain}
use Rattle.election_snapshot.specs.Snapshot.{Snapshot, has, no_account}
use Rattle.weight_book.specs.Answered.{IsAnswered}
use Rattle.weight_book.specs.Proportional.{nominated_by}
use Rattle.compact_solution.specs.Solution.{Entry}
use Rattle.compact_solution.specs.Decoded.{decoded}
use Rattle.election_check.specs.declared.verdict.Verdict.{Verdict}
use Rattle.election_check.specs.declared.verdict.Verdict.TheVariants.{Yes, Undecodable, NoVoter, NoTarget, VoterTwice, TargetTwice, NotNominated, BadShare, WrongSize, WrongScore, Outweighed, Overspent}
use Rattle.election_check.specs.Packed.{expand_verdict, expanded}
use Rattle.election_check.proofs.ListFacts.{range_within}
use Rattle.committee_answer.specs.declared.denied.Denied.{Denied}
use Rattle.committee_answer.specs.Denials.{IsFound, members_of}
use Rattle.election_work.specs.declared.finding.Finding.{Finding}
use Rattle.election_work.specs.declared.reading.Election.{Election}
use Rattle.election_work.specs.declared.reading.NoElection.{NoElection}
use Rattle.election_work.specs.Bundles.{election_in}
use Rattle.bundle_reports.specs.declared.answers.Answer.{Answer}
use Rattle.bundle_reports.specs.declared.ending.Ending.{Ending}
use Rattle.bundle_reports.specs.declared.ending.Ending.TheVariants as endings
use Rattle.bundle_reports.specs.Answer.{report_of}
use Rattle.bundle_reports.specs.Bundles.{Report, finding_ending}
use Rattle.committee_judge.specs.declared.judging.Judging.{Judging}
use Rattle.committee_judge.specs.declared.judging.Judging.TheVariants as judgings
use Rattle.committee_judge.specs.Committees.{list_verdict, unless, unpacked, committee_of, committee_in}
use Rattle.committee_judge.specs.Judgements.{IsJudgement, IsJudging}
use Rattle.committee_judge.specs.Reports.{IsWithin, IsAnsweredIn, IsJudgeReport, IsReportOn, target_at, judged_report, judging_report}

-- ## What is told stands in the election

members_within : (snapshot : Snapshot) (committee group : List ℕ) → All (λ member. member < length snapshot.targets) (members_of snapshot committee group)
members_within snapshot committee group = λ k d below.
    let within = (All-from_recursion (λ n. (0 ≤ n) × (n < 0 + length snapshot.targets)) (members_of snapshot committee group)
    (range_within (λ target. has committee target && nominated_by snapshot group target) 0 (length snapshot.targets)) k d below).1 in
    omega (arith, within)

pub found_within : (snapshot : Snapshot) (committee : List ℕ) (found : Denied) → IsFound snapshot committee found → IsWithin snapshot found
found_within snapshot committee found is = record {
  target = is.case.denied.in_range;
  voters = is.case.is_group.voters_in_range;
  members = subst (λ (members : List ℕ). All (λ member. member < length snapshot.targets) members) (sym is.members) (members_within snapshot committee found.group.items);
}

-- one line more
pub line_more : {X : Type 0} (line : X → List ℕ) (text before : List ℕ) (xs : List X) (i : ℕ) (d : X) → i < length xs
    → text ≡ before ++ flat_map line (take i xs) → text ++ line (get_or xs i d) ≡ before ++ flat_map line (take (i + 1) xs)
line_more line text before xs i d h so_far =
    ap (λ t. t ++ line (get_or xs i d)) so_far
    ∙ flat_map_more line before (take i xs) (get_or xs i d)
    ∙ ap (λ seen. before ++ flat_map line seen) (sym (take_more xs i d h))

-- the account of a target that stands
pub stands_at : (snapshot : Snapshot) (target : ℕ) (who : AccountId) → slice_get snapshot.targets target ≡ Some who → who ≡ target_at snapshot target
stands_at snapshot target who is = sym (get_or_from_slice_get snapshot.targets target who no_account is)

-- ## The judgement

pub judged : (snapshot : Snapshot) (committee : List ℕ) (denied : Option Denied) → (denied ≡ None → IsAnswered snapshot committee)
    → IfSome denied (IsFound snapshot committee) → IsJudgement snapshot committee denied
judged snapshot committee None answered found = answered refl
judged snapshot committee (Some denied) answered found = found

pub judged_within : (snapshot : Snapshot) (committee : List ℕ) (denied : Option Denied) → IsJudgement snapshot committee denied → IfSome denied (IsWithin snapshot)
judged_within snapshot committee None is = tt
judged_within snapshot committee (Some denied) is = found_within snapshot committee denied is

-- ## What ends as done

-- how it ends where there is no committee
abbrev ending_of : Result (List ℕ) Finding → Ending
ending_of (Ok committee) = endings.No
ending_of (Err finding) = finding_ending finding

unless_ending : (verdict : Verdict) (committee : List ℕ) → ending_of (unless verdict committee) ≡ endings.No
unless_ending Yes committee = refl
unless_ending (Undecodable at why) committee = refl
unless_ending (NoVoter voter) committee = refl
unless_ending (NoTarget target) committee = refl
unless_ending (VoterTwice voter) committee = refl
unless_ending (TargetTwice target) committee = refl
unless_ending (NotNominated voter target) committee = refl
unless_ending (BadShare voter) committee = refl
unless_ending (WrongSize found) committee = refl
unless_ending (WrongScore actual) committee = refl
unless_ending (Outweighed target prescore) committee = refl
unless_ending (Overspent voter) committee = refl

undone_no : (ending : Ending) → ending ≡ endings.No → ending ≡ endings.Done → ⊥
undone_no ending is_no done = absurd (let is : endings.No ≡ endings.Done = sym is_no ∙ done in cc)

unpacked_undone : (snapshot : Snapshot) (read : Result (List (List Entry)) WireFault) → ending_of (unpacked snapshot read) ≡ endings.Done → ⊥
unpacked_undone snapshot (Ok solution) done = undone_no _ (unless_ending (expand_verdict snapshot solution) (expanded snapshot solution).committee) done
unpacked_undone snapshot (Err fault) done = absurd (cc)

-- no work without a committee ends as done
undone : (size : ℕ) (snapshot : Snapshot) (work : Work) → ending_of (committee_of size snapshot work) ≡ endings.Done → ⊥
undone size snapshot Nothing done = absurd (cc)
undone size snapshot (Packed claim bytes) done = unpacked_undone snapshot (decoded bytes) done
undone size snapshot (Plain committee edges) done = undone_no _ (unless_ending (list_verdict snapshot committee) committee) done

denied_no : (snapshot : Snapshot) (denied : Option Denied) → (judged_report snapshot denied).ending ≡ endings.Done → denied ≡ None
denied_no snapshot None done = refl
denied_no snapshot (Some denied) done = absurd (cc)

-- what is reported as done denies nobody
pub settled : (bytes : List ℕ) (election : Election) (judging : Judging) → election_in bytes ≡ Ok election
    → IsJudging election.snapshot (committee_in (length bytes) election) judging → (judging_report judging).ending ≡ endings.Done → IsAnsweredIn bytes
settled bytes election (judgings.Done judged) is (committee, due, same, judgement) done = record {
  election = election;
  is_election = is;
  committee = committee;
  is_committee = due;
  answered = subst (λ (denied : Option Denied). IsJudgement election.snapshot committee denied) (denied_no judged.snapshot judged.denied done) judgement;
}
settled bytes election (judgings.Refused finding) is due done =
    absurd (undone (length bytes) election.snapshot election.work (ap ending_of due ∙ done))

module _ (bytes : List ℕ) (election : Election) (judging : Judging) (is : election_in bytes ≡ Ok election)
    (are : IsJudging election.snapshot (committee_in (length bytes) election) judging) where
  pub judge_reported : (result : Result Answer NoMemory) → IfOk result (λ answer. report_of answer ≡ judging_report judging)
      → IfOk result (λ answer. IsJudgeReport bytes (report_of answer))
  judge_reported (Ok answer) report = subst (λ (due : Result Election NoElection). IsReportOn (length bytes) due (report_of answer)) (sym is) (judging, are, report)
  judge_reported (Err want) report = tt

  pub judge_settled : (result : Result Answer NoMemory) → IfOk result (λ answer. report_of answer ≡ judging_report judging)
      → IfOk result (λ answer. answer.ending ≡ endings.Done → IsAnsweredIn bytes)
  judge_settled (Ok answer) report = λ done. settled bytes election judging is are (sym (ap (λ (told : Report). told.ending) report) ∙ done)
  judge_settled (Err want) report = tt
