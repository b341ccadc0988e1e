-- What is reported of a committee that is judged.
use Rattle.std.specs.Prelude.{◌≡◌, ⊤, ℕ, ◌-◌, ◌*◌, ◌/◌, ◌<◌, List, [], ◌++◌, flat_map, length, slice_index_or, codes, All, Option, Some, None, Result, Ok, Err, IfSome}
use Rattle.npos_base.specs.declared.account.AccountId.{AccountId}
use Rattle.election_snapshot.specs.Snapshot.{Snapshot, no_account, voter_at, stake_of, total_stake}
use Rattle.weight_book.specs.Answered.{IsAnswered}
use Rattle.election_check.specs.declared.verdict.Verdict.TheVariants.{Yes, Outweighed}
use Rattle.committee_answer.specs.declared.denied.Denied.{Denied}
use Rattle.told_lines.specs.Texts.{newline, account_text, number_text}
use Rattle.election_work.specs.declared.finding.Finding.TheVariants.{Unread}
use Rattle.election_work.specs.declared.reading.Election.{Election}
use Rattle.election_work.specs.declared.reading.NoElection.{NoElection}
use Rattle.election_work.specs.Bundles.{election_in}
use Rattle.bundle_reports.specs.Bundles.{Report, told, reported}
use Rattle.committee_judge.specs.declared.judging.Judging.{Judging}
use Rattle.committee_judge.specs.declared.judging.Judging.TheVariants.{Done, Refused}
use Rattle.committee_judge.specs.Committees.{committee_in}
use Rattle.committee_judge.specs.Judgements.{IsJudging}

-- ## The lines of a target that is denied

abbrev pub target_at : Snapshot → ℕ → AccountId
target_at snapshot target = slice_index_or snapshot.targets target no_account

-- the target that is denied
abbrev pub denied_text : Snapshot → ℕ → List ℕ
denied_text snapshot target = codes "denied " ++ (account_text (target_at snapshot target) ++ codes " seats")

-- the seats that the group's stake stands for, how many members it nominates, and its stake
abbrev pub claim_text : Denied → List ℕ
claim_text denied =
    number_text denied.seats ++ (codes " members" ++ (number_text (length denied.members.items)
    ++ (codes " stake" ++ (number_text denied.stake ++ newline))))

abbrev pub voter_line : Snapshot → ℕ → List ℕ
voter_line snapshot voter =
    codes "voter " ++ (account_text (voter_at snapshot voter).account ++ (number_text (stake_of snapshot voter) ++ newline))

abbrev pub target_line : Snapshot → ℕ → List ℕ
target_line snapshot member = codes "member " ++ (account_text (target_at snapshot member) ++ newline)

-- the target, then each voter of the group, then each member that one of them nominates
abbrev pub denied_lines : Snapshot → Denied → List ℕ
denied_lines snapshot denied =
    denied_text snapshot denied.target ++ (claim_text denied
    ++ (flat_map (voter_line snapshot) denied.group.items
    ++ flat_map (target_line snapshot) denied.members.items))

-- What the group's stake times the seats is above the total for each of those members, by the seats, rounded down.
abbrev pub excess_of : Snapshot → Denied → ℕ
excess_of snapshot denied =
    (snapshot.seats * denied.stake - length denied.members.items * total_stake snapshot) / snapshot.seats

-- all that is named stands in the election
pub record IsWithin (snapshot : Snapshot) (denied : Denied) : Type 0 where
  pub target : denied.target < length snapshot.targets
  pub voters : All (λ voter. voter < length snapshot.voters) denied.group.items
  pub members : All (λ member. member < length snapshot.targets) denied.members.items

abbrev pub NamesWithin : Judging → Type 0
NamesWithin (Done judged) = IfSome judged.denied (IsWithin judged.snapshot)
NamesWithin (Refused finding) = ⊤

-- ## The reports

abbrev pub denied_report : Snapshot → Denied → Report
denied_report snapshot denied =
    told (denied_lines snapshot denied) (Outweighed denied.target (excess_of snapshot denied))

abbrev pub judged_report : Snapshot → Option Denied → Report
judged_report snapshot None = told [] Yes
judged_report snapshot (Some denied) = denied_report snapshot denied

abbrev pub judging_report : Judging → Report
judging_report (Done judged) = judged_report judged.snapshot judged.denied
judging_report (Refused finding) = reported finding

-- the report of the judgement on the work of a bundle that has so many bytes
abbrev pub IsReportOn : ℕ → Result Election NoElection → Report → Type 0
IsReportOn size (Ok election) report =
    (judging : Judging) × IsJudging election.snapshot (committee_in size election) judging × (report ≡ judging_report judging)
IsReportOn size (Err why) report = report ≡ reported (Unread why)

abbrev pub IsJudgeReport : List ℕ → Report → Type 0
IsJudgeReport bytes report = IsReportOn (length bytes) (election_in bytes) report

-- the bytes spell an election with a committee that denies nobody
pub record IsAnsweredIn (bytes : List ℕ) : Type 0 where
  pub election : Election
  pub is_election : election_in bytes ≡ Ok election
  pub committee : List ℕ
  pub is_committee : committee_in (length bytes) election ≡ Ok committee
  pub answered : IsAnswered election.snapshot committee
