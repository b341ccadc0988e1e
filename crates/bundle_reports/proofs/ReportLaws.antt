-- A task reports one thing of a bundle, and always something.
use Rattle.std.proofs.Common.{◌≡◌, ℕ, ◌≤◌, List, length, Result, Ok, Err, refl, ap, sym, ◌∙◌}
use Rattle.election_work.specs.declared.asked.Task.{Task}
use Rattle.election_work.specs.declared.asked.Task.TheVariants as tasks
use Rattle.election_work.specs.declared.finding.Finding.TheVariants.{Unread}
use Rattle.election_work.specs.declared.reading.Election.{Election}
use Rattle.election_work.specs.declared.reading.NoElection.{NoElection}
use Rattle.election_work.specs.Bundles.{election_in}
use Rattle.election_work.specs.Findings.{found_in}
use Rattle.election_work.specs.Sound.{TaskHasRounds}
use Rattle.election_work.proofs.MinedLaws.{one_mining, any_mining}
use Rattle.election_work.proofs.ReadLaws.{election_enough}
use Rattle.bundle_reports.specs.Bundles.{Report, reported}
use Rattle.bundle_reports.specs.Mining.{mined_report}
use Rattle.bundle_reports.specs.Tasks.{IsTaskReport, IsReportOn, IsBundleReport}

-- ## One report

one_task : (task : Task) (size : ℕ) (election : Election) (one other : Report) → IsTaskReport task size election one → IsTaskReport task size election other → one ≡ other
one_task tasks.Check size election one other first second = first ∙ sym second
one_task (tasks.Mine miner) size election one other first second =
    first.2 ∙ (ap mined_report (one_mining miner election.snapshot first.0 second.0 first.1 second.1) ∙ sym second.2)

pub one_report : (task : Task) (bytes : List ℕ) (one other : Report) → IsBundleReport task bytes one → IsBundleReport task bytes other → one ≡ other
one_report task bytes one other first second = by (election_in bytes) first second where
  by : (e : Result Election NoElection) → IsReportOn task (length bytes) e one → IsReportOn task (length bytes) e other → one ≡ other
  by (Ok election) first second = one_task task (length bytes) election one other first second
  by (Err why) first second = first ∙ sym second

-- ## Any report

any_task : (task : Task) → TaskHasRounds task → (size : ℕ) (election : Election)
    → election.snapshot.seats ≤ length election.snapshot.targets
    → (report : Report) × IsTaskReport task size election report
any_task tasks.Check some size election enough = (reported (found_in size election), refl)
any_task (tasks.Mine miner) some size election enough =
    let any = any_mining miner some election.snapshot enough in (mined_report any.0, (any.0, any.1, refl))

pub any_report : (task : Task) → TaskHasRounds task → (bytes : List ℕ) → (report : Report) × IsBundleReport task bytes report
any_report task some bytes = by (election_in bytes) refl where
  by : (e : Result Election NoElection) → election_in bytes ≡ e → (report : Report) × IsReportOn task (length bytes) e report
  by (Ok election) is = any_task task some (length bytes) election (election_enough bytes election is)
  by (Err why) is = (reported (Unread why), refl)
