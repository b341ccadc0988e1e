-- What is reported of the bytes of a bundle, by task.
use Rattle.std.specs.Prelude.{◌≡◌, ℕ, List, length, Result, Ok, Err}
use Rattle.npos_base.specs.declared.miner.Miner.{Miner}
use Rattle.election_snapshot.specs.Snapshot.{Snapshot}
use Rattle.election_work.specs.declared.asked.Task.{Task}
use Rattle.election_work.specs.declared.asked.Task.TheVariants as tasks
use Rattle.election_work.specs.declared.finding.Finding.{Finding}
use Rattle.election_work.specs.declared.finding.Finding.TheVariants.{Unread}
use Rattle.election_work.specs.declared.reading.Election.{Election}
use Rattle.election_work.specs.declared.reading.NoElection.{NoElection}
use Rattle.election_work.specs.Bundles.{election_in}
use Rattle.election_work.specs.Findings.{found_in}
use Rattle.election_work.specs.Mining.{Outcome, IsMining}
use Rattle.bundle_reports.specs.Bundles.{Report, reported}
use Rattle.bundle_reports.specs.Mining.{mined_report}

-- the report is that of something that the miner makes of the election
abbrev pub IsMineReport : Miner → Snapshot → Report → Type 0
IsMineReport miner snapshot report =
    (due : Result Outcome Finding) × IsMining miner snapshot due × (report ≡ mined_report due)

-- A check looks at the work of a bundle that has so many bytes, and a miner at its election alone.
abbrev pub IsTaskReport : Task → ℕ → Election → Report → Type 0
IsTaskReport tasks.Check size election report = report ≡ reported (found_in size election)
IsTaskReport (tasks.Mine miner) size election report = IsMineReport miner election.snapshot report

-- bytes without an election are reported by their fault
abbrev pub IsReportOn : Task → ℕ → Result Election NoElection → Report → Type 0
IsReportOn task size (Ok election) report = IsTaskReport task size election report
IsReportOn task size (Err why) report = report ≡ reported (Unread why)

abbrev pub IsBundleReport : Task → List ℕ → Report → Type 0
IsBundleReport task bytes report = IsReportOn task (length bytes) (election_in bytes) report
