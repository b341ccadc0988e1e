-- What is reported of more bytes than a bundle may have.
use Rattle.std.proofs.Common.{◌≡◌, ℕ, ◌<◌, List, length, Result, sym, subst}
use Rattle.election_work.specs.declared.asked.Task.{Task}
use Rattle.election_work.specs.declared.reading.Election.{Election}
use Rattle.election_work.specs.declared.reading.NoElection.{NoElection}
use Rattle.election_work.proofs.ReadLaws.{election_long}
use Rattle.bundle_reports.specs.Verdicts.{long_line}
use Rattle.bundle_reports.specs.Bundles.{Report, faulty}
use Rattle.bundle_reports.specs.Tasks.{IsReportOn, IsBundleReport}

-- more than the limit is reported alike, whatever follows
pub long_report : (task : Task) (bytes : List ℕ) (report : Report) → 16777216 < length bytes → IsBundleReport task bytes report → report ≡ faulty long_line
long_report task bytes report over is =
    subst (λ (e : Result Election NoElection). IsReportOn task (length bytes) e report) (election_long bytes over) is

pub long_reported : (task : Task) (bytes : List ℕ) (report : Report) → 16777216 < length bytes → report ≡ faulty long_line → IsBundleReport task bytes report
long_reported task bytes report over is =
    subst (λ (e : Result Election NoElection). IsReportOn task (length bytes) e report) (sym (election_long bytes over)) is
