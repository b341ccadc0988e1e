-- What is reported of what was found of a bundle.
use Rattle.std.specs.Prelude.{ℕ, List, ◌++◌}
use Rattle.election_check.specs.declared.verdict.Verdict.{Verdict}
use Rattle.election_check.specs.declared.verdict.Verdict.TheVariants.{Yes}
use Rattle.election_work.specs.declared.finding.Finding.{Finding}
use Rattle.election_work.specs.declared.finding.Finding.TheVariants.{Judged, Lost, Unsolved, Unread}
use Rattle.election_work.specs.declared.reading.NoElection.{NoElection}
use Rattle.election_work.specs.declared.reading.NoElection.TheVariants.{Long, Refused, Unelectable}
use Rattle.bundle_reports.specs.declared.ending.Ending.{Ending}
use Rattle.bundle_reports.specs.declared.ending.Ending.TheVariants as endings
use Rattle.bundle_reports.specs.Texts.{fault_line}
use Rattle.bundle_reports.specs.Verdicts.{verdict_line, snapshot_line, no_solution_line, lost_line, long_line}

pub record Report : Type 0 where
  pub text : List ℕ
  pub ending : Ending

abbrev pub faulty : List ℕ → Report
faulty line = record { text = line; ending = endings.BadInput }

-- only a Yes is no No
abbrev pub verdict_ending : Verdict → Ending
verdict_ending Yes = endings.Done
verdict_ending _ = endings.No

-- lines, and then a verdict
abbrev pub told : List ℕ → Verdict → Report
told lines verdict = record { text = lines ++ verdict_line verdict; ending = verdict_ending verdict }

-- ## What was found

abbrev pub no_election_line : NoElection → List ℕ
no_election_line Long = long_line
no_election_line (Refused fault) = fault_line fault.at fault.why
no_election_line (Unelectable fault) = snapshot_line fault

abbrev pub finding_line : Finding → List ℕ
finding_line (Judged verdict) = verdict_line verdict
finding_line (Lost member) = lost_line member
finding_line (Unsolved at) = no_solution_line at
finding_line (Unread why) = no_election_line why

abbrev pub finding_ending : Finding → Ending
finding_ending (Judged verdict) = verdict_ending verdict
finding_ending (Lost member) = endings.No
finding_ending (Unsolved at) = endings.BadInput
finding_ending (Unread why) = endings.BadInput

abbrev pub reported : Finding → Report
reported finding = record { text = finding_line finding; ending = finding_ending finding }
