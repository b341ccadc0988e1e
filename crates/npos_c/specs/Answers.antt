-- What a call answers, and what it writes.
use Rattle.std.specs.Prelude.{◌≡◌, ◌⊎◌, ℕ, nat_lt, ◌≤◌, if◌then◌else◌, List, length, Option, Some, None}
use Rattle.npos_base.specs.declared.limits.TheConstants.{MOST_SEATS, MOST_VOTERS}
use Rattle.bundle_reports.specs.declared.ending.Ending.{Ending}
use Rattle.bundle_reports.specs.declared.ending.Ending.TheVariants as endings
use Rattle.election_work.specs.declared.finding.Finding.{Finding}
use Rattle.bundle_reports.specs.Bundles.{Report, finding_ending}
use Rattle.bundle_reports.specs.Demo.{demo_report}
use Rattle.npos_c.specs.declared.asked.Asked.{Asked}
use Rattle.npos_c.specs.declared.finding.NposFinding.{NposFinding}
use Rattle.npos_c.specs.declared.numbers.TheConstants.{DONE, NO, UNKNOWN, BAD_INPUT, NO_MEMORY, SMALL}
use Rattle.npos_c.specs.Buffers.{over}
use Rattle.npos_c.specs.Findings.{told_as}
use Rattle.npos_c.specs.Asked.{IsDue}

-- the number of an ending is the exit status of the program
abbrev pub ending_number : Ending → ℕ
ending_number endings.Done = DONE
ending_number endings.No = NO
ending_number endings.BadInput = BAD_INPUT

abbrev pub answer_of : Finding → ℕ
answer_of finding = ending_number (finding_ending finding)

-- what memory was refused for is left as it was
abbrev pub IsLeft : {A : Type 0} → ℕ → A → A → ℕ → Type 0
IsLeft number old new answer = (answer ≡ number) × (new ≡ old)

-- memory was refused, or what is found is told
abbrev pub IsFound : Finding → NposFinding → NposFinding → ℕ → Type 0
IsFound finding old new answer =
    IsLeft NO_MEMORY old new answer ⊎ ((new ≡ told_as finding) × (answer ≡ answer_of finding))

-- ## Texts

-- a buffer for a text, and the place where its size is told
pub record Spot : Type 0 where
  pub text : List ℕ
  pub size : ℕ

-- a text stands in the buffer where it has room; its size is told in any case
abbrev pub told_text : Report → Spot → Spot
told_text report old = record {
  text = if nat_lt (length old.text) (length report.text) then old.text else over report.text old.text;
  size = length report.text;
}

abbrev pub told_answer : Report → List ℕ → ℕ
told_answer report buffer =
    if nat_lt (length buffer) (length report.text) then SMALL else ending_number report.ending

-- memory was refused, or a report that is due is told
abbrev pub IsReported : (Report → Type 0) → Spot → Spot → ℕ → Type 0
IsReported IsDueReport old new answer =
    IsLeft NO_MEMORY old new answer
    ⊎ ((report : Report) × IsDueReport report × (new ≡ told_text report old)
    × (answer ≡ told_answer report old.text))

-- for numbers that ask for nothing there is no report
abbrev pub IsReportedFor : Option Asked → List ℕ → Spot → Spot → ℕ → Type 0
IsReportedFor None bytes old new answer = IsLeft UNKNOWN old new answer
IsReportedFor (Some asked) bytes old new answer = IsReported (IsDue asked bytes) old new answer

-- the numbers of an election that is generated
pub record IsWithin (voters seats : ℕ) : Type 0 where
  pub some_voters : 1 ≤ voters
  pub few_voters : voters ≤ MOST_VOTERS
  pub some_seats : 1 ≤ seats
  pub few_seats : seats ≤ MOST_SEATS

abbrev pub IsDemoTold : ℕ → ℕ → ℕ → Spot → Spot → ℕ → Type 0
IsDemoTold seed voters seats old new answer =
    ((IsWithin voters seats → ⊥) × IsLeft UNKNOWN old new answer)
    ⊎ (IsWithin voters seats × IsReported (λ report. report ≡ demo_report seed voters seats) old new answer)
