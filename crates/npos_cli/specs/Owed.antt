-- What a run owes of a job: which text reaches the sink.
use Rattle.std.specs.Prelude.{ℕ, List, Option}
use Rattle.npos_base.specs.Outside.{Told}
use Rattle.run_edges.specs.declared.status.Status.{Status}
use Rattle.npos_cli.specs.declared.job.Job.{Job}
use Rattle.npos_cli.specs.Words.{job_of}
use Rattle.npos_cli.specs.Report.{JobOwes}
use Rattle.run_edges.specs.Owed.{Delivers, DeliversFront, IsAll}

-- The text and the status are what is owed for all that was left in the source. For a source that
-- does not tell its bytes they are what is owed for some bytes.
abbrev pub FindsFor : Option Job → Option (List ℕ) → List ℕ → Status → Type 0
FindsFor job left text status = (bytes : List ℕ) × IsAll left bytes × JobOwes job bytes text status

-- what is owed was delivered whole
abbrev pub AnswersFor : Option Job → Option (List ℕ) → Option Told → Option Told → Status → Type 0
AnswersFor job left old new status = (text : List ℕ) × FindsFor job left text status × Delivers old new text

abbrev pub Answers : List (List ℕ) → Option (List ℕ) → Option Told → Option Told → Status → Type 0
Answers words = AnswersFor (job_of words)

-- this text and this status are owed, whatever the bytes are that a source does not tell
abbrev pub IsOwedFor : Option Job → Option (List ℕ) → List ℕ → Status → Type 0
IsOwedFor job left text status = (bytes : List ℕ) → IsAll left bytes → JobOwes job bytes text status

abbrev pub IsOwed : List (List ℕ) → Option (List ℕ) → List ℕ → Status → Type 0
IsOwed words = IsOwedFor (job_of words)

-- a front of what is owed was delivered
abbrev pub BeginsFor : Option Job → Option (List ℕ) → Option Told → Option Told → Type 0
BeginsFor job left old new =
    (text : List ℕ) (status : Status) → IsOwedFor job left text status → DeliversFront old new text

abbrev pub BeginsToAnswer : List (List ℕ) → Option (List ℕ) → Option Told → Option Told → Type 0
BeginsToAnswer words = BeginsFor (job_of words)
