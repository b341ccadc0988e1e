-- What a run owes: the text and the status that its words and the bytes of its input determine.
use Rattle.std.specs.Prelude.{◌≡◌, ⊤, ℕ, List, Option, Some, None}
use Rattle.npos_cli.specs.declared.job.Job.{Job}
use Rattle.npos_cli.specs.declared.job.Job.TheVariants as jobs
use Rattle.run_edges.specs.declared.status.Status.{Status}
use Rattle.run_edges.specs.declared.status.Status.TheVariants as statuses
use Rattle.run_edges.specs.Status.{status_of}
use Rattle.npos_cli.specs.Words.{job_of, usage_line}
use Rattle.npos_cli.specs.Chain.{npos_machine}
use Rattle.npos_cli.specs.Checkpoints.{checkpoint_machine, resume_machine}
use Rattle.npos_cli.specs.Pools.{pool_machine}
use Rattle.bundle_reports.specs.Bundles.{Report}
use Rattle.bundle_reports.specs.Tasks.{IsBundleReport}
use Rattle.bundle_reports.specs.Demo.{demo_report}
use Rattle.bundle_reports.specs.Rewriting.{rewrite_report}
use Rattle.run_edges.specs.Owed.{ReplayOwes}

-- this text and this status tell of the report
pub record Tells (report : Report) (text : List ℕ) (status : Status) : Type 0 where
  pub text_is : text ≡ report.text
  pub status_is : status ≡ status_of report.ending

-- A row a job: what is owed for these bytes. Words that ask for no job owe the usage line, whatever
-- the bytes are.
abbrev pub JobOwes : Option Job → List ℕ → List ℕ → Status → Type 0
JobOwes None bytes text status = (text ≡ usage_line) × (status ≡ statuses.Usage)
JobOwes (Some jobs.Replay) bytes text status = ReplayOwes npos_machine bytes text status
JobOwes (Some (jobs.OnBundle task)) bytes text status =
    (report : Report) × IsBundleReport task bytes report × Tells report text status
JobOwes (Some (jobs.Demo seed voters seats)) bytes text status =
    Tells (demo_report seed voters seats) text status
JobOwes (Some (jobs.Rewrite way)) bytes text status = Tells (rewrite_report way bytes) text status
JobOwes (Some jobs.Checkpoint) bytes text status = ReplayOwes checkpoint_machine bytes text status
JobOwes (Some jobs.Resume) bytes text status = ReplayOwes resume_machine bytes text status
JobOwes (Some jobs.Pools) bytes text status = ReplayOwes pool_machine bytes text status

abbrev pub Owes : List (List ℕ) → List ℕ → List ℕ → Status → Type 0
Owes words = JobOwes (job_of words)

-- whether a job reads its input
abbrev pub ReadsInput : Option Job → Type 0
ReadsInput None = ⊥
ReadsInput (Some jobs.Replay) = ⊤
ReadsInput (Some (jobs.OnBundle task)) = ⊤
ReadsInput (Some (jobs.Demo seed voters seats)) = ⊥
ReadsInput (Some (jobs.Rewrite way)) = ⊤
ReadsInput (Some jobs.Checkpoint) = ⊤
ReadsInput (Some jobs.Resume) = ⊤
ReadsInput (Some jobs.Pools) = ⊤

-- whether a job reads a bundle
abbrev pub ReadsBundle : Option Job → Type 0
ReadsBundle None = ⊥
ReadsBundle (Some jobs.Replay) = ⊥
ReadsBundle (Some (jobs.OnBundle task)) = ⊤
ReadsBundle (Some (jobs.Demo seed voters seats)) = ⊥
ReadsBundle (Some (jobs.Rewrite way)) = ⊤
ReadsBundle (Some jobs.Checkpoint) = ⊥
ReadsBundle (Some jobs.Resume) = ⊥
ReadsBundle (Some jobs.Pools) = ⊥

-- a status that answers what is owed; the others say that the run was cut off
abbrev pub IsAnswer : Status → Type 0
IsAnswer statuses.ReadFault = ⊥
IsAnswer statuses.WriteFault = ⊥
IsAnswer statuses.NoMemory = ⊥
IsAnswer _ = ⊤

-- a status that comes only where the input was read to its end
abbrev pub IsJudged : Status → Type 0
IsJudged statuses.Done = ⊤
IsJudged statuses.No = ⊤
IsJudged _ = ⊥
