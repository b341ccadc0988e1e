-- What a run of one job comes to: an answer, or what cut it off.
use Rattle.std.specs.Prelude.{◌≡◌, ◌≢◌, ℕ, List, Option, Some, Result, Ok, Err, IfOk, IfErr, OnErr, IfSome}
use Rattle.npos_base.specs.declared.outside.Asked.{Asked}
use Rattle.npos_base.specs.declared.outside.Tried.{Tried}
use Rattle.npos_base.specs.Outside.{Told}
use Rattle.npos_cli.specs.declared.job.Job.{Job}
use Rattle.npos_cli.specs.declared.job.Job.TheVariants as jobs
use Rattle.election_work.specs.declared.asked.Task.{Task}
use Rattle.election_work.specs.declared.asked.Task.TheVariants as tasks
use Rattle.npos_base.specs.declared.miner.Miner.TheVariants as miners
use Rattle.run_edges.specs.declared.status.Status.{Status}
use Rattle.run_edges.specs.declared.status.Status.TheVariants as statuses
use Rattle.run_edges.specs.declared.halt.Halt.{Halt}
use Rattle.run_edges.specs.declared.halt.Halt.TheVariants as halts
use Rattle.npos_cli.specs.Report.{ReadsInput, ReadsBundle, IsJudged}
use Rattle.election_work.specs.Sound.{IsSound}
use Rattle.npos_cli.specs.Owed.{AnswersFor, BeginsFor}
use Rattle.run_edges.specs.Owed.{IsDrained, TakesAtMost, Delivers, DeliversFront, KeepsFlushed, Counts}
use Rattle.npos_cli.specs.Streaming.{HaltedReading, HaltedWriting, HaltedStarving}

-- What is told of source and sink before and after a part of a run: the bytes that are left, those
-- that were written, and how many faults each has had.
pub record Traffic : Type 0 where
  pub left : Option (List ℕ)
  pub left_now : Option (List ℕ)
  pub told : Option Told
  pub told_now : Option Told
  pub read_faults : ℕ
  pub read_faults_now : ℕ
  pub write_faults : ℕ
  pub write_faults_now : ℕ

abbrev pub traffic : {S K : Type 0} → (S → Option (List ℕ)) → (K → Option Told) → (S → ℕ) → (K → ℕ) → S → S → K
    → K → Traffic
traffic left told read_faults write_faults source source_now sink sink_now = record {
  left = left source;
  left_now = left source_now;
  told = told sink;
  told_now = told sink_now;
  read_faults = read_faults source;
  read_faults_now = read_faults source_now;
  write_faults = write_faults sink;
  write_faults_now = write_faults sink_now;
}

-- What is told of the calls of source and sink before and after a run.
pub record Calls : Type 0 where
  pub asked : Asked
  pub asked_now : Asked
  pub tried : Tried
  pub tried_now : Tried

abbrev pub calls : {S K : Type 0} → (S → Asked) → (K → Tried) → S → S → K → K → Calls
calls asked tried source source_now sink sink_now = record {
  asked = asked source;
  asked_now = asked source_now;
  tried = tried sink;
  tried_now = tried sink_now;
}

-- what was taken and written of a replay that was cut off
abbrev pub HaltedBy : Halt → Traffic → Type 0
HaltedBy halts.ReadFault t = HaltedReading t.left t.left_now t.told t.told_now
HaltedBy halts.WriteFault t = HaltedWriting t.left t.left_now t.told t.told_now
HaltedBy halts.NoMemory t = HaltedStarving t.left t.left_now t.told t.told_now

pub record Ran (job : Option Job) (t : Traffic) (result : Result Status Halt) : Type 0 where
  pub answers : IfOk result (AnswersFor job t.left t.told t.told_now)
  pub front : BeginsFor job t.left t.told t.told_now
  pub read_faults : Counts halts.ReadFault t.read_faults t.read_faults_now result
  pub write_faults : Counts halts.WriteFault t.write_faults t.write_faults_now result
  pub reads : IfErr result (λ halt. halt ≡ halts.ReadFault → ReadsInput job)
  pub unflushed : OnErr result (KeepsFlushed t.told t.told_now)
  pub halted : job ≡ Some jobs.Replay → IfErr result (λ halt. HaltedBy halt t)
  pub drained : IfOk result (λ status. IsJudged status → ReadsInput job → IsDrained t.left t.left_now)
  pub few : ReadsBundle job → TakesAtMost 16777217 t.left t.left_now
  pub accepted : (task : Task) → job ≡ Some (jobs.OnBundle task)
      → IfOk result (λ status. status ≡ statuses.Done → IfSome t.left (IsSound task))
  pub passes : job ≡ Some (jobs.OnBundle (tasks.Mine miners.Fill)) → IfOk result (λ status. status ≢ statuses.No)

-- The text of a demo was delivered; or a front of it, and a write failed or memory ran out.
abbrev pub DemoEnds : List ℕ → Option Told → Option Told → Result Status Halt → Type 0
DemoEnds text old new (Ok status) = (status ≡ statuses.Done) × Delivers old new text
DemoEnds text old new (Err halts.ReadFault) = ⊥
DemoEnds text old new (Err other) = DeliversFront old new text × KeepsFlushed old new
