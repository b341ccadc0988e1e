-- All that `run` says of a run.
use Rattle.std.specs.Prelude.{◌≡◌, ◌≢◌, ◌⊎◌, ◌<◌, true, false, ℕ, List, Some, IfSome}
use Rattle.npos_base.specs.Outside.{Rose}
use Rattle.npos_cli.specs.declared.job.Job.TheVariants as jobs
use Rattle.election_work.specs.declared.asked.Task.{Task}
use Rattle.election_work.specs.declared.asked.Task.TheVariants as tasks
use Rattle.npos_base.specs.declared.miner.Miner.TheVariants as miners
use Rattle.election_work.specs.Sound.{IsSound}
use Rattle.npos_words.specs.Words.{has_verb}
use Rattle.run_edges.specs.declared.status.Status.{Status}
use Rattle.run_edges.specs.declared.status.Status.TheVariants as statuses
use Rattle.npos_cli.specs.Words.{job_of}
use Rattle.npos_cli.specs.Report.{ReadsInput, ReadsBundle, IsAnswer, IsJudged}
use Rattle.npos_cli.specs.Chain.{npos_machine}
use Rattle.npos_cli.specs.Checkpoints.{checkpoint_machine, resume_machine}
use Rattle.npos_cli.specs.Pools.{pool_machine}
use Rattle.npos_cli.specs.Claim.{IsPromised, IsCheckpointed, IsResumed, IsPooled}
use Rattle.run_edges.specs.Streams.{LeavesStream}
use Rattle.npos_cli.specs.Streaming.{HaltedReading, HaltedWriting, HaltedStarving}
use Rattle.run_edges.specs.Streaming.{ReadsWhile}
use Rattle.npos_cli.specs.Owed.{Answers, BeginsToAnswer}
use Rattle.run_edges.specs.Owed.{IsDrained, TakesAtMost, KeepsFlushed, AsksInTime, TriesInTime}
use Rattle.npos_cli.specs.Ran.{Traffic, Calls}

-- `Unread` and `Unwritten` say that the source and the sink are as they were.
pub record Says (words : List (List ℕ)) (t : Traffic) (calls : Calls) (Unread Unwritten : Type 0) (status : Status) : Type 0 where
  pub answers : IsAnswer status → Answers words t.left t.told t.told_now status
  pub front : BeginsToAnswer words t.left t.told t.told_now
  pub read_fault : status ≡ statuses.ReadFault
      → ReadsInput (job_of words) × Rose t.read_faults t.read_faults_now
  pub read_fault_comes : t.read_faults < t.read_faults_now → status ≡ statuses.ReadFault
  pub write_fault : status ≡ statuses.WriteFault → Rose t.write_faults t.write_faults_now
  pub write_fault_comes : t.write_faults < t.write_faults_now → status ≡ statuses.WriteFault
  pub no_read_fault : status ≢ statuses.ReadFault → t.read_faults_now ≡ t.read_faults
  pub no_write_fault : status ≢ statuses.WriteFault → t.write_faults_now ≡ t.write_faults
  pub asks_in_time : AsksInTime calls.asked calls.asked_now
  pub tries_in_time : TriesInTime calls.tried calls.tried_now
  pub flushed_last : IsAnswer status → calls.tried_now.flushed ≡ true
  pub unwritten : (job_of words ≡ Some jobs.Replay → ⊥)
      → (status ≡ statuses.ReadFault) ⊎ (status ≡ statuses.NoMemory) → Unwritten
  pub unflushed : (IsAnswer status → ⊥) → KeepsFlushed t.told t.told_now
  pub halted_reading : job_of words ≡ Some jobs.Replay → status ≡ statuses.ReadFault
      → HaltedReading t.left t.left_now t.told t.told_now
  pub halted_writing : job_of words ≡ Some jobs.Replay → status ≡ statuses.WriteFault
      → HaltedWriting t.left t.left_now t.told t.told_now
  pub starved : job_of words ≡ Some jobs.Replay → status ≡ statuses.NoMemory
      → HaltedStarving t.left t.left_now t.told t.told_now
  pub whole : job_of words ≡ Some jobs.Replay → LeavesStream npos_machine t.left
      → (Rose t.read_faults t.read_faults_now → ⊥) → (Rose t.write_faults t.write_faults_now → ⊥)
      → (status ≡ statuses.Done) ⊎ (status ≡ statuses.NoMemory)
  pub whole_checkpoint : job_of words ≡ Some jobs.Checkpoint → LeavesStream npos_machine t.left
      → (Rose t.read_faults t.read_faults_now → ⊥) → (Rose t.write_faults t.write_faults_now → ⊥)
      → (status ≡ statuses.Done) ⊎ (status ≡ statuses.NoMemory)
  pub whole_resume : job_of words ≡ Some jobs.Resume → LeavesStream resume_machine t.left
      → (Rose t.read_faults t.read_faults_now → ⊥) → (Rose t.write_faults t.write_faults_now → ⊥)
      → (status ≡ statuses.Done) ⊎ (status ≡ statuses.NoMemory)
  pub whole_pool : job_of words ≡ Some jobs.Pools → LeavesStream pool_machine t.left
      → (Rose t.read_faults t.read_faults_now → ⊥) → (Rose t.write_faults t.write_faults_now → ⊥)
      → (status ≡ statuses.Done) ⊎ (status ≡ statuses.NoMemory)
  pub wary : job_of words ≡ Some jobs.Replay → ReadsWhile npos_machine t.left t.left_now calls.asked_now.last
  pub wary_checkpoint : job_of words ≡ Some jobs.Checkpoint → ReadsWhile checkpoint_machine t.left t.left_now calls.asked_now.last
  pub usage_memory : has_verb words ≡ false → status ≢ statuses.NoMemory
  pub unread : (ReadsInput (job_of words) → ⊥) → Unread
  pub drained : IsJudged status → ReadsInput (job_of words) → IsDrained t.left t.left_now
  -- whoever reads the one promise of a run over a stream reads these four, and that an answer comes
  pub promised : job_of words ≡ Some jobs.Replay → IfSome t.left (λ bytes. IsPromised bytes t.told t.told_now status)
  pub checkpointed : job_of words ≡ Some jobs.Checkpoint
      → IfSome t.left (λ bytes. IsCheckpointed bytes t.told t.told_now status)
  pub resumed : job_of words ≡ Some jobs.Resume → IfSome t.left (λ bytes. IsResumed bytes t.told t.told_now status)
  pub pooled : job_of words ≡ Some jobs.Pools → IfSome t.left (λ bytes. IsPooled bytes t.told t.told_now status)
  pub uncut : (Rose t.read_faults t.read_faults_now → ⊥) → (Rose t.write_faults t.write_faults_now → ⊥)
      → status ≢ statuses.NoMemory → IsAnswer status
  pub few : ReadsBundle (job_of words) → TakesAtMost 16777217 t.left t.left_now
  pub accepted : (task : Task) → job_of words ≡ Some (jobs.OnBundle task) → status ≡ statuses.Done
      → IfSome t.left (IsSound task)
  pub passes : job_of words ≡ Some (jobs.OnBundle (tasks.Mine miners.Fill)) → status ≢ statuses.No
