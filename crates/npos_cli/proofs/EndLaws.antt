-- From what a run comes to, to what is said of its status.
use Rattle.std.proofs.Common.{◌≡◌, ◌≢◌, ◌⊎◌, inl, inr, ◌<◌, true, Option, Some, Result, Ok, Err, IfErr, IfSome, refl, subst, arith}
use Rattle.npos_base.specs.declared.outside.Tried.{Tried}
use Rattle.npos_base.specs.Outside.{Rose}
use Rattle.npos_cli.specs.declared.job.Job.{Job}
use Rattle.npos_cli.specs.declared.job.Job.TheVariants as jobs
use Rattle.election_work.specs.declared.asked.Task.{Task}
use Rattle.election_work.specs.declared.asked.Task.TheVariants as tasks
use Rattle.npos_base.specs.declared.miner.Miner.TheVariants as miners
use Rattle.election_work.specs.Sound.{IsSound}
use Rattle.run_edges.specs.declared.status.Status.{Status}
use Rattle.run_edges.specs.declared.status.Status.TheVariants as statuses
use Rattle.run_edges.specs.declared.halt.Halt.{Halt}
use Rattle.run_edges.specs.declared.halt.Halt.TheVariants as halts
use Rattle.run_edges.specs.Status.{halted_by, end_of}
use Rattle.npos_cli.specs.Report.{ReadsInput, IsAnswer, IsJudged}
use Rattle.npos_cli.specs.Owed.{AnswersFor}
use Rattle.run_edges.specs.Owed.{IsDrained, KeepsFlushed, Settles}
use Rattle.npos_cli.specs.Streaming.{HaltedReading, HaltedWriting, HaltedStarving}
use Rattle.npos_cli.specs.Ran.{Traffic, Ran}
use Rattle.npos_cli.proofs.StatusLaws.{found_answers}

-- a run that is cut off has no answer
pub no_answer : (halt : Halt) → IsAnswer (halted_by halt) → ⊥
no_answer halts.ReadFault answer = answer
no_answer halts.WriteFault answer = answer
no_answer halts.NoMemory answer = answer

module _ (job : Option Job) (t : Traffic) where
  -- a run that ended was not cut off
  is_answer : (status : Status) → Ran job t (Ok status) → IsAnswer status
  is_answer status ran = found_answers job t.left ran.answers.0 status ran.answers.1

  not_cut : (status : Status) (halt : Halt) → Ran job t (Ok status) → status ≡ halted_by halt → ⊥
  not_cut status halt ran is = no_answer halt (subst (λ (s : Status). IsAnswer s) is (is_answer status ran))

  pub answered : (result : Result Status Halt) → Ran job t result → IsAnswer (end_of result) → AnswersFor job t.left t.told t.told_now (end_of result)
  answered (Ok status) ran answer = ran.answers
  answered (Err halt) ran answer = absurd (no_answer halt answer)

  pub read_failed : (result : Result Status Halt) → Ran job t result → end_of result ≡ statuses.ReadFault → ReadsInput job × Rose t.read_faults t.read_faults_now
  read_failed (Ok status) ran is = absurd (not_cut status halts.ReadFault ran is)
  read_failed (Err halts.ReadFault) ran is = (ran.reads refl, ran.read_faults.0)
  read_failed (Err halts.WriteFault) ran is = absurd (cc)
  read_failed (Err halts.NoMemory) ran is = absurd (cc)

  pub read_fails : (result : Result Status Halt) → Ran job t result → t.read_faults < t.read_faults_now → end_of result ≡ statuses.ReadFault
  read_fails (Ok status) ran rose = absurd (omega (arith, ran.read_faults, rose))
  read_fails (Err halts.ReadFault) ran rose = refl
  read_fails (Err halts.WriteFault) ran rose = absurd (omega (arith, ran.read_faults, rose))
  read_fails (Err halts.NoMemory) ran rose = absurd (omega (arith, ran.read_faults, rose))

  pub write_failed : (result : Result Status Halt) → Ran job t result → end_of result ≡ statuses.WriteFault → Rose t.write_faults t.write_faults_now
  write_failed (Ok status) ran is = absurd (not_cut status halts.WriteFault ran is)
  write_failed (Err halts.WriteFault) ran is = ran.write_faults.0
  write_failed (Err halts.ReadFault) ran is = absurd (cc)
  write_failed (Err halts.NoMemory) ran is = absurd (cc)

  pub write_fails : (result : Result Status Halt) → Ran job t result → t.write_faults < t.write_faults_now → end_of result ≡ statuses.WriteFault
  write_fails (Ok status) ran rose = absurd (omega (arith, ran.write_faults, rose))
  write_fails (Err halts.WriteFault) ran rose = refl
  write_fails (Err halts.ReadFault) ran rose = absurd (omega (arith, ran.write_faults, rose))
  write_fails (Err halts.NoMemory) ran rose = absurd (omega (arith, ran.write_faults, rose))

  pub no_read_fault : (result : Result Status Halt) → Ran job t result → end_of result ≢ statuses.ReadFault → t.read_faults_now ≡ t.read_faults
  no_read_fault (Ok status) ran other = ran.read_faults
  no_read_fault (Err halts.ReadFault) ran other = absurd (other refl)
  no_read_fault (Err halts.WriteFault) ran other = ran.read_faults
  no_read_fault (Err halts.NoMemory) ran other = ran.read_faults

  pub no_write_fault : (result : Result Status Halt) → Ran job t result → end_of result ≢ statuses.WriteFault → t.write_faults_now ≡ t.write_faults
  no_write_fault (Ok status) ran other = ran.write_faults
  no_write_fault (Err halts.WriteFault) ran other = absurd (other refl)
  no_write_fault (Err halts.ReadFault) ran other = ran.write_faults
  no_write_fault (Err halts.NoMemory) ran other = ran.write_faults

  -- an answer comes behind a flush
  pub flushed_last : (before now : Tried) (result : Result Status Halt) → Ran job t result → Settles before now result → IsAnswer (end_of result) → now.flushed ≡ true
  flushed_last before now (Ok status) ran settles answer = settles.flushed
  flushed_last before now (Err halt) ran settles answer = absurd (no_answer halt answer)

  pub nothing_written : (Unwritten : Type 0) (result : Result Status Halt) → Ran job t result → IfErr result (λ halt. halt ≢ halts.WriteFault → Unwritten)
      → (end_of result ≡ statuses.ReadFault) ⊎ (end_of result ≡ statuses.NoMemory) → Unwritten
  nothing_written Unwritten (Ok status) ran unwritten (inl is) = absurd (not_cut status halts.ReadFault ran is)
  nothing_written Unwritten (Ok status) ran unwritten (inr is) = absurd (not_cut status halts.NoMemory ran is)
  nothing_written Unwritten (Err halts.ReadFault) ran unwritten cut = unwritten (λ e. cc)
  nothing_written Unwritten (Err halts.NoMemory) ran unwritten cut = unwritten (λ e. cc)
  nothing_written Unwritten (Err halts.WriteFault) ran unwritten (inl is) = absurd (cc)
  nothing_written Unwritten (Err halts.WriteFault) ran unwritten (inr is) = absurd (cc)

  pub not_flushed : (result : Result Status Halt) → Ran job t result → (IsAnswer (end_of result) → ⊥) → KeepsFlushed t.told t.told_now
  not_flushed (Ok status) ran none = absurd (none (is_answer status ran))
  not_flushed (Err halt) ran none = ran.unflushed

  pub halted_reading : (result : Result Status Halt) → Ran job t result → job ≡ Some jobs.Replay → end_of result ≡ statuses.ReadFault → HaltedReading t.left t.left_now t.told t.told_now
  halted_reading (Ok status) ran asked is = absurd (not_cut status halts.ReadFault ran is)
  halted_reading (Err halts.ReadFault) ran asked is = ran.halted asked
  halted_reading (Err halts.WriteFault) ran asked is = absurd (cc)
  halted_reading (Err halts.NoMemory) ran asked is = absurd (cc)

  pub halted_writing : (result : Result Status Halt) → Ran job t result → job ≡ Some jobs.Replay → end_of result ≡ statuses.WriteFault → HaltedWriting t.left t.left_now t.told t.told_now
  halted_writing (Ok status) ran asked is = absurd (not_cut status halts.WriteFault ran is)
  halted_writing (Err halts.WriteFault) ran asked is = ran.halted asked
  halted_writing (Err halts.ReadFault) ran asked is = absurd (cc)
  halted_writing (Err halts.NoMemory) ran asked is = absurd (cc)

  pub starved : (result : Result Status Halt) → Ran job t result → job ≡ Some jobs.Replay → end_of result ≡ statuses.NoMemory → HaltedStarving t.left t.left_now t.told t.told_now
  starved (Ok status) ran asked is = absurd (not_cut status halts.NoMemory ran is)
  starved (Err halts.NoMemory) ran asked is = ran.halted asked
  starved (Err halts.ReadFault) ran asked is = absurd (cc)
  starved (Err halts.WriteFault) ran asked is = absurd (cc)

  pub drained : (result : Result Status Halt) → Ran job t result → IsJudged (end_of result) → ReadsInput job → IsDrained t.left t.left_now
  drained (Ok status) ran judged reads = ran.drained judged reads
  drained (Err halts.ReadFault) ran judged reads = absurd judged
  drained (Err halts.WriteFault) ran judged reads = absurd judged
  drained (Err halts.NoMemory) ran judged reads = absurd judged

  pub accepted : (result : Result Status Halt) → Ran job t result → (task : Task) → job ≡ Some (jobs.OnBundle task) → end_of result ≡ statuses.Done → IfSome t.left (IsSound task)
  accepted (Ok status) ran task asked done = ran.accepted task asked done
  accepted (Err halts.ReadFault) ran task asked done = absurd (cc)
  accepted (Err halts.WriteFault) ran task asked done = absurd (cc)
  accepted (Err halts.NoMemory) ran task asked done = absurd (cc)

  pub passes : (result : Result Status Halt) → Ran job t result → job ≡ Some (jobs.OnBundle (tasks.Mine miners.Fill)) → end_of result ≢ statuses.No
  passes (Ok status) ran asked = ran.passes asked
  passes (Err halts.ReadFault) ran asked = λ e. cc
  passes (Err halts.WriteFault) ran asked = λ e. cc
  passes (Err halts.NoMemory) ran asked = λ e. cc

  -- a run that is not refused memory does not end so
  pub never_starves : (result : Result Status Halt) → Ran job t result → result ≢ Err halts.NoMemory → end_of result ≢ statuses.NoMemory
  never_starves (Ok status) ran never = λ is. not_cut status halts.NoMemory ran is
  never_starves (Err halts.NoMemory) ran never = absurd (never refl)
  never_starves (Err halts.ReadFault) ran never = λ e. cc
  never_starves (Err halts.WriteFault) ran never = λ e. cc
