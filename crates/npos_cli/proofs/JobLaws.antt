-- What a run of each job comes to.
use Rattle.std.proofs.Common.{◌≡◌, ◌≢◌, ℕ, Bool, true, false, List, Option, Some, None, Result, Ok, Err, IfOk, IfErr, OnErr, IfSome, refl, sym, subst}
use Rattle.std.proofs.lemmas.List.{append-nil}
use Rattle.npos_base.specs.Outside.{Told}
use Rattle.npos_cli.specs.declared.job.Job.{Job}
use Rattle.npos_cli.specs.declared.job.Job.TheVariants as jobs
use Rattle.election_work.specs.declared.asked.Task.{Task}
use Rattle.election_work.specs.declared.asked.Task.TheVariants as tasks
use Rattle.npos_base.specs.declared.miner.Miner.TheVariants as miners
use Rattle.run_edges.specs.declared.status.Status.{Status}
use Rattle.run_edges.specs.declared.status.Status.TheVariants as statuses
use Rattle.run_edges.specs.declared.halt.Halt.{Halt}
use Rattle.run_edges.specs.declared.halt.Halt.TheVariants as halts
use Rattle.election_work.specs.Sound.{IsSound}
use Rattle.bundle_reports.specs.Demo.{demo_report}
use Rattle.npos_cli.specs.Words.{usage_line}
use Rattle.npos_cli.specs.declared.output.Output.{Output}
use Rattle.npos_cli.specs.declared.output.Output.TheVariants.{Receipts, Checkpoint}
use Rattle.run_edges.specs.Owed.{ReplayOwes, IsDrained, TakesAtMost, DeliversFront, KeepsFlushed, Counts, Ends}
use Rattle.npos_cli.specs.Report.{JobOwes, ReadsInput, ReadsBundle, IsJudged}
use Rattle.run_edges.specs.Status.{replay_status}
use Rattle.run_edges.specs.Replay.{Machine}
use Rattle.npos_cli.specs.Chain.{npos_machine}
use Rattle.npos_cli.specs.Outputs.{machine_of}
use Rattle.npos_cli.specs.Owed.{FindsFor, AnswersFor, BeginsFor}
use Rattle.run_edges.specs.Streaming.{Halts, ReplayEnds}
use Rattle.npos_cli.specs.Ran.{Traffic, HaltedBy, Ran, DemoEnds}
use Rattle.run_edges.proofs.EdgeLaws.{unflushed, takes_none}
use Rattle.npos_cli.proofs.RunLaws.{found_unread, nothing_asked, front_found, front_delivered}
use Rattle.npos_cli.proofs.CourseLaws.{has_written, begins_starved}
use Rattle.run_edges.proofs.StartLaws.{finds_for}

-- nothing was delivered, which is a front of any text
pub front_none : (now : Option Told) (text : List ℕ) → DeliversFront now now text
front_none None text = tt
front_none (Some now) text = (now, 0, refl, sym (append-nil now.written))

pub kept_flushed : (now : Option Told) → KeepsFlushed now now
kept_flushed None = tt
kept_flushed (Some now) = (now, refl, refl)

on_err : {T E : Type 0} (result : Result T E) (P : E → Type 0) → ((e : E) → P e) → IfErr result P
on_err (Ok done) P holds = tt
on_err (Err e) P holds = holds e

on_ok : {T E : Type 0} (result : Result T E) (P Q : T → Type 0) → ((done : T) → P done → Q done) → IfOk result P → IfOk result Q
on_ok (Ok done) P Q turns holds = turns done holds
on_ok (Err e) P Q turns holds = tt

-- ## Jobs that write at their end

-- what holds of a run of such a job, however it ends
pub record AtEnd (job : Option Job) (t : Traffic) : Type 0 where
  pub other : job ≡ Some jobs.Replay → ⊥
  pub few : ReadsBundle job → TakesAtMost 16777217 t.left t.left_now

module _ (job : Option Job) (t : Traffic) (at_end : AtEnd job t) where
  pub cut_ran : (halt : Halt) → BeginsFor job t.left t.told t.told_now → KeepsFlushed t.told t.told_now → (halt ≡ halts.ReadFault → ReadsInput job)
      → Counts {T = Status} halts.ReadFault t.read_faults t.read_faults_now (Err halt) → Counts {T = Status} halts.WriteFault t.write_faults t.write_faults_now (Err halt)
      → Ran job t (Err halt)
  cut_ran halt front keeps reads read_faults write_faults = record {
    answers = tt;
    front = front;
    read_faults = read_faults;
    write_faults = write_faults;
    reads = reads;
    unflushed = keeps;
    halted = λ e. absurd (at_end.other e);
    drained = tt;
    few = at_end.few;
    accepted = λ task e. tt;
    passes = λ e. tt;
  }

  -- nothing was written
  pub unwritten_ran : (halt : Halt) → t.told_now ≡ t.told → t.write_faults_now ≡ t.write_faults → (halt ≡ halts.ReadFault → ReadsInput job)
      → Counts {T = Status} halts.ReadFault t.read_faults t.read_faults_now (Err halt) → halt ≢ halts.WriteFault → Ran job t (Err halt)
  unwritten_ran halt same no_write reads read_faults other = by halt reads read_faults other where
    front : BeginsFor job t.left t.told t.told_now
    front text status owed = subst (λ (now : Option Told). DeliversFront t.told now text) (sym same) (front_none t.told text)

    keeps : KeepsFlushed t.told t.told_now
    keeps = subst (λ (now : Option Told). KeepsFlushed t.told now) (sym same) (kept_flushed t.told)

    by : (h : Halt) → (h ≡ halts.ReadFault → ReadsInput job) → Counts {T = Status} halts.ReadFault t.read_faults t.read_faults_now (Err h) → h ≢ halts.WriteFault → Ran job t (Err h)
    by halts.ReadFault reads read_faults other = cut_ran halts.ReadFault front keeps reads read_faults no_write
    by halts.NoMemory reads read_faults other = cut_ran halts.NoMemory front keeps reads read_faults no_write
    by halts.WriteFault reads read_faults other = absurd (other refl)

  -- what is owed was delivered, or a front of it
  pub ended_ran : (text : List ℕ) (due : Status) (result : Result Status Halt) → FindsFor job t.left text due → Ends text due t.told t.told_now result
      → t.read_faults_now ≡ t.read_faults → Counts halts.WriteFault t.write_faults t.write_faults_now result
      → (IsJudged due → ReadsInput job → IsDrained t.left t.left_now)
      → ((task : Task) → job ≡ Some (jobs.OnBundle task) → due ≡ statuses.Done → IfSome t.left (IsSound task))
      → (job ≡ Some (jobs.OnBundle (tasks.Mine miners.Fill)) → due ≢ statuses.No) → Ran job t result
  ended_ran text due (Ok status) finds ends no_read write_faults drained accepted passes =
      let found : FindsFor job t.left text status = subst (λ (s : Status). FindsFor job t.left text s) (sym ends.0) finds in
      record {
        answers = (text, found, ends.1);
        front = front_delivered job t.left t.told t.told_now text status found ends.1;
        read_faults = no_read;
        write_faults = write_faults;
        reads = tt;
        unflushed = tt;
        halted = λ e. tt;
        drained = subst (λ (s : Status). IsJudged s → ReadsInput job → IsDrained t.left t.left_now) (sym ends.0) drained;
        few = at_end.few;
        accepted = λ task e. subst (λ (s : Status). s ≡ statuses.Done → IfSome t.left (IsSound task)) (sym ends.0) (accepted task e);
        passes = λ e. subst (λ (s : Status). s ≢ statuses.No) (sym ends.0) (passes e);
      }
  ended_ran text due (Err halts.WriteFault) finds ends no_read write_faults drained accepted passes =
      cut_ran halts.WriteFault (front_found job t.left t.told t.told_now text due finds ends.0) ends.1 (λ e. absurd (let never : halts.WriteFault ≡ halts.ReadFault = e in cc)) no_read write_faults
  ended_ran text due (Err halts.ReadFault) finds ends no_read write_faults drained accepted passes = absurd ends
  ended_ran text due (Err halts.NoMemory) finds ends no_read write_faults drained accepted passes = absurd ends

pub usage_ran : (t : Traffic) (result : Result Status Halt) → Ends usage_line statuses.Usage t.told t.told_now result → t.read_faults_now ≡ t.read_faults
    → Counts halts.WriteFault t.write_faults t.write_faults_now result → Ran None t result
usage_ran t result ends no_read write_faults =
    ended_ran None t (record { other = λ e. cc; few = λ reads. absurd reads }) usage_line statuses.Usage result (nothing_asked None t.left refl) ends no_read write_faults
    (λ judged. absurd judged) (λ task e. cc) (λ e. cc)

-- the usage line takes no memory
pub usage_never_starves : (old new : Option Told) (result : Result Status Halt) → Ends usage_line statuses.Usage old new result → result ≢ Err halts.NoMemory
usage_never_starves old new (Ok status) ends = λ e. cc
usage_never_starves old new (Err halts.WriteFault) ends = λ e. cc
usage_never_starves old new (Err halts.ReadFault) ends = absurd ends
usage_never_starves old new (Err halts.NoMemory) ends = absurd ends

-- where a text was to be delivered, a write alone may have failed
pub ends_unwritten : (Unwritten : Type 0) (text : List ℕ) (due : Status) (old new : Option Told) (result : Result Status Halt) → Ends text due old new result
    → IfErr result (λ halt. halt ≢ halts.WriteFault → Unwritten)
ends_unwritten Unwritten text due old new (Ok status) ends = tt
ends_unwritten Unwritten text due old new (Err halts.WriteFault) ends = λ other. absurd (other refl)
ends_unwritten Unwritten text due old new (Err halts.ReadFault) ends = absurd ends
ends_unwritten Unwritten text due old new (Err halts.NoMemory) ends = absurd ends

-- ## A generated election

pub demo_starved : (text : List ℕ) (now : Option Told) → DemoEnds text now now (Err halts.NoMemory)
demo_starved text now = (front_none now text, kept_flushed now)

pub demo_ends : (text : List ℕ) (old new : Option Told) (result : Result Status Halt) → Ends text statuses.Done old new result → DemoEnds text old new result
demo_ends text old new (Ok status) ends = ends
demo_ends text old new (Err halts.WriteFault) ends = ends
demo_ends text old new (Err halts.ReadFault) ends = absurd ends
demo_ends text old new (Err halts.NoMemory) ends = absurd ends

module _ (seed voters seats : ℕ) (t : Traffic) where
  abbrev pub demo_job : Option Job
  demo_job = Some (jobs.Demo seed voters seats)

  abbrev pub demo_line : List ℕ
  demo_line = (demo_report seed voters seats).text

  owed : FindsFor demo_job t.left demo_line statuses.Done
  owed = found_unread demo_job t.left demo_line statuses.Done (λ bytes. record { text_is = refl; status_is = refl })

  at_end : AtEnd demo_job t
  at_end = record { other = λ e. cc; few = λ reads. absurd reads }

  pub demo_ran : (result : Result Status Halt) → DemoEnds demo_line t.told t.told_now result → t.read_faults_now ≡ t.read_faults
      → Counts halts.WriteFault t.write_faults t.write_faults_now result → Ran demo_job t result
  demo_ran (Ok status) ends no_read write_faults =
      ended_ran demo_job t at_end demo_line statuses.Done (Ok status) owed ends no_read write_faults (λ judged reads. absurd reads) (λ task e. cc) (λ e. cc)
  demo_ran (Err halts.WriteFault) ends no_read write_faults =
      cut_ran demo_job t at_end halts.WriteFault (front_found demo_job t.left t.told t.told_now demo_line statuses.Done owed ends.0) ends.1 (λ e. cc) no_read write_faults
  demo_ran (Err halts.NoMemory) ends no_read write_faults =
      cut_ran demo_job t at_end halts.NoMemory (front_found demo_job t.left t.told t.told_now demo_line statuses.Done owed ends.0) ends.1 (λ e. cc) no_read write_faults
  demo_ran (Err halts.ReadFault) ends no_read write_faults = absurd ends

-- ## A replay

ends_unflushed : {G B S E : Type 0} (m : Machine G B S E) (left now : Option (List ℕ)) (old new : Option Told) (result : Result Status Halt) → ReplayEnds m left now old new result
    → OnErr result (KeepsFlushed old new)
ends_unflushed m left now old new (Ok status) done = tt
ends_unflushed m left now old new (Err halt) cut = unflushed old new cut.written cut.told

judged_sound : (faulty : Bool) → IsJudged (replay_status faulty) → faulty ≡ false
judged_sound true judged = absurd judged
judged_sound false judged = refl

ends_drained : {G B S E : Type 0} (m : Machine G B S E) (left now : Option (List ℕ)) (old new : Option Told) (result : Result Status Halt) → ReplayEnds m left now old new result
    → IfOk result (λ status. IsJudged status → IsDrained left now)
ends_drained m left now old new (Ok status) done = λ judged. done.finds.3 (judged_sound done.faulty (subst (λ (s : Status). IsJudged s) done.status_is judged))
ends_drained m left now old new (Err halt) cut = tt

-- what cut a replay off says what was taken and written
halted_by : (t : Traffic) (halt : Halt) → Halts npos_machine t.left t.left_now t.told t.told_now halt → HaltedBy halt t
halted_by t halts.ReadFault h = (h.taken, h.left_is, h.written, h.told, h.cut)
halted_by t halts.WriteFault h = (h.taken, h.left_is, h.written, h.told, has_written h.taken h.written h.keeps_up)
halted_by t halts.NoMemory h = (h.taken, h.left_is, h.written, h.told, h.cut)

ends_halted : (t : Traffic) (result : Result Status Halt) → ReplayEnds npos_machine t.left t.left_now t.told t.told_now result → IfErr result (λ halt. HaltedBy halt t)
ends_halted t (Ok status) done = tt
ends_halted t (Err halt) cut = halted_by t halt cut

-- a replay, which tells receipts or a checkpoint
abbrev pub replaying : Output → Job
replaying Receipts = jobs.Replay
replaying Checkpoint = jobs.Checkpoint

owed_by : (output : Output) (bytes text : List ℕ) (status : Status) → ReplayOwes (machine_of output) bytes text status → JobOwes (Some (replaying output)) bytes text status
owed_by Receipts bytes text status owes = owes
owed_by Checkpoint bytes text status owes = owes

owes_by : (output : Output) (bytes text : List ℕ) (status : Status) → JobOwes (Some (replaying output)) bytes text status → ReplayOwes (machine_of output) bytes text status
owes_by Receipts bytes text status owes = owes
owes_by Checkpoint bytes text status owes = owes

reads_by : (output : Output) → ReadsInput (Some (replaying output))
reads_by Receipts = tt
reads_by Checkpoint = tt

few_by : (output : Output) (left now : Option (List ℕ)) → ReadsBundle (Some (replaying output)) → TakesAtMost 16777217 left now
few_by Receipts left now bundle = absurd bundle
few_by Checkpoint left now bundle = absurd bundle

no_bundle : (output : Output) (task : Task) → Some (replaying output) ≡ Some (jobs.OnBundle task) → ⊥
no_bundle Receipts task e = cc
no_bundle Checkpoint task e = cc

halted_of : (output : Output) (t : Traffic) (result : Result Status Halt) → ReplayEnds (machine_of output) t.left t.left_now t.told t.told_now result
    → Some (replaying output) ≡ Some jobs.Replay → IfErr result (λ halt. HaltedBy halt t)
halted_of Receipts t result ends e = ends_halted t result ends
halted_of Checkpoint t result ends e = cc

answers_of : (output : Output) (t : Traffic) (result : Result Status Halt) → ReplayEnds (machine_of output) t.left t.left_now t.told t.told_now result
    → IfOk result (AnswersFor (Some (replaying output)) t.left t.told t.told_now)
answers_of output t (Ok status) done =
    let finds = finds_for (machine_of output) t.left t.left_now done.text done.faulty status done.finds done.status_is in
    (done.text, (finds.0, finds.1, owed_by output finds.0 done.text status finds.2), done.delivers)
answers_of output t (Err halt) cut = tt

front_of : (output : Output) (t : Traffic) (result : Result Status Halt) → ReplayEnds (machine_of output) t.left t.left_now t.told t.told_now result
    → BeginsFor (Some (replaying output)) t.left t.told t.told_now
front_of output t (Ok status) done =
    let answers = answers_of output t (Ok status) done in
    front_delivered (Some (replaying output)) t.left t.told t.told_now answers.0 status answers.1 answers.2
front_of output t (Err halt) cut = λ text status owed. cut.front text status (λ bytes all. owes_by output bytes text status (owed bytes all))

pub replay_ran : (output : Output) (t : Traffic) (result : Result Status Halt) → ReplayEnds (machine_of output) t.left t.left_now t.told t.told_now result
    → Counts halts.ReadFault t.read_faults t.read_faults_now result → Counts halts.WriteFault t.write_faults t.write_faults_now result → Ran (Some (replaying output)) t result
replay_ran output t result ends read_faults write_faults =
    record {
      answers = answers_of output t result ends;
      front = front_of output t result ends;
      read_faults = read_faults;
      write_faults = write_faults;
      reads = on_err result (λ halt. halt ≡ halts.ReadFault → ReadsInput (Some (replaying output))) (λ halt e. reads_by output);
      unflushed = ends_unflushed (machine_of output) t.left t.left_now t.told t.told_now result ends;
      halted = halted_of output t result ends;
      drained = on_ok result (λ status. IsJudged status → IsDrained t.left t.left_now) (λ status. IsJudged status → ReadsInput (Some (replaying output)) → IsDrained t.left t.left_now)
          (λ status drained judged reads. drained judged) (ends_drained (machine_of output) t.left t.left_now t.told t.told_now result ends);
      few = few_by output t.left t.left_now;
      accepted = λ task e. absurd (no_bundle output task e);
      passes = λ e. absurd (no_bundle output (tasks.Mine miners.Fill) e);
    }

-- ## No job yet

-- memory ran out before the job was known, and nothing was read or written
pub starved_ran : (job : Option Job) (left : Option (List ℕ)) (told : Option Told) (read_faults write_faults : ℕ)
    → Ran job (record {
      left = left;
      left_now = left;
      told = told;
      told_now = told;
      read_faults = read_faults;
      read_faults_now = read_faults;
      write_faults = write_faults;
      write_faults_now = write_faults;
    }) (Err halts.NoMemory)
starved_ran job left told read_faults write_faults =
    let first = begins_starved Receipts left told in
    record {
      answers = tt;
      front = λ text status owed. front_none told text;
      read_faults = refl;
      write_faults = refl;
      reads = λ e. cc;
      unflushed = kept_flushed told;
      halted = λ e. (first.taken, first.left_is, first.written, first.told, first.cut);
      drained = tt;
      few = λ bundle. takes_none left 16777217;
      accepted = λ task e. tt;
      passes = λ e. tt;
    }
