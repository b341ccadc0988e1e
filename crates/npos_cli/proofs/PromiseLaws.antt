-- From what is owed to what each status says.
use Rattle.std.proofs.Common.{◌≡◌, ◌≢◌, ◌⊎◌, inl, inr, ℕ, Bool, true, false, List, [], Option, Some, None, IfSome, IsSome, refl, sym, subst}
use Rattle.npos_base.specs.Outside.{Told}
use Rattle.npos_cli.specs.declared.job.Job.{Job}
use Rattle.npos_cli.specs.declared.job.Job.TheVariants as jobs
use Rattle.run_edges.specs.declared.status.Status.{Status}
use Rattle.run_edges.specs.declared.status.Status.TheVariants as statuses
use Rattle.bundle_reports.specs.declared.ending.Ending.{Ending}
use Rattle.bundle_reports.specs.declared.ending.Ending.TheVariants as endings
use Rattle.run_edges.specs.Status.{status_of, replay_status}
use Rattle.npos_cli.specs.Words.{HasForm, job_of, usage_line}
use Rattle.npos_cli.specs.Report.{JobOwes, ReadsInput, IsAnswer, IsJudged}
use Rattle.run_edges.specs.Replay.{Outcome, IsReplay}
use Rattle.npos_runtime.specs.declared.chain.Chain.{Chain}
use Rattle.npos_runtime.specs.Rules.Outcome.{Election as Seated}
use Rattle.npos_cli.specs.Chain.{npos_machine}
use Rattle.npos_cli.specs.Owed.{Answers, IsOwed, BeginsToAnswer}
use Rattle.run_edges.specs.Owed.{IsDrained, Delivers, DeliversFront, DeliversReplay, DeliversReplayFront, Comes, ComesWith}
use Rattle.npos_cli.proofs.RunLaws.{one_owed}

-- what an answer that is known to be this one says
at_answer : (words : List (List ℕ)) (left : Option (List ℕ)) (old new : Option Told) (answer due : Status) → answer ≡ due → IsAnswer due
    → (IsAnswer answer → Answers words left old new answer) → Answers words left old new due
at_answer words left old new answer due is answers_due =
    subst (λ (s : Status). IsAnswer due → (IsAnswer s → Answers words left old new s) → Answers words left old new due) (sym is)
    (λ due_is answers. answers due_is) answers_due

-- words without a form ask for no job
pub unasked : (job : Option Job) → (IsSome job → ⊥) → job ≡ None
unasked None unformed = refl
unasked (Some job) unformed = absurd (unformed refl)

pub reads_nothing : (job : Option Job) → (IsSome job → ⊥) → ReadsInput job → ⊥
reads_nothing job unformed = subst (λ (j : Option Job). ReadsInput j → ⊥) (sym (unasked job unformed)) (λ reads. reads)

usage_owed : (words : List (List ℕ)) (left : Option (List ℕ)) → (HasForm words → ⊥) → IsOwed words left usage_line statuses.Usage
usage_owed words left unformed = λ bytes all.
    subst (λ (job : Option Job). JobOwes job bytes usage_line statuses.Usage) (sym (unasked (job_of words) unformed)) (refl, refl)

pub usage_front_of : (words : List (List ℕ)) (left : Option (List ℕ)) (old new : Option Told) → BeginsToAnswer words left old new
    → (HasForm words → ⊥) → DeliversFront old new usage_line
usage_front_of words left old new begins unformed = begins usage_line statuses.Usage (usage_owed words left unformed)

-- no report has the status Usage
no_usage : (ending : Ending) → statuses.Usage ≡ status_of ending → ⊥
no_usage endings.Done e = cc
no_usage endings.No e = cc
no_usage endings.BadInput e = cc

-- no replay has it
not_usage : (faulty : Bool) → statuses.Usage ≡ replay_status faulty → ⊥
not_usage true e = cc
not_usage false e = cc

-- no job owes the status Usage
usage_by : (job : Option Job) (bytes text : List ℕ) → JobOwes job bytes text statuses.Usage → (IsSome job → ⊥) × (text ≡ usage_line)
usage_by None bytes text owes = (λ some. let e : false ≡ true = some in cc, owes.0)
usage_by (Some jobs.Replay) bytes text owes = absurd (not_usage owes.0.faulty owes.3)
usage_by (Some (jobs.OnBundle task)) bytes text owes = absurd (no_usage owes.0.ending owes.2.status_is)
usage_by (Some (jobs.Demo seed voters seats)) bytes text owes = absurd (no_usage endings.Done owes.status_is)
usage_by (Some (jobs.Rewrite way)) bytes text owes = absurd (no_usage _ owes.status_is)
usage_by (Some jobs.Checkpoint) bytes text owes = absurd (not_usage owes.0.faulty owes.3)
usage_by (Some jobs.Resume) bytes text owes = absurd (not_usage owes.0.faulty owes.3)
usage_by (Some jobs.Pools) bytes text owes = absurd (not_usage owes.0.faulty owes.3)

pub usage_due : (words : List (List ℕ)) (left : Option (List ℕ)) (old new : Option Told) (answer : Status)
    → (IsAnswer answer → Answers words left old new answer) → answer ≡ statuses.Usage → (HasForm words → ⊥) × Delivers old new usage_line
usage_due words left old new statuses.Usage answers is =
    let a = answers tt in
    let u = usage_by (job_of words) a.1.0 a.0 a.1.2 in
    (u.0, subst (λ (t : List ℕ). Delivers old new t) u.1 a.2)
usage_due words left old new statuses.Done answers is = cc
usage_due words left old new statuses.No answers is = cc
usage_due words left old new statuses.BadInput answers is = cc
usage_due words left old new statuses.ReadFault answers is = cc
usage_due words left old new statuses.WriteFault answers is = cc
usage_due words left old new statuses.NoMemory answers is = cc

-- what is owed comes, unless the run is cut off
module _ (words : List (List ℕ)) (left : Option (List ℕ)) (old new : Option Told) (text : List ℕ) (due : Status) (owed : IsOwed words left text due)
    (read write : Type 0) where
  answered : (answer : Status) → Answers words left old new answer → answer ≡ due
  answered answer a = (one_owed words a.1.0 a.0 text answer due a.1.2 (owed a.1.0 a.1.1)).1

  pub comes_owed : (answer : Status) → (IsAnswer answer → Answers words left old new answer) → (answer ≡ statuses.ReadFault → read)
      → (answer ≡ statuses.WriteFault → write) → Comes due answer (read ⊎ write)
  comes_owed statuses.Done answers reads writes = inl (answered statuses.Done (answers tt))
  comes_owed statuses.No answers reads writes = inl (answered statuses.No (answers tt))
  comes_owed statuses.Usage answers reads writes = inl (answered statuses.Usage (answers tt))
  comes_owed statuses.BadInput answers reads writes = inl (answered statuses.BadInput (answers tt))
  comes_owed statuses.ReadFault answers reads writes = inr (inr (inl (reads refl)))
  comes_owed statuses.WriteFault answers reads writes = inr (inr (inr (writes refl)))
  comes_owed statuses.NoMemory answers reads writes = inr (inl refl)

narrowed : (due answer : Status) (write : Type 0) → Comes due answer (⊥ ⊎ write) → Comes due answer write
narrowed due answer write (inl is) = inl is
narrowed due answer write (inr (inl memory)) = inr (inl memory)
narrowed due answer write (inr (inr (inl never))) = absurd never
narrowed due answer write (inr (inr (inr rose))) = inr (inr rose)

pub usage_comes : (words : List (List ℕ)) (left : Option (List ℕ)) (old new : Option Told) (answer : Status) (read write : Type 0)
    → (IsAnswer answer → Answers words left old new answer) → (answer ≡ statuses.ReadFault → ReadsInput (job_of words) × read)
    → (answer ≡ statuses.WriteFault → write) → (HasForm words → ⊥) → Comes statuses.Usage answer write
usage_comes words left old new answer read write answers reads writes unformed =
    narrowed statuses.Usage answer write (comes_owed words left old new usage_line statuses.Usage (usage_owed words left unformed) ⊥ write answer answers
    (λ is. reads_nothing (job_of words) unformed (reads is).0) writes)

-- ## A replay

module _ (words : List (List ℕ)) (asked : job_of words ≡ Some jobs.Replay) where
  replay_owed : (left : List ℕ) (out : Outcome Chain Seated) → IsReplay npos_machine left out → IsOwed words (Some left) out.text (replay_status out.faulty)
  replay_owed left out is_replay = λ bytes all.
      subst (λ (job : Option Job). JobOwes job bytes out.text (replay_status out.faulty)) (sym asked)
      (out, subst (λ (b : List ℕ). IsReplay npos_machine b out) (sym all) is_replay, refl, refl)

  found : (left : List ℕ) (old new : Option Told) (answer : Status) → Answers words (Some left) old new answer
      → (out : Outcome Chain Seated) × IsReplay npos_machine left out × (answer ≡ replay_status out.faulty) × Delivers old new out.text
  found left old new answer a =
      let owes = subst (λ (job : Option Job). JobOwes job a.1.0 a.0 answer) asked a.1.2 in
      (owes.0, subst (λ (b : List ℕ). IsReplay npos_machine b owes.0) a.1.1 owes.1, owes.3, subst (λ (t : List ℕ). Delivers old new t) owes.2 a.2)

  is_done : (faulty : Bool) → statuses.Done ≡ replay_status faulty → faulty ≡ false
  is_done true e = cc
  is_done false e = refl

  is_bad : (faulty : Bool) → statuses.BadInput ≡ replay_status faulty → faulty ≡ true
  is_bad true e = refl
  is_bad false e = cc

  is_no : (faulty : Bool) → statuses.No ≡ replay_status faulty → ⊥
  is_no true e = cc
  is_no false e = cc

  pub no_verdict_of : (left : Option (List ℕ)) (old new : Option Told) (answer : Status)
      → (IsAnswer answer → Answers words left old new answer) → answer ≢ statuses.No
  no_verdict_of left old new answer answers = λ is.
      let a = at_answer words left old new answer statuses.No is tt answers in
      let owes = subst (λ (job : Option Job). JobOwes job a.1.0 a.0 statuses.No) asked a.1.2 in
      is_no owes.0.faulty owes.3

  pub done_of : (left now : Option (List ℕ)) (old new : Option Told) (answer : Status) → answer ≡ statuses.Done
      → (IsAnswer answer → Answers words left old new answer) → (IsJudged answer → ReadsInput (job_of words) → IsDrained left now)
      → IfSome left (λ bytes. DeliversReplay npos_machine false old new bytes × (now ≡ Some []))
  done_of None now old new answer is answers drained = tt
  done_of (Some left) now old new answer is answers drained =
      let f = found left old new statuses.Done (at_answer words (Some left) old new answer statuses.Done is tt answers) in (
        (f.0, f.1, is_done f.0.faulty f.2, f.3),
        drained (subst (λ (s : Status). IsJudged s) (sym is) tt) (subst (λ (job : Option Job). ReadsInput job) (sym asked) tt),
      )

  pub bad_of : (left : Option (List ℕ)) (old new : Option Told) (answer : Status) → answer ≡ statuses.BadInput
      → (IsAnswer answer → Answers words left old new answer) → IfSome left (DeliversReplay npos_machine true old new)
  bad_of None old new answer is answers = tt
  bad_of (Some left) old new answer is answers =
      let f = found left old new statuses.BadInput (at_answer words (Some left) old new answer statuses.BadInput is tt answers) in
      (f.0, f.1, is_bad f.0.faulty f.2, f.3)

  pub comes_of : (left : Option (List ℕ)) (old new : Option Told) (answer : Status) (read write : Type 0) (faulty : Bool)
      → (IsAnswer answer → Answers words left old new answer) → (answer ≡ statuses.ReadFault → read) → (answer ≡ statuses.WriteFault → write)
      → IfSome left (λ bytes. ComesWith npos_machine bytes faulty (replay_status faulty) answer (read ⊎ write))
  comes_of None old new answer read write faulty answers reads writes = tt
  comes_of (Some left) old new answer read write faulty answers reads writes = λ out is_replay ends.
      subst (λ (b : Bool). Comes (replay_status b) answer (read ⊎ write)) ends
      (comes_owed words (Some left) old new out.text (replay_status out.faulty) (replay_owed left out is_replay) read write answer answers reads writes)

  pub front_of : (left : Option (List ℕ)) (old new : Option Told) → BeginsToAnswer words left old new → IfSome left (DeliversReplayFront npos_machine old new)
  front_of None old new begins = tt
  front_of (Some left) old new begins = λ out is_replay. begins out.text (replay_status out.faulty) (replay_owed left out is_replay)

-- ## The promise

-- a run that was not cut off has an answer
pub uncut : (answer : Status) (read write : Type 0) → (answer ≡ statuses.ReadFault → read) → (answer ≡ statuses.WriteFault → write)
    → (read → ⊥) → (write → ⊥) → answer ≢ statuses.NoMemory → IsAnswer answer
uncut statuses.Done read write reads writes no_read no_write memory = tt
uncut statuses.No read write reads writes no_read no_write memory = tt
uncut statuses.Usage read write reads writes no_read no_write memory = tt
uncut statuses.BadInput read write reads writes no_read no_write memory = tt
uncut statuses.ReadFault read write reads writes no_read no_write memory = absurd (no_read (reads refl))
uncut statuses.WriteFault read write reads writes no_read no_write memory = absurd (no_write (writes refl))
uncut statuses.NoMemory read write reads writes no_read no_write memory = absurd (memory refl)
