-- From what a run owes and what was delivered to the clauses of `run`.
use Rattle.std.proofs.Common.{◌≡◌, ◌≢◌, inl, inr, ℕ, ◌≤◌, List, [], ◌++◌, length, Option, Some, None, IfSome, refl, sym, ◌∙◌, ap, subst, arith, length-append}
use Rattle.std.proofs.lemmas.List.{take_all, append-nil}
use Rattle.std.proofs.lemmas.Bool.{cases_lt}
use Rattle.npos_base.specs.Outside.{Told}
use Rattle.scale_wire.specs.Form.{IsBytes, IsWire}
use Rattle.npos_cli.specs.declared.job.Job.{Job}
use Rattle.npos_cli.specs.declared.job.Job.TheVariants as jobs
use Rattle.run_edges.specs.declared.status.Status.{Status}
use Rattle.run_edges.specs.declared.status.Status.TheVariants as statuses
use Rattle.npos_cli.specs.Words.{job_by, job_of, usage_line, KeepsBounds as JobKeepsBounds}
use Rattle.bundle_reports.specs.declared.ending.Ending.{Ending}
use Rattle.bundle_reports.specs.declared.ending.Ending.TheVariants as endings
use Rattle.run_edges.specs.Status.{status_of, replay_status}
use Rattle.run_edges.specs.Owed.{ReplayOwes, ReadsUpTo, IsDrained, Delivers, DeliversFront, IsAll, BeginsReplay}
use Rattle.npos_cli.specs.Report.{JobOwes, Owes, Tells, IsJudged}
use Rattle.run_edges.specs.Replay.{Machine, turn, Outcome}
use Rattle.npos_cli.specs.Chain.{npos_machine}
use Rattle.npos_cli.specs.Checkpoints.{checkpoint_machine, resume_machine}
use Rattle.npos_cli.specs.Pools.{pool_machine}
use Rattle.election_work.specs.declared.asked.Task.{Task}
use Rattle.bundle_reports.specs.Bundles.{Report}
use Rattle.bundle_reports.specs.Demo.{demo_report}
use Rattle.bundle_reports.specs.Rewriting.{rewrite_report}
use Rattle.bundle_reports.specs.Tasks.{IsBundleReport}
use Rattle.election_work.specs.Sound.{IsSound}
use Rattle.npos_cli.specs.Owed.{FindsFor, BeginsFor}
use Rattle.std.specs.Prelude.{option_map}
use Rattle.npos_words.specs.declared.command.Command.{Command}
use Rattle.npos_words.specs.declared.command.Command.TheVariants as commands
use Rattle.npos_words.specs.Words.{command_of, KeepsBounds}
use Rattle.npos_words.proofs.WordLemmas.{keeps_bounds}
use Rattle.npos_base.proofs.MinerLaws.{has_rounds}
use Rattle.run_edges.proofs.ReplayLaws.{one_replay, any_replay}
use Rattle.bundle_reports.proofs.ReportLaws.{one_report, any_report}
use Rattle.bundle_reports.proofs.LongLaws.{long_report, long_reported}
use Rattle.state_checkpoint.specs.LayoutLaws.{state_laws}
use Rattle.npos_cli.proofs.ChainLaws.{genesis_laws, turn_laws}
use Rattle.npos_cli.proofs.PoolLaws.{pool_laws, pool_turn_laws}

-- what is owed whatever the bytes are
pub found_unread : (job : Option Job) (left : Option (List ℕ)) (text : List ℕ) (status : Status) → ((bytes : List ℕ) → JobOwes job bytes text status) → FindsFor job left text status
found_unread job None text status owed = ([], tt, owed [])
found_unread job (Some bytes) text status owed = (bytes, refl, owed bytes)

-- words that ask for no job owe the usage line
pub nothing_asked : (job : Option Job) (left : Option (List ℕ)) → job ≡ None → FindsFor job left usage_line statuses.Usage
nothing_asked job left none =
    found_unread job left usage_line statuses.Usage (λ bytes. subst (λ (j : Option Job). JobOwes j bytes usage_line statuses.Usage) (sym none) (refl, refl))

pub delivered_front : (old new : Option Told) (text : List ℕ) → Delivers old new text → DeliversFront old new text
delivered_front old None text delivers = tt
delivered_front old (Some now) text delivers =
    (delivers.0, length text, delivers.1, delivers.2 ∙ ap (λ all. delivers.0.written ++ all) (sym (take_all (length text) text (omega arith))))

-- one report has one text and one status
one_told : (one two : Report) (text other : List ℕ) (status end : Status) → one ≡ two → Tells one text status → Tells two other end → (text ≡ other) × (status ≡ end)
one_told one two text other status end same first second = (
  first.text_is ∙ (ap (λ (r : Report). r.text) same ∙ sym second.text_is),
  first.status_is ∙ (ap (λ (r : Report). status_of r.ending) same ∙ sym second.status_is),
)

-- the text and the status of a report tell of it
pub tells_itself : (report : Report) → Tells report report.text (status_of report.ending)
tells_itself report = record { text_is = refl; status_is = refl }

-- a machine's replay owes one text and one status
one_replayed : {G B S E : Type 0} (m : Machine G B S E) → IsWire m.genesis → IsWire (turn m) → (bytes text other : List ℕ) (status end : Status)
    → ReplayOwes m bytes text status → ReplayOwes m bytes other end → (text ≡ other) × (status ≡ end)
one_replayed {G} {B} {S} {E} m genesis_laws turn_laws bytes text other status end first second =
    let same = one_replay m genesis_laws turn_laws bytes first.0 second.0 first.1 second.1 in
    (first.2 ∙ (ap (λ (o : Outcome S E). o.text) same ∙ sym second.2), first.3 ∙ (ap (λ (o : Outcome S E). replay_status o.faulty) same ∙ sym second.3))

-- a front of the replay that was found is a front of the one that is owed
pub replay_front : {G B S E : Type 0} (m : Machine G B S E) → IsWire m.genesis → IsWire (turn m) → (left : Option (List ℕ)) (old new : Option Told) (text : List ℕ) (status : Status)
    → (bytes : List ℕ) × IsAll left bytes × ReplayOwes m bytes text status → DeliversFront old new text → BeginsReplay m left old new
replay_front m genesis_laws turn_laws left old new text status finds front other end owed =
    subst (λ (t : List ℕ). DeliversFront old new t) (one_replayed m genesis_laws turn_laws finds.0 text other status end finds.2 (owed finds.0 finds.1)).0 front

-- words and bytes owe one text and one status
pub one_for : (job : Option Job) (bytes text other : List ℕ) (status end : Status) → JobOwes job bytes text status → JobOwes job bytes other end → (text ≡ other) × (status ≡ end)
one_for None bytes text other status end first second = (first.0 ∙ sym second.0, first.1 ∙ sym second.1)
one_for (Some jobs.Replay) bytes text other status end first second = one_replayed npos_machine genesis_laws turn_laws bytes text other status end first second
one_for (Some (jobs.OnBundle task)) bytes text other status end first second =
    one_told first.0 second.0 text other status end (one_report task bytes first.0 second.0 first.1 second.1) first.2 second.2
one_for (Some (jobs.Demo seed voters seats)) bytes text other status end first second =
    one_told (demo_report seed voters seats) (demo_report seed voters seats) text other status end refl first second
one_for (Some (jobs.Rewrite way)) bytes text other status end first second =
    one_told (rewrite_report way bytes) (rewrite_report way bytes) text other status end refl first second
one_for (Some jobs.Checkpoint) bytes text other status end first second = one_replayed checkpoint_machine genesis_laws turn_laws bytes text other status end first second
one_for (Some jobs.Resume) bytes text other status end first second = one_replayed resume_machine state_laws turn_laws bytes text other status end first second
one_for (Some jobs.Pools) bytes text other status end first second = one_replayed pool_machine pool_laws pool_turn_laws bytes text other status end first second

pub one_owed : (words : List (List ℕ)) (bytes text other : List ℕ) (status end : Status) → Owes words bytes text status → Owes words bytes other end
    → (text ≡ other) × (status ≡ end)
one_owed words = one_for (job_of words)

-- a front of what was found is a front of what is owed
pub front_found : (job : Option Job) (left : Option (List ℕ)) (old new : Option Told) (text : List ℕ) (status : Status) → FindsFor job left text status
    → DeliversFront old new text → BeginsFor job left old new
front_found job left old new text status finds front other end owed =
    subst (λ (t : List ℕ). DeliversFront old new t) (one_for job finds.0 text other status end finds.2 (owed finds.0 finds.1)).0 front

-- the whole of what was found is a front of what is owed
pub front_delivered : (job : Option Job) (left : Option (List ℕ)) (old new : Option Told) (text : List ℕ) (status : Status) → FindsFor job left text status
    → Delivers old new text → BeginsFor job left old new
front_delivered job left old new text status finds delivers =
    front_found job left old new text status finds (delivered_front old new text delivers)

-- PHRAGMMS has at least one round in words that have a form
pub job_has_rounds : (words : List (List ℕ)) → JobKeepsBounds (job_of words)
job_has_rounds words = by (command_of words) (keeps_bounds words) where
  by : (command : Option Command) → KeepsBounds command → JobKeepsBounds (option_map job_by command)
  by None bounds = tt
  by (Some commands.Replay) bounds = tt
  by (Some commands.Check) bounds = tt
  by (Some (commands.Mine miner)) bounds = has_rounds miner bounds
  by (Some commands.Pack) bounds = tt
  by (Some commands.Show) bounds = tt
  by (Some (commands.Demo seed voters seats)) bounds = bounds
  by (Some commands.Checkpoint) bounds = tt
  by (Some commands.Resume) bounds = tt
  by (Some commands.Pools) bounds = tt

any_replayed : {G B S E : Type 0} (m : Machine G B S E) → IsWire m.genesis → IsWire (turn m) → (bytes : List ℕ) → IsBytes bytes
    → (text : List ℕ) × (status : Status) × ReplayOwes m bytes text status
any_replayed m genesis_laws turn_laws bytes are =
    let r = any_replay m genesis_laws turn_laws bytes are in
    (r.outcome.text, replay_status r.outcome.faulty, (r.outcome, r.is_replay, refl, refl))

-- every list of bytes is answered
pub any_owed : (words : List (List ℕ)) (bytes : List ℕ) → IsBytes bytes → (text : List ℕ) × (status : Status) × Owes words bytes text status
any_owed words bytes are = by (job_of words) (job_has_rounds words) where
  by : (job : Option Job) → JobKeepsBounds job → (text : List ℕ) × (status : Status) × JobOwes job bytes text status
  by None some = (usage_line, statuses.Usage, (refl, refl))
  by (Some jobs.Replay) some = any_replayed npos_machine genesis_laws turn_laws bytes are
  by (Some (jobs.OnBundle task)) some = let r = any_report task some bytes in (r.0.text, status_of r.0.ending, (r.0, r.1, tells_itself r.0))
  by (Some (jobs.Demo seed voters seats)) some = let r = demo_report seed voters seats in (r.text, status_of r.ending, tells_itself r)
  by (Some (jobs.Rewrite way)) some = let r = rewrite_report way bytes in (r.text, status_of r.ending, tells_itself r)
  by (Some jobs.Checkpoint) some = any_replayed checkpoint_machine genesis_laws turn_laws bytes are
  by (Some jobs.Resume) some = any_replayed resume_machine state_laws turn_laws bytes are
  by (Some jobs.Pools) some = any_replayed pool_machine pool_laws pool_turn_laws bytes are

-- ## A bundle

-- bytes within the limit are all that was left
pub all_left : (most : ℕ) (left : List ℕ) (now : Option (List ℕ)) (bytes : List ℕ) → ReadsUpTo most (Some left) now bytes → length bytes ≤ most → bytes ≡ left
all_left most left now bytes reads within =
    let t = reads.taken in
    let empty : t.0 ≡ [] = let e : Some t.0 ≡ Some [] = sym t.1 ∙ reads.ended within in cc in
    sym (t.2 ∙ (ap (λ (rest : List ℕ). bytes ++ rest) empty ∙ append-nil bytes))

-- what is reported of the bytes that were read is what is reported of all
pub report_read : (task : Task) (left : List ℕ) (now : Option (List ℕ)) (bytes : List ℕ) (report : Report) → ReadsUpTo 16777216 (Some left) now bytes
    → IsBundleReport task bytes report → IsBundleReport task left report
report_read task left now bytes report reads is = elim (cases_lt 16777216 (length bytes)) [
  | inl over ↦
      long_reported task left report (let t = reads.taken in
      omega (arith, over, ap length t.2, length-append bytes t.0)) (long_report task bytes report over is)
  | inr within ↦ subst (λ (b : List ℕ). IsBundleReport task b report) (all_left 16777216 left now bytes reads within) is
]

pub bundle_found : (task : Task) (old now : Option (List ℕ)) (bytes : List ℕ) (report : Report) → ReadsUpTo 16777216 old now bytes → IsBundleReport task bytes report
    → FindsFor (Some (jobs.OnBundle task)) old report.text (status_of report.ending)
bundle_found task None now bytes report reads is = (bytes, tt, (report, is, tells_itself report))
bundle_found task (Some left) now bytes report reads is = (left, refl, (report, report_read task left now bytes report reads is, tells_itself report))

-- an answer of Done or No comes of bytes within the limit
bundle_within : (task : Task) (bytes : List ℕ) (report : Report) → IsBundleReport task bytes report → IsJudged (status_of report.ending) → length bytes ≤ 16777216
bundle_within task bytes report is judged = elim (cases_lt 16777216 (length bytes)) [
  | inl over ↦ absurd (subst (λ (r : Report). IsJudged (status_of r.ending)) (long_report task bytes report over is) judged)
  | inr within ↦ within
]

pub bundle_drained : (task : Task) (old now : Option (List ℕ)) (bytes : List ℕ) (report : Report) → ReadsUpTo 16777216 old now bytes
    → IsBundleReport task bytes report → IsJudged (status_of report.ending) → IsDrained old now
bundle_drained task old now bytes report reads is judged = reads.ended (bundle_within task bytes report is judged)

-- a run is done where its report is, and answers No where that is one
pub is_done : (ending : Ending) → status_of ending ≡ statuses.Done → ending ≡ endings.Done
is_done endings.Done e = refl
is_done endings.No e = absurd (cc)
is_done endings.BadInput e = absurd (cc)

is_no : (ending : Ending) → status_of ending ≡ statuses.No → ending ≡ endings.No
is_no endings.No e = refl
is_no endings.Done e = absurd (cc)
is_no endings.BadInput e = absurd (cc)

pub bundle_sound : (task : Task) (old now : Option (List ℕ)) (bytes : List ℕ) (report : Report) → ReadsUpTo 16777216 old now bytes
    → IsBundleReport task bytes report → (report.ending ≡ endings.Done → IsSound task bytes) → status_of report.ending ≡ statuses.Done
    → IfSome old (IsSound task)
bundle_sound task None now bytes report reads is sound done = tt
bundle_sound task (Some left) now bytes report reads is sound done =
    let judged : IsJudged (status_of report.ending) = subst (λ (s : Status). IsJudged s) (sym done) tt in
    subst (λ (b : List ℕ). IsSound task b) (all_left 16777216 left now bytes reads (bundle_within task bytes report is judged))
    (sound (is_done report.ending done))

pub bundle_passes : (ending : Ending) → ending ≢ endings.No → status_of ending ≢ statuses.No
bundle_passes ending passes = λ no. passes (is_no ending no)

-- by these `top` goes on
pub ruleset bundle_facts = (bundle_found, bundle_drained, bundle_sound, bundle_passes)
