-- The promise of a run over a stream, by what it answers and by what holds of all bytes.
use Rattle.std.proofs.Common.{◌≡◌, ℕ, Bool, true, false, List, [], ◌∷◌, ◌++◌, Option, Some, None, IfSome, refl, sym, ◌∙◌, ap, subst}
use Rattle.std.specs.Prelude.{flat_map}
use Rattle.std.proofs.lemmas.Grind.{flat_map-append}
use Rattle.npos_base.specs.Outside.{Told}
use Rattle.block_wire.specs.declared.block.Block.{Block}
use Rattle.block_wire.specs.Genesis.{genesis_form}
use Rattle.stake_ledger.specs.Ledger.{totals_of}
use Rattle.npos_runtime.specs.declared.chain.Chain.{Chain}
use Rattle.npos_runtime.specs.Rules.Outcome.{Election}
use Rattle.npos_runtime.specs.Step.{step, after_blocks, told_by, seated_by}
use Rattle.npos_runtime.specs.Histories.Promise.{PromiseLaw}
use Rattle.run_edges.specs.declared.status.Status.{Status}
use Rattle.run_edges.specs.declared.status.Status.TheVariants as statuses
use Rattle.npos_cli.specs.declared.job.Job.{Job}
use Rattle.npos_cli.specs.declared.job.Job.TheVariants as jobs
use Rattle.run_edges.specs.Replay.{Machine, Spot, turn, behind, Passes, Outcome, IsReplay, all_seated}
use Rattle.run_edges.specs.Replay.{BadGenesis, FaultyGenesis, Replayed, Ended}
use Rattle.npos_cli.specs.Chain.{npos_machine, line_text, end_line}
use Rattle.npos_cli.specs.Checkpoints.{checkpoint_of, checkpoint_machine, resume_machine, WritesCheckpoints, GoesOnFromCheckpoints}
use Rattle.npos_cli.specs.Checkpoints.{StartsWithCheckpoints}
use Rattle.run_edges.specs.Streams.{IsStream}
use Rattle.npos_cli.specs.Resumable.{AlwaysStopsAndGoesOn}
use Rattle.npos_cli.specs.Resumed.{KeepsOn}
use Rattle.npos_cli.specs.Pools.{PoolRun, pool_machine, PoolsAreFair}
use Rattle.npos_cli.specs.Report.{IsAnswer}
use Rattle.run_edges.specs.Owed.{ReplayOwes}
use Rattle.run_edges.specs.Status.{replay_status}
use Rattle.npos_cli.specs.Owed.{AnswersFor, BeginsFor}
use Rattle.run_edges.specs.Owed.{IsAll, BeginsReplay, Delivers}
use Rattle.npos_cli.specs.Claim.{Fulfills, IsChained, IsAlwaysChained, IsPromised, IsCheckpointed, IsResumed, IsPooled}
use Rattle.npos_cli.specs.Claim.IsChained.{Unbegun, Begun}
use Rattle.npos_cli.proofs.BookLaws.{begun, history_of}
use Rattle.npos_cli.proofs.CheckpointLaws.{bytes_taken, ends_well}

-- ## What a replay tells of its blocks

pub record AreTold (blocks : List Block) (p q : Spot Chain) (text : List ℕ) : Type 0 where
  pub lines : text ≡ flat_map line_text (told_by p.state blocks)
  pub seated : all_seated npos_machine p.state blocks ≡ seated_by p.state blocks
  pub last : q.state ≡ after_blocks p.state blocks

pub are_told : (blocks : List Block) (p q : Spot Chain) (text : List ℕ) → Passes npos_machine blocks p q text
    → AreTold blocks p q text
are_told [] p q text passes = record {
  lines = passes.1;
  seated = refl;
  last = ap (λ (s : Spot Chain). s.state) passes.0;
}
are_told (block ∷ blocks) p q text passes =
    let later = are_told blocks (behind npos_machine p block passes.0) q passes.2 passes.3 in
    let now = step p.state block in
    record {
      lines = passes.4 ∙ (ap (λ (more : List ℕ). flat_map line_text now.lines ++ more) later.lines
          ∙ sym (flat_map-append line_text now.lines (told_by now.state blocks)));
      seated = ap (λ (more : List Election). now.seated ++ more) later.seated;
      last = later.last;
    }

-- ## Every replay keeps its promise

pub always_chained : PromiseLaw → IsAlwaysChained
always_chained law bytes out (BadGenesis at why bad is) =
    Unbegun (ap (λ (o : Outcome Chain Election). o.last) is) (ap (λ (o : Outcome Chain Election). o.seated) is)
    (ap (λ (o : Outcome Chain Election). o.faulty) is)
always_chained law bytes out (FaultyGenesis genesis rest line in_range whole faulty is) =
    Unbegun (ap (λ (o : Outcome Chain Election). o.last) is) (ap (λ (o : Outcome Chain Election). o.seated) is)
    (ap (λ (o : Outcome Chain Election). o.faulty) is)
always_chained law bytes out (Replayed p q text line faulty starts reaches stops is) =
    let own : p.state ≡ _ = sym (begun bytes p starts).1 in
    let told = are_told reaches.blocks p q text reaches.passes in
    let last = told.last ∙ ap (λ (chain : Chain). after_blocks chain reaches.blocks) own in
    Begun starts.genesis reaches.blocks q.rest line (record {
      bytes_are = starts.whole
          ∙ ap (λ (back : List ℕ). genesis_form.spelling starts.genesis ++ back) (bytes_taken reaches.blocks p q text reaches.passes);
      text_is = ap (λ (o : Outcome Chain Election). o.text) is ∙ ap (λ (t : List ℕ). t ++ line)
          (told.lines ∙ ap (λ (chain : Chain). flat_map line_text (told_by chain reaches.blocks)) own);
      seated_is = ap (λ (o : Outcome Chain Election). o.seated) is ∙ (told.seated
          ∙ ap (λ (chain : Chain). seated_by chain reaches.blocks) own);
      last_is = ap (λ (o : Outcome Chain Election). o.last) is ∙ ap (λ (chain : Chain). Some chain) last;
      ends = λ sound.
          let end = ends_well npos_machine q line faulty (sym (ap (λ (o : Outcome Chain Election). o.faulty) is) ∙ sound) stops in
          (end.0, end.1 ∙ ap (λ (chain : Chain). end_line (totals_of chain.book)) last);
      keeps = law starts.genesis reaches.blocks (history_of bytes p starts q text reaches);
    })

-- ## What a run fulfills, by what it answers

-- what is owed by a machine for what was left was delivered whole
abbrev AnswersReplay : {G B S E : Type 0} → Machine G B S E → Option (List ℕ) → Option Told → Option Told → Status → Type 0
AnswersReplay m left old new status =
    (text : List ℕ) × ((bytes : List ℕ) × IsAll left bytes × ReplayOwes m bytes text status) × Delivers old new text

fulfilled : {G B S E : Type 0} (m : Machine G B S E) (Holds : List ℕ → Outcome S E → Type 0)
    → ((bytes : List ℕ) (out : Outcome S E) → IsReplay m bytes out → Holds bytes out)
    → (left : Option (List ℕ)) (old new : Option Told) (status : Status)
    → (IsAnswer status → AnswersReplay m left old new status) → BeginsReplay m left old new
    → IfSome left (λ bytes. Fulfills m (Holds bytes) bytes old new status)
fulfilled m Holds law None old new status answers begins = tt
fulfilled {G} {B} {S} {E} m Holds law (Some bytes) old new status answers begins = record {
  whole = λ is.
      let a = answers is in
      let owes = a.1.2 in (
        owes.0,
        subst (λ (b : List ℕ). IsReplay m b owes.0) a.1.1 owes.1,
        subst (λ (t : List ℕ). Delivers old new t) owes.2 a.2,
        owes.3,
      );
  front = λ out replay. begins out.text (replay_status out.faulty)
      (λ other same. subst (λ (b : List ℕ). ReplayOwes m b out.text (replay_status out.faulty)) (sym same) (out, replay, refl, refl));
  holds = law bytes;
}

module _ (job : Option Job) (left : Option (List ℕ)) (old new : Option Told) (status : Status)
    (answers : IsAnswer status → AnswersFor job left old new status) (begins : BeginsFor job left old new) where
  pub promised : IsAlwaysChained → job ≡ Some jobs.Replay → IfSome left (λ bytes. IsPromised bytes old new status)
  promised law asked =
      fulfilled npos_machine IsChained law left old new status
      (subst (λ (j : Option Job). IsAnswer status → AnswersFor j left old new status) asked answers)
      (subst (λ (j : Option Job). BeginsFor j left old new) asked begins)

  pub checkpointed : ((bytes : List ℕ) → WritesCheckpoints bytes) → job ≡ Some jobs.Checkpoint
      → IfSome left (λ bytes. IsCheckpointed bytes old new status)
  checkpointed law asked =
      fulfilled checkpoint_machine (λ bytes out. WritesCheckpoints bytes) (λ bytes out replay. law bytes) left old new status
      (subst (λ (j : Option Job). IsAnswer status → AnswersFor j left old new status) asked answers)
      (subst (λ (j : Option Job). BeginsFor j left old new) asked begins)

  pub resumed_on : ((bytes : List ℕ) → KeepsOn bytes) → ((bytes : List ℕ) → StartsWithCheckpoints bytes)
      → job ≡ Some jobs.Resume → IfSome left (λ bytes. IsResumed bytes old new status)
  resumed_on law starts asked =
      fulfilled resume_machine (λ bytes out. KeepsOn bytes × StartsWithCheckpoints bytes)
      (λ bytes out replay. (law bytes, starts bytes)) left old new status
      (subst (λ (j : Option Job). IsAnswer status → AnswersFor j left old new status) asked answers)
      (subst (λ (j : Option Job). BeginsFor j left old new) asked begins)

  pub pooled : ((bytes : List ℕ) → PoolsAreFair bytes) → job ≡ Some jobs.Pools
      → IfSome left (λ bytes. IsPooled bytes old new status)
  pooled law asked =
      fulfilled pool_machine (λ bytes out. PoolsAreFair bytes) (λ bytes out replay. law bytes) left old new status
      (subst (λ (j : Option Job). IsAnswer status → AnswersFor j left old new status) asked answers)
      (subst (λ (j : Option Job). BeginsFor j left old new) asked begins)

-- ## To stop and go on

-- the replay of a whole stream ends without a fault
whole_replay : (bytes : List ℕ) → IsStream npos_machine bytes
    → (out : Outcome Chain Election) × IsReplay npos_machine bytes out × (out.faulty ≡ false)
whole_replay bytes stream = (
  record {
    text = stream.text ++ npos_machine.ending stream.place.state;
    faulty = false;
    seated = all_seated npos_machine stream.start.state stream.reaches.blocks;
    last = Some stream.place.state;
  },
  Replayed stream.start stream.place stream.text (npos_machine.ending stream.place.state) false stream.starts stream.reaches
      (Ended stream.ended refl refl) refl,
  refl,
)

-- what a replay owes, by its text and its end
owed : {G B S E : Type 0} (m : Machine G B S E) (bytes text : List ℕ) (out : Outcome S E) → IsReplay m bytes out → text ≡ out.text
    → out.faulty ≡ false → ReplayOwes m bytes text statuses.Done
owed m bytes text out replay is sound = (out, replay, is, sym (ap replay_status sound))

pub stops_and_goes_on : ((bytes : List ℕ) → WritesCheckpoints bytes) → ((bytes : List ℕ) → GoesOnFromCheckpoints bytes)
    → AlwaysStopsAndGoesOn
stops_and_goes_on writes goes bytes front text place comes stream =
    let whole = whole_replay bytes stream in
    let more = goes bytes front text place whole.0 comes whole.1 whole.2 in
    record {
      state = checkpoint_of place.state;
      more = more.0.text;
      stopped = owed checkpoint_machine (front ++ (turn npos_machine).spelling None) (checkpoint_of place.state) _
          (writes bytes front text place comes) refl refl;
      went_on = owed resume_machine (checkpoint_of place.state ++ place.rest) more.0.text more.0 more.1 refl more.2;
      whole = owed npos_machine bytes (text ++ more.0.text) whole.0 whole.1 (sym more.3) whole.2;
    }
