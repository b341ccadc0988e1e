-- The replay of a whole stream ends with its end line, so a run that is not cut off is done.
use Rattle.std.proofs.Common.{◌≡◌, ◌⊎◌, inl, inr, ℕ, false, List, [], ◌∷◌, ◌++◌, Option, Some, refl, ◌∙◌, ap, subst}
use Rattle.npos_base.specs.Outside.{Told, Rose}
use Rattle.scale_wire.specs.Form.{IsWire}
use Rattle.npos_cli.specs.declared.job.Job.{Job}
use Rattle.npos_cli.specs.declared.job.Job.TheVariants as jobs
use Rattle.run_edges.specs.declared.status.Status.{Status}
use Rattle.run_edges.specs.declared.status.Status.TheVariants as statuses
use Rattle.block_wire.specs.declared.block.Block.{Block}
use Rattle.npos_runtime.specs.declared.chain.Chain.{Chain}
use Rattle.run_edges.specs.Replay.{Machine, Spot, turn, behind, Passes, all_seated, Outcome, IsReplay, Replayed, Ended}
use Rattle.npos_cli.specs.Chain.{npos_machine}
use Rattle.npos_cli.specs.Checkpoints.{checkpoint_machine, resume_machine}
use Rattle.npos_cli.specs.Pools.{pool_machine}
use Rattle.npos_cli.specs.Report.{JobOwes, ReadsInput, IsAnswer}
use Rattle.run_edges.specs.Owed.{ReplayOwes, IsAll}
use Rattle.run_edges.specs.Status.{replay_status}
use Rattle.npos_cli.specs.Owed.{AnswersFor}
use Rattle.run_edges.specs.Streams.{IsStream, LeavesStream}
use Rattle.run_edges.proofs.ReplayLaws.{one_replay}
use Rattle.state_checkpoint.specs.LayoutLaws.{state_laws}
use Rattle.npos_cli.proofs.ChainLaws.{genesis_laws, turn_laws}
use Rattle.npos_cli.proofs.PoolLaws.{pool_laws, pool_turn_laws}

module _ {G B S E : Type 0} (m : Machine G B S E) (start_laws : IsWire m.genesis) (item_laws : IsWire (turn m)) (job : Option Job)
    (owes : (bytes text : List ℕ) (status : Status) → JobOwes job bytes text status → ReplayOwes m bytes text status) where
  -- no replay of a whole stream ends with a fault line
  stream_sound : (bytes : List ℕ) (out : Outcome S E) → IsStream m bytes → IsReplay m bytes out → out.faulty ≡ false
  stream_sound bytes out stream replay =
      let whole : Outcome S E = record {
        text = stream.text ++ m.ending stream.place.state;
        faulty = false;
        seated = all_seated m stream.start.state stream.reaches.blocks;
        last = Some stream.place.state;
      } in
      ap (λ (o : Outcome S E). o.faulty)
      (one_replay m start_laws item_laws bytes out whole replay
      (Replayed stream.start stream.place stream.text (m.ending stream.place.state) false stream.starts stream.reaches (Ended stream.ended refl refl) refl))

  answer_done : (left : Option (List ℕ)) (old new : Option Told) (status : Status) → LeavesStream m left → AnswersFor job left old new status → status ≡ statuses.Done
  answer_done left old new status stream answers =
      let finds = answers.1 in
      let all : finds.0 ≡ stream.0 = subst (λ (l : Option (List ℕ)). IsAll l finds.0) stream.1 finds.1 in
      let found = owes finds.0 answers.0 status finds.2 in
      let replay : IsReplay m stream.0 found.0 = subst (λ (bytes : List ℕ). IsReplay m bytes found.0) all found.1 in
      found.3 ∙ ap replay_status (stream_sound stream.0 found.0 stream.2 replay)

  ends_done : (asked : Option Job) (left : Option (List ℕ)) (old new : Option Told) (reads read writes wrote : ℕ) (status : Status)
      → asked ≡ job → LeavesStream m left → (Rose reads read → ⊥) → (Rose writes wrote → ⊥)
      → (IsAnswer status → AnswersFor asked left old new status) → (status ≡ statuses.ReadFault → ReadsInput asked × Rose reads read) → (status ≡ statuses.WriteFault → Rose writes wrote)
      → (status ≡ statuses.Done) ⊎ (status ≡ statuses.NoMemory)
  ends_done asked left old new reads read writes wrote statuses.ReadFault is stream no_read no_write answers fails_read fails_write = absurd (no_read (fails_read refl).1)
  ends_done asked left old new reads read writes wrote statuses.WriteFault is stream no_read no_write answers fails_read fails_write = absurd (no_write (fails_write refl))
  ends_done asked left old new reads read writes wrote statuses.NoMemory is stream no_read no_write answers fails_read fails_write = inr refl
  ends_done asked left old new reads read writes wrote statuses.Done is stream no_read no_write answers fails_read fails_write = inl refl
  ends_done asked left old new reads read writes wrote statuses.No is stream no_read no_write answers fails_read fails_write =
      inl (answer_done left old new statuses.No stream (subst (λ (j : Option Job). AnswersFor j left old new statuses.No) is (answers tt)))
  ends_done asked left old new reads read writes wrote statuses.Usage is stream no_read no_write answers fails_read fails_write =
      inl (answer_done left old new statuses.Usage stream (subst (λ (j : Option Job). AnswersFor j left old new statuses.Usage) is (answers tt)))
  ends_done asked left old new reads read writes wrote statuses.BadInput is stream no_read no_write answers fails_read fails_write =
      inl (answer_done left old new statuses.BadInput stream (subst (λ (j : Option Job). AnswersFor j left old new statuses.BadInput) is (answers tt)))

pub stream_done : (job : Option Job) (left : Option (List ℕ)) (old new : Option Told) (reads read writes wrote : ℕ) (status : Status)
    → job ≡ Some jobs.Replay → LeavesStream npos_machine left → (Rose reads read → ⊥) → (Rose writes wrote → ⊥)
    → (IsAnswer status → AnswersFor job left old new status) → (status ≡ statuses.ReadFault → ReadsInput job × Rose reads read) → (status ≡ statuses.WriteFault → Rose writes wrote)
    → (status ≡ statuses.Done) ⊎ (status ≡ statuses.NoMemory)
stream_done = ends_done npos_machine genesis_laws turn_laws (Some jobs.Replay) (λ bytes text status owes. owes)

pub pool_done : (job : Option Job) (left : Option (List ℕ)) (old new : Option Told) (reads read writes wrote : ℕ) (status : Status)
    → job ≡ Some jobs.Pools → LeavesStream pool_machine left → (Rose reads read → ⊥) → (Rose writes wrote → ⊥)
    → (IsAnswer status → AnswersFor job left old new status) → (status ≡ statuses.ReadFault → ReadsInput job × Rose reads read) → (status ≡ statuses.WriteFault → Rose writes wrote)
    → (status ≡ statuses.Done) ⊎ (status ≡ statuses.NoMemory)
pool_done = ends_done pool_machine pool_laws pool_turn_laws (Some jobs.Pools) (λ bytes text status owes. owes)

-- a stream has a checkpoint too
silent_passes : (blocks : List Block) (p q : Spot Chain) (text : List ℕ) → Passes npos_machine blocks p q text → Passes checkpoint_machine blocks p q []
silent_passes [] p q text passes = (passes.0, refl)
silent_passes (block ∷ blocks) p q text passes = (
  passes.0,
  record { in_range = passes.1.in_range; numbered = passes.1.numbered; whole = passes.1.whole },
  [],
  silent_passes blocks (behind npos_machine p block passes.0) q passes.2 passes.3,
  refl,
)

silent_stream : (bytes : List ℕ) → IsStream npos_machine bytes → IsStream checkpoint_machine bytes
silent_stream bytes stream = record {
  start = stream.start;
  place = stream.place;
  text = [];
  starts = record {
    genesis = stream.starts.genesis;
    in_range = stream.starts.in_range;
    state_is = stream.starts.state_is;
    whole = stream.starts.whole;
    at_is = stream.starts.at_is;
  };
  reaches = record {
    blocks = stream.reaches.blocks;
    passes = silent_passes stream.reaches.blocks stream.start stream.place stream.text stream.reaches.passes;
  };
  ended = stream.ended;
}

pub checkpoint_done : (job : Option Job) (left : Option (List ℕ)) (old new : Option Told) (reads read writes wrote : ℕ) (status : Status)
    → job ≡ Some jobs.Checkpoint → LeavesStream npos_machine left → (Rose reads read → ⊥) → (Rose writes wrote → ⊥)
    → (IsAnswer status → AnswersFor job left old new status) → (status ≡ statuses.ReadFault → ReadsInput job × Rose reads read) → (status ≡ statuses.WriteFault → Rose writes wrote)
    → (status ≡ statuses.Done) ⊎ (status ≡ statuses.NoMemory)
checkpoint_done job left old new reads read writes wrote status is stream =
    ends_done checkpoint_machine genesis_laws turn_laws (Some jobs.Checkpoint) (λ bytes text status owes. owes) job left old new reads read writes wrote status is
    (stream.0, stream.1, silent_stream stream.0 stream.2)

pub resume_done : (job : Option Job) (left : Option (List ℕ)) (old new : Option Told) (reads read writes wrote : ℕ) (status : Status)
    → job ≡ Some jobs.Resume → LeavesStream resume_machine left → (Rose reads read → ⊥) → (Rose writes wrote → ⊥)
    → (IsAnswer status → AnswersFor job left old new status) → (status ≡ statuses.ReadFault → ReadsInput job × Rose reads read) → (status ≡ statuses.WriteFault → Rose writes wrote)
    → (status ≡ statuses.Done) ⊎ (status ≡ statuses.NoMemory)
resume_done = ends_done resume_machine state_laws turn_laws (Some jobs.Resume) (λ bytes text status owes. owes)
