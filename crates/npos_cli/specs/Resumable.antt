-- Streams that are whole for who stops, and for who goes on.
use Rattle.std.specs.Prelude.{ℕ, List, ◌++◌, flat_map, Some, None}
use Rattle.block_wire.specs.declared.block.Block.{Block}
use Rattle.npos_runtime.specs.declared.chain.Chain.{Chain}
use Rattle.npos_runtime.specs.Kept.Savable.{IsSavable}
use Rattle.npos_runtime.specs.Kept.Soundness.{AreNext}
use Rattle.run_edges.specs.Replay.{Spot, turn}
use Rattle.npos_cli.specs.Chain.{npos_machine}
use Rattle.run_edges.specs.Streams.{IsStream}
use Rattle.npos_cli.specs.declared.job.Job.TheVariants as jobs
use Rattle.run_edges.specs.declared.status.Status.TheVariants as statuses
use Rattle.npos_cli.specs.Report.{JobOwes}
use Rattle.npos_cli.specs.Checkpoints.{checkpoint_of, checkpoint_machine, resume_machine, ComesTo}

-- A stream that is whole for a replay is whole for one that writes its last state.
abbrev pub StaysWhole : List ℕ → Type 0
StaysWhole bytes = IsStream npos_machine bytes → IsStream checkpoint_machine bytes

-- The checkpoint of any place in a whole stream, and the bytes behind that place, are a whole stream
-- for whoever goes on from there.
abbrev pub GoesOnWhole : List ℕ → Type 0
GoesOnWhole bytes = (front text : List ℕ) (place : Spot Chain) → ComesTo bytes front text place
    → IsStream npos_machine bytes → IsStream resume_machine (checkpoint_of place.state ++ place.rest)

-- blocks as they stand in a stream, each in its Option
abbrev pub block_bytes : List Block → List ℕ
block_bytes blocks = flat_map (λ block. (turn npos_machine).spelling (Some block)) blocks

-- The checkpoint of any chain that can be saved, then blocks whose numbers are due, and the None are
-- a whole stream.
abbrev pub EachGoesOn : Type 0
EachGoesOn = (chain : Chain) (blocks : List Block) → IsSavable chain → AreNext chain.due blocks
    → IsStream resume_machine
    (checkpoint_of chain ++ (block_bytes blocks ++ (turn npos_machine).spelling None))

-- To stop and go on, as one: cut a whole stream behind any block. What `checkpoint` writes of the front
-- and a None, `resume` answers with the bytes that follow; both are done, and the text of the front and
-- what `resume` writes are the text of the whole. These are what the jobs owe, so it is what their runs
-- write where nothing cuts them off.
pub record StopsAndGoesOn (bytes front text : List ℕ) (rest : List ℕ) : Type 0 where
  pub state : List ℕ
  pub more : List ℕ
  pub stopped : JobOwes (Some jobs.Checkpoint) (front ++ (turn npos_machine).spelling None) state statuses.Done
  pub went_on : JobOwes (Some jobs.Resume) (state ++ rest) more statuses.Done
  pub whole : JobOwes (Some jobs.Replay) bytes (text ++ more) statuses.Done

abbrev pub AlwaysStopsAndGoesOn : Type 0
AlwaysStopsAndGoesOn = (bytes front text : List ℕ) (place : Spot Chain) → ComesTo bytes front text place
    → IsStream npos_machine bytes → StopsAndGoesOn bytes front text place.rest
