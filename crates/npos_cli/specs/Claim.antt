-- What is promised to those who stake on a run that goes over a stream: one record, for every verb that does.
use Rattle.std.specs.Prelude.{◌≡◌, ℕ, true, false, List, [], ◌++◌, flat_map, Option, Some, None}
use Rattle.npos_base.specs.Outside.{Told}
use Rattle.block_wire.specs.declared.block.Block.{Block}
use Rattle.block_wire.specs.declared.genesis.Genesis.{Genesis}
use Rattle.block_wire.specs.Genesis.{genesis_form}
use Rattle.stake_ledger.specs.Ledger.{totals_of}
use Rattle.npos_runtime.specs.declared.chain.Chain.{Chain}
use Rattle.npos_runtime.specs.Rules.Outcome.{Election}
use Rattle.npos_runtime.specs.Step.{after_blocks, told_by, seated_by}
use Rattle.npos_runtime.specs.Genesis.{genesis_chain}
use Rattle.npos_runtime.specs.Histories.Promise.{Keeps}
use Rattle.run_edges.specs.declared.status.Status.{Status}
use Rattle.run_edges.specs.Replay.{Machine, Outcome, IsReplay, turn}
use Rattle.npos_cli.specs.Chain.{npos_machine, line_text, end_line}
use Rattle.npos_cli.specs.Checkpoints.{checkpoint_machine, resume_machine, WritesCheckpoints, StartsWithCheckpoints}
use Rattle.npos_cli.specs.Resumable.{block_bytes}
use Rattle.npos_cli.specs.Resumed.{KeepsOn}
use Rattle.npos_cli.specs.Pools.{pool_machine, PoolsAreFair}
use Rattle.npos_cli.specs.Report.{IsAnswer}
use Rattle.run_edges.specs.Status.{replay_status}
use Rattle.run_edges.specs.Owed.{Delivers, DeliversFront}

-- What a run makes of these bytes, by whatever machine, whatever its status.
pub record Fulfills {G B S E : Type 0} (m : Machine G B S E) (Holds : Outcome S E → Type 0) (bytes : List ℕ)
    (old new : Option Told) (status : Status) : Type 0 where
  -- an answer: exactly the replay of the bytes was written and flushed, and the status is that of its end
  pub whole : IsAnswer status → (out : Outcome S E) × IsReplay m bytes out × Delivers old new out.text
      × (status ≡ replay_status out.faulty)
  -- no answer: a front of the replay was written, and nothing else
  pub front : (out : Outcome S E) → IsReplay m bytes out → DeliversFront old new out.text
  -- and this is known of the replay
  pub holds : (out : Outcome S E) → IsReplay m bytes out → Holds out

-- ## A chain from its genesis on

-- A replay of these bytes is that of this genesis and of these blocks, and their chain keeps all that is
-- promised, behind every block.
pub record TellsOf (genesis : Genesis) (blocks : List Block) (rest line bytes : List ℕ)
    (out : Outcome Chain Election) : Type 0 where
  -- the bytes are the two, and what stands behind them
  pub bytes_are : bytes ≡ genesis_form.spelling genesis ++ (block_bytes blocks ++ rest)
  -- the text is what the blocks tell, and a last line
  pub text_is : out.text ≡ flat_map line_text (told_by (genesis_chain genesis) blocks) ++ line
  pub seated_is : out.seated ≡ seated_by (genesis_chain genesis) blocks
  pub last_is : out.last ≡ Some (after_blocks (genesis_chain genesis) blocks)
  -- where the last line is no fault, nothing but the None stands behind the blocks, and it tells the sums
  pub ends : out.faulty ≡ false → (rest ≡ (turn npos_machine).spelling None)
      × (line ≡ end_line (totals_of (after_blocks (genesis_chain genesis) blocks).book))
  pub keeps : Keeps genesis blocks

-- the input began no chain, or its replay tells of one that keeps what is promised
pub data IsChained (bytes : List ℕ) (out : Outcome Chain Election) : Type 0 where
  Unbegun : out.last ≡ None → out.seated ≡ [] → out.faulty ≡ true → IsChained bytes out
  Begun : (genesis : Genesis) (blocks : List Block) (rest line : List ℕ)
      → TellsOf genesis blocks rest line bytes out → IsChained bytes out

abbrev pub IsPromised : List ℕ → Option Told → Option Told → Status → Type 0
IsPromised bytes = Fulfills npos_machine (IsChained bytes) bytes

-- so it is of the replay of any bytes
abbrev pub IsAlwaysChained : Type 0
IsAlwaysChained = (bytes : List ℕ) (out : Outcome Chain Election) → IsReplay npos_machine bytes out → IsChained bytes out

-- ## A chain that stops, or goes on, and a pool

abbrev pub IsCheckpointed : List ℕ → Option Told → Option Told → Status → Type 0
IsCheckpointed bytes = Fulfills checkpoint_machine (λ out. WritesCheckpoints bytes) bytes

abbrev pub IsResumed : List ℕ → Option Told → Option Told → Status → Type 0
IsResumed bytes = Fulfills resume_machine (λ out. KeepsOn bytes × StartsWithCheckpoints bytes) bytes

abbrev pub IsPooled : List ℕ → Option Told → Option Told → Status → Type 0
IsPooled bytes = Fulfills pool_machine (λ out. PoolsAreFair bytes) bytes
