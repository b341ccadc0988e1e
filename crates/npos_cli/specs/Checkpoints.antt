-- Replays that stop and go on: what is written of the state behind the last block, and the replay that
-- begins with it.
use Rattle.std.specs.Prelude.{◌≡◌, ℕ, false, List, [], ◌++◌, Option, Some, None, Result, Ok, Err, codes, decimal}
use Rattle.block_wire.specs.declared.block.Block.{Block}
use Rattle.block_wire.specs.declared.genesis.Genesis.{Genesis}
use Rattle.block_wire.specs.Calls.{block_form}
use Rattle.bundle_reports.specs.Verdicts.{verdict_numbers}
use Rattle.state_rules.specs.declared.state.State.{State}
use Rattle.state_checkpoint.specs.Layout.{state_form}
use Rattle.npos_runtime.specs.declared.chain.Chain.{Chain}
use Rattle.npos_runtime.specs.declared.state_fault.StateFault.{StateFault}
use Rattle.npos_runtime.specs.declared.state_fault.StateFault.TheVariants.{Cause, NotElected, NoMemory}
use Rattle.npos_runtime.specs.Kept.State.{kept}
use Rattle.npos_runtime.specs.Kept.Chain.{chain_of}
use Rattle.npos_runtime.specs.Rules.Outcome.{Election}
use Rattle.npos_runtime.specs.Kept.Restoring.{state_fault}
use Rattle.told_lines.specs.Texts.{newline, numbers_line}
use Rattle.npos_cli.specs.Chain.{npos_machine}
use Rattle.run_edges.specs.Replay.{Machine, Spot, turn, Starts, Reaches, Outcome, IsReplay, all_seated}

-- ## A replay that writes its last state

-- the bytes of the state that a chain keeps
abbrev pub checkpoint_of : Chain → List ℕ
checkpoint_of chain = state_form.spelling (kept chain)

-- the replay of a stream of which nothing is told but the state behind its last block
abbrev pub checkpoint_machine : Machine Genesis Block Chain Election
checkpoint_machine = record npos_machine {
  lines = λ chain block. [];
  ending = checkpoint_of;
}

-- ## A replay that goes on

-- the state has this fault; want of memory is none, and has no line
abbrev pub state_line : StateFault → List ℕ
state_line (Cause number detail) =
    codes "fault 0 checkpoint " ++ (decimal number ++ (codes " " ++ (decimal detail ++ newline)))
state_line (NotElected verdict) = numbers_line (codes "fault 0 checkpoint 11") (verdict_numbers verdict)
state_line NoMemory = []

-- the chain that goes on from a state, or the line of its first fault
abbrev pub resumed : Option StateFault → State → Result Chain (List ℕ)
resumed None state = Ok (chain_of state)
resumed (Some fault) state = Err (state_line fault)

-- a state stands in place of a genesis
abbrev pub resume_machine : Machine State Block Chain Election
resume_machine = record {
  genesis = state_form;
  block = block_form;
  start = λ state. resumed (state_fault state) state;
  number = npos_machine.number;
  due = npos_machine.due;
  after = npos_machine.after;
  lines = npos_machine.lines;
  seats = npos_machine.seats;
  ending = npos_machine.ending;
}

-- ## What holds of both

-- A replay of these bytes comes to a place behind a block, having read the front of them.
pub record ComesTo (bytes front text : List ℕ) (place : Spot Chain) : Type 0 where
  pub start : Spot Chain
  pub starts : Starts npos_machine bytes start
  pub reaches : Reaches npos_machine start place text
  pub cut : bytes ≡ front ++ place.rest

-- The stream that ends there has the checkpoint of the state at that place.
abbrev pub WritesCheckpoints : List ℕ → Type 0
WritesCheckpoints bytes = (front text : List ℕ) (place : Spot Chain) → (comes : ComesTo bytes front text place)
    → IsReplay checkpoint_machine (front ++ (turn npos_machine).spelling None) (record {
      text = checkpoint_of place.state;
      faulty = false;
      seated = all_seated npos_machine comes.start.state comes.reaches.blocks;
      last = Some place.state;
    })

-- What is told and seated from there on is what is told and seated by whoever goes on from that
-- checkpoint with the bytes that follow, wherever the stream is whole.
abbrev pub GoesOnFromCheckpoints : List ℕ → Type 0
GoesOnFromCheckpoints bytes = (front text : List ℕ) (place : Spot Chain) (whole : Outcome Chain Election)
    → (comes : ComesTo bytes front text place) → IsReplay npos_machine bytes whole → whole.faulty ≡ false
    → (more : Outcome Chain Election)
    × IsReplay resume_machine (checkpoint_of place.state ++ place.rest) more × (more.faulty ≡ false)
    × (whole.text ≡ text ++ more.text)
    × (whole.seated ≡ all_seated npos_machine comes.start.state comes.reaches.blocks ++ more.seated)

-- A checkpoint that is gone on from is the checkpoint of the chain that goes on.
abbrev pub StartsWithCheckpoints : List ℕ → Type 0
StartsWithCheckpoints bytes = (start : Spot Chain) → Starts resume_machine bytes start
    → bytes ≡ checkpoint_of start.state ++ start.rest
