-- What is owed for a checkpoint and the blocks behind it, by what was read of them and told.
use Rattle.std.proofs.Common.{◌≡◌, ◌≢◌, ℕ, ◌+◌, ◌≤◌, List, ◌∷◌, ◌++◌, length, flat_map, Option, Some, None, Ok, refl, sym, ◌∙◌, ap, true, arith}
use Rattle.block_wire.specs.Calls.{block_form}
use Rattle.scale_wire.specs.Reading.{Place, IsRead}
use Rattle.block_wire.specs.declared.block.Block.{Block}
use Rattle.block_receipts.specs.declared.line.Line.{Line}
use Rattle.state_rules.specs.declared.state.State.{State}
use Rattle.state_checkpoint.specs.Layout.{state_form}
use Rattle.npos_runtime.specs.declared.chain.Chain.{Chain}
use Rattle.npos_runtime.specs.declared.runtime.BlockFault.TheVariants.{WrongNumber}
use Rattle.npos_runtime.specs.declared.state_fault.StateFault.{StateFault}
use Rattle.npos_runtime.specs.declared.state_fault.StateFault.TheVariants.{NoMemory}
use Rattle.npos_runtime.specs.Kept.Chain.{chain_of}
use Rattle.npos_runtime.specs.Life.{Life, AppliesWell, HasFault}
use Rattle.npos_runtime.specs.Kept.Restoring.{state_fault, IsDueFault}
use Rattle.npos_cli.specs.declared.going.Turn.TheVariants.{Taken, Last}
use Rattle.run_edges.specs.declared.status.Status.{Status}
use Rattle.run_edges.specs.declared.status.Status.TheVariants as statuses
use Rattle.run_edges.specs.Texts.{number_line}
use Rattle.npos_cli.specs.Chain.{line_text}
use Rattle.npos_cli.specs.Checkpoints.{state_line, resumed, resume_machine}
use Rattle.run_edges.specs.Replay.{turn, behind, Starts}
use Rattle.run_edges.specs.Owed.{ReplayOwes}
use Rattle.run_edges.specs.Ahead.{first_place}
use Rattle.run_edges.specs.Turning.{spot}
use Rattle.npos_cli.specs.Going.{TakesItem}
use Rattle.run_edges.proofs.ReplayLaws.{same_spot}
use Rattle.npos_cli.proofs.GoingLaws.{number_item, faulty_input, input_starts}
use Rattle.state_checkpoint.specs.LayoutLaws.{state_laws}
use Rattle.npos_cli.proofs.ChainLaws.{turn_laws}

pub taken_block : (old here : Place) (life after : Life) (before told : List ℕ) (block : Block) (lines : List Line) → IsRead (turn resume_machine) old (Some block) here
    → AppliesWell life after block lines → told ≡ before ++ flat_map line_text lines
    → TakesItem resume_machine (spot old life.state) (spot here after.state) before told Taken
taken_block old here life after before told block lines is applies told_is =
    let p = spot old life.state in
    let q = spot here after.state in (
      block,
      record { in_range = is.in_range; numbered = applies.numbered; whole = is.whole },
      same_spot q (behind resume_machine p block here.rest) is.at_is (ap (λ (l : Life). l.state) applies.new_is) refl,
      told_is ∙ ap (λ all. before ++ flat_map line_text all) applies.lines_are,
    )

pub other_block : (old here : Place) (life after : Life) (chain : Chain) (before told : List ℕ) (block : Block) (due found : ℕ) → IsRead (turn resume_machine) old (Some block) here
    → HasFault life after block (WrongNumber due found) → told ≡ before ++ number_line (old.at + 1) due found
    → TakesItem resume_machine (spot old life.state) (spot here chain) before told (Last true)
other_block old here life after chain before told block due found is fault told_is =
    number_item resume_machine state_laws turn_laws old here (spot here chain) life.state before told block is (λ e. fault.3 (fault.2 ∙ (e ∙ sym fault.1)))
    (told_is ∙ (λ i. before ++ number_line (old.at + 1) (fault.1 i) (fault.2 i)))

pub faulty_state : (bytes text : List ℕ) (place : Place) (state : State) (fault : StateFault) (status : Status) → IsRead state_form (first_place bytes) state place
    → IsDueFault (state_fault state) fault → fault ≢ NoMemory → text ≡ state_line fault → status ≡ statuses.BadInput → ReplayOwes resume_machine bytes text status
faulty_state bytes text place state fault status is due not_memory text_is status_is =
    faulty_input resume_machine state_laws turn_laws bytes text (state_line fault) place state status is
    (ap (λ (o : Option StateFault). resumed o state) (due not_memory)) text_is status_is

pub state_starts : (bytes : List ℕ) (place : Place) (state : State) (chain : Chain) → IsRead state_form (first_place bytes) state place → state_fault state ≡ None
    → chain ≡ chain_of state → Starts resume_machine bytes (spot place chain)
state_starts bytes place state chain is sound chain_is =
    input_starts resume_machine state_laws turn_laws bytes place state chain is
    (ap (λ (o : Option StateFault). resumed o state) sound ∙ ap (λ (c : Chain). Ok c) (sym chain_is))

more_behind : (at now : ℕ) (xs : List ℕ) → now ≡ at + length (1 ∷ xs) → at + 1 ≤ now
more_behind at now xs e = omega (arith, e)

-- a block has at least its tag
pub block_room : (old here : Place) (block : Block) → IsRead (turn resume_machine) old (Some block) here → old.at + 1 ≤ here.at
block_room old here block is = more_behind old.at here.at (block_form.spelling block) is.at_is
