use Rattle.std.proofs.Common.{rules, ◌≡◌, ◌+◌, ◌≤◌, ◌++◌, Some, None}
use Rattle.scale_wire.specs.Reading.{IsRead, IsFault}
use Rattle.npos_runtime.specs.declared.runtime.BlockFault.TheVariants.{WrongNumber}
use Rattle.npos_runtime.specs.Life.{HasFault}
use Rattle.bundle_reports.specs.Texts.{fault_line}
use Rattle.run_edges.specs.Texts.{number_line}
use Rattle.run_edges.specs.Replay.{turn}
use Rattle.npos_cli.specs.Checkpoints.{resume_machine}
use Rattle.run_edges.specs.Turning.{spot}
use Rattle.state_checkpoint.specs.LayoutLaws.{state_laws}
use Rattle.npos_cli.proofs.ChainLaws.{turn_laws}
use Rattle.npos_cli.proofs.GoingLaws.{stop_items, fault_item}
use Rattle.npos_cli.proofs.ResumeLaws.{other_block, block_room}
use Rattle.npos_cli.proofs.resuming.take_block.Goals as goal

pub returns-in-Ok-None-clause-turn : goal.returns-in-Ok-None-clause-turn
returns-in-Ok-None-clause-turn c =
    let is : IsRead (turn resume_machine) c.args.cursor.now None c.read.new.cursor = search rules in
    stop_items resume_machine state_laws turn_laws c.tell_stop.result c.args.cursor.now c.read.new.cursor (spot c.read.new.cursor c.args.runtime.now.state) c.args.runtime.now.state
    c.args.text.now.items c.tell_stop.new.text.items is c.tell_stop.ensures

pub returns-in-Err-Wire-clause-turn : goal.returns-in-Err-Wire-clause-turn
returns-in-Err-Wire-clause-turn c =
    let is : IsFault (turn resume_machine) c.args.cursor.now c.in-Err-Wire.fault c.read.new.cursor = search rules in
    let told : c.tell_fault.new.text.items ≡ c.args.text.now.items ++ fault_line c.in-Err-Wire.fault.at c.in-Err-Wire.fault.why = search rules in
    fault_item resume_machine state_laws turn_laws c.args.cursor.now c.read.new.cursor (spot c.read.new.cursor c.args.runtime.now.state) c.args.runtime.now.state
    c.args.text.now.items c.tell_fault.new.text.items c.in-Err-Wire.fault is told

pub returns-in_ok-tell_other_number-in-Err-WrongNumber-clause-turn : goal.returns-in_ok-tell_other_number-in-Err-WrongNumber-clause-turn
returns-in_ok-tell_other_number-in-Err-WrongNumber-clause-turn c =
    let is : IsRead (turn resume_machine) c.args.cursor.now (Some c.in-Ok-Some.block) c.read.new.cursor = search rules in
    let fault : HasFault c.args.runtime.now c.apply.new.self c.in-Ok-Some.block (WrongNumber c.in-Err-WrongNumber.due c.in-Err-WrongNumber.found) = search rules in
    let told : c.tell_other_number.new.text.items ≡ c.args.text.now.items ++ number_line (c.args.cursor.now.at + 1) c.in-Err-WrongNumber.due c.in-Err-WrongNumber.found = search rules in
    other_block c.args.cursor.now c.read.new.cursor c.args.runtime.now c.apply.new.self c.apply.new.self.state c.args.text.now.items c.tell_other_number.new.text.items
    c.in-Ok-Some.block c.in-Err-WrongNumber.due c.in-Err-WrongNumber.found is fault told

-- a block has at least its tag, and the place behind it is a number
pub overflow_add-at : goal.overflow_add-at
overflow_add-at c =
    let is : IsRead (turn resume_machine) c.args.cursor.now (Some c.in-Ok-Some.block) c.read.new.cursor = search rules in
    let more : c.args.cursor.now.at + 1 ≤ c.read.new.cursor.at = block_room c.args.cursor.now c.read.new.cursor c.in-Ok-Some.block is in
    search rules
