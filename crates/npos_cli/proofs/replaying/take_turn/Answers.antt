use Rattle.std.proofs.Common.{rules, ◌≡◌, ◌++◌, ◌+◌, true, false, Some, None}
use Rattle.scale_wire.specs.Reading.{IsRead, IsFault}
use Rattle.npos_runtime.specs.declared.runtime.BlockFault.TheVariants.{WrongNumber}
use Rattle.npos_runtime.specs.Life.{HasFault}
use Rattle.bundle_reports.specs.Texts.{fault_line}
use Rattle.run_edges.specs.Texts.{number_line}
use Rattle.run_edges.specs.Replay.{turn}
use Rattle.npos_cli.specs.Outputs.{machine_of}
use Rattle.run_edges.specs.Ahead.{IsSure}
use Rattle.run_edges.specs.Turning.{spot}
use Rattle.run_edges.proofs.TurnLaws.{none_turn, fault_turn}
use Rattle.npos_cli.proofs.WritLaws.{number_turn}
use Rattle.npos_cli.proofs.ChainLaws.{genesis_laws, turn_laws}
use Rattle.npos_cli.proofs.replaying.take_turn.Goals as goal
use Rattle.npos_cli.proofs.replaying.take_turn.Goals.{else-not-ended-via-then-not-ended+else-is_lone_none, else-not-ended-via-else-not-ended}

pub returns-in-Ok-End-clause-turn : goal.returns-in-Ok-End-clause-turn
returns-in-Ok-End-clause-turn c =
    let is : IsRead (turn (machine_of c.args.output)) c.args.reader.now None c.take_block.new.self = search rules in
    none_turn (machine_of c.args.output) genesis_laws turn_laws c.args.reader.now c.take_block.new.self
    (spot c.take_block.new.self c.args.runtime.now.state) c.args.runtime.now.state c.args.ended
    c.args.text.now.items c.tell_stop.new.text.items _ is
    (λ going alone. elim c.else-not-ended.branch [
      | else-not-ended-via-then-not-ended+else-is_lone_none w ↦
          let yes : w.is_lone_none.result ≡ true = w.is_lone_none.ensures.1 alone in
          let no : w.is_lone_none.result ≡ false = w.if-is_lone_none.false in cc
      | else-not-ended-via-else-not-ended w ↦ cc
    ])
    c.in_ok-tell_stop-in-Ok-End.ensures

pub returns-in-Err-Wire-clause-turn : goal.returns-in-Err-Wire-clause-turn
returns-in-Err-Wire-clause-turn c =
    let is : IsFault (turn (machine_of c.args.output)) c.args.reader.now c.in-Err-Wire.fault c.take_block.new.self = search rules in
    let sure : IsSure c.args.ended c.in-Err-Wire.fault.why = search rules in
    let told : c.tell_fault.new.text.items ≡ c.args.text.now.items ++ fault_line c.in-Err-Wire.fault.at c.in-Err-Wire.fault.why = search rules in
    fault_turn (machine_of c.args.output) genesis_laws turn_laws c.args.reader.now c.take_block.new.self
    (spot c.take_block.new.self c.args.runtime.now.state) c.args.runtime.now.state c.args.ended
    c.args.text.now.items c.tell_fault.new.text.items c.in-Err-Wire.fault is
    c.in-Err-Wire.ensures.bytes sure told

pub returns-in_ok-tell_other_number-in-Err-WrongNumber-clause-turn : goal.returns-in_ok-tell_other_number-in-Err-WrongNumber-clause-turn
returns-in_ok-tell_other_number-in-Err-WrongNumber-clause-turn c =
    let is : IsRead (turn (machine_of c.args.output)) c.args.reader.now (Some c.in-Ok-Block.block) c.take_block.new.self = search rules in
    let at : c.in-Ok-Block.at ≡ c.args.reader.now.at + 1 = search rules in
    let fault : HasFault c.args.runtime.now c.apply.new.self c.in-Ok-Block.block (WrongNumber c.in-Err-WrongNumber.due c.in-Err-WrongNumber.found) = search rules in
    let told : c.tell_other_number.new.text.items ≡ c.args.text.now.items ++ number_line c.in-Ok-Block.at c.in-Err-WrongNumber.due c.in-Err-WrongNumber.found = search rules in
    number_turn c.args.output c.args.reader.now c.take_block.new.self
    (spot c.take_block.new.self c.apply.new.self.state) c.args.runtime.now c.apply.new.self c.args.ended
    c.args.text.now.items c.tell_other_number.new.text.items
    c.in-Ok-Block.block c.in-Ok-Block.at c.in-Err-WrongNumber.due c.in-Err-WrongNumber.found is fault at told
