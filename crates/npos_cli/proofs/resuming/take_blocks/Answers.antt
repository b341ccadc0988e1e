use Rattle.std.proofs.Common.{rules}
use Rattle.npos_cli.specs.declared.going.Turn.TheVariants.{Taken, Last}
use Rattle.npos_cli.specs.Checkpoints.{resume_machine}
use Rattle.npos_cli.specs.Going.{TakesItem}
use Rattle.run_edges.specs.Turning.{spot}
use Rattle.state_checkpoint.specs.LayoutLaws.{state_laws}
use Rattle.npos_cli.proofs.ChainLaws.{turn_laws}
use Rattle.npos_cli.proofs.GoingLaws.{item_longer, told_more, told_last}
use Rattle.npos_cli.proofs.resuming.take_blocks.Goals as goal

pub turns-preserved : goal.turns-preserved
turns-preserved c =
    let p = spot c.args.cursor.now c.args.runtime.now.state in
    let q = spot c.turns.cursor c.turns.runtime.state in
    let r = spot c.take_block.new.cursor c.take_block.new.runtime.state in
    let takes : TakesItem resume_machine q r c.turns.text.items c.take_block.new.text.items Taken = search rules in
    record {
      unspent = search rules;
      told = told_more resume_machine state_laws turn_laws p q r c.args.text.now.items c.turns.text.items c.take_block.new.text.items c.turns.invariant.told takes;
    }

pub turns-smaller : goal.turns-smaller
turns-smaller c =
    let q = spot c.turns.cursor c.turns.runtime.state in
    let r = spot c.take_block.new.cursor c.take_block.new.runtime.state in
    let takes : TakesItem resume_machine q r c.turns.text.items c.take_block.new.text.items Taken = search rules in
    (item_longer resume_machine state_laws turn_laws q r c.turns.text.items c.take_block.new.text.items takes).1

pub returns-in-Last : goal.returns-in-Last
returns-in-Last c =
    let p = spot c.args.cursor.now c.args.runtime.now.state in
    let q = spot c.turns.cursor c.turns.runtime.state in
    let r = spot c.take_block.new.cursor c.take_block.new.runtime.state in
    let takes : TakesItem resume_machine q r c.turns.text.items c.take_block.new.text.items (Last c.in-Last.faulty) = search rules in
    told_last resume_machine state_laws turn_laws p q r c.args.text.now.items c.turns.text.items c.take_block.new.text.items c.in-Last.faulty c.turns.invariant.told takes
