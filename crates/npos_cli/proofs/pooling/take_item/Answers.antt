use Rattle.std.proofs.Common.{rules, ◌≡◌, ◌+◌, ◌≤◌, ◌++◌, false, Some, None}
use Rattle.scale_wire.specs.Form.{IsBytes}
use Rattle.scale_wire.specs.Reading.{IsRead, IsFault}
use Rattle.bundle_reports.specs.Texts.{fault_line}
use Rattle.run_edges.specs.Replay.{turn}
use Rattle.npos_cli.specs.Pools.{pool_machine}
use Rattle.npos_cli.specs.Pooling.{pool_spot}
use Rattle.run_edges.proofs.TurnLaws.{none_turn, fault_turn}
use Rattle.npos_cli.proofs.PoolLaws.{pool_laws, pool_turn_laws, item_room}
use Rattle.npos_cli.proofs.pooling.take_item.Goals as goal

pub returns-in-Ok-None-clause-turn : goal.returns-in-Ok-None-clause-turn
returns-in-Ok-None-clause-turn c =
    let is : IsRead (turn pool_machine) c.args.cursor.now None c.read.new.cursor = search rules in
    let no : c.is_open_none.result ≡ false = search rules in
    none_turn pool_machine pool_laws pool_turn_laws c.args.cursor.now c.read.new.cursor
    (pool_spot c.read.new.cursor c.args.asked.now c.args.pool.now.state)
    (record { asked = c.args.asked.now; pool = c.args.pool.now.state })
    c.args.ended c.args.text.now.items c.tell_stop.new.text.items _ is (search (rules, c.is_open_none.ensures.no no)) c.in_ok-tell_stop-in-Ok-None.ensures

pub returns-in-Err-Wire-clause-turn : goal.returns-in-Err-Wire-clause-turn
returns-in-Err-Wire-clause-turn c =
    let is : IsFault (turn pool_machine) c.args.cursor.now c.in-Err-Wire.fault c.read.new.cursor = search rules in
    let no : c.is_cut.result ≡ false = search rules in
    let bytes : IsBytes c.args.cursor.now.rest = search (rules, c.is_open_none.ensures.bytes) in
    let told : c.tell_fault.new.text.items ≡ c.args.text.now.items ++ fault_line c.in-Err-Wire.fault.at c.in-Err-Wire.fault.why = search rules in
    fault_turn pool_machine pool_laws pool_turn_laws c.args.cursor.now c.read.new.cursor
    (pool_spot c.read.new.cursor c.args.asked.now c.args.pool.now.state)
    (record { asked = c.args.asked.now; pool = c.args.pool.now.state })
    c.args.ended c.args.text.now.items c.tell_fault.new.text.items c.in-Err-Wire.fault is bytes (c.is_cut.ensures.no no) told

-- an item has at least its tag, and the place behind it is a number
pub overflow_add-asked : goal.overflow_add-asked
overflow_add-asked c =
    let is : IsRead (turn pool_machine) c.args.cursor.now (Some c.in-Ok-Some.item) c.read.new.cursor = search rules in
    let more : c.args.cursor.now.at + 1 ≤ c.read.new.cursor.at = item_room c.args.cursor.now c.read.new.cursor c.in-Ok-Some.item is in
    search rules
