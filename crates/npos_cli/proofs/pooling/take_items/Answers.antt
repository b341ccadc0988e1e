use Rattle.std.proofs.Common.{rules}
use Rattle.run_edges.specs.declared.turn.Turn.TheVariants.{Taken}
use Rattle.npos_cli.specs.Pools.{pool_machine}
use Rattle.npos_cli.specs.Pooling.{pool_spot}
use Rattle.run_edges.specs.Turning.{TakesTurn}
use Rattle.run_edges.proofs.IntakeLaws.{told_more}
use Rattle.npos_cli.proofs.PoolLaws.{pool_laws, pool_turn_laws}
use Rattle.npos_cli.proofs.pooling.take_items.Goals as goal

pub items-preserved : goal.items-preserved
items-preserved c =
    let p = pool_spot c.args.cursor.now c.args.asked.now c.args.pool.now.state in
    let q = pool_spot c.items.cursor c.items.asked c.items.pool.state in
    let r = pool_spot c.take_item.new.cursor c.take_item.new.asked c.take_item.new.pool.state in
    let takes : TakesTurn pool_machine c.args.ended q r c.items.text.items c.take_item.new.text.items Taken = search rules in
    record {
      unspent = search rules;
      counted = search rules;
      told = told_more pool_machine pool_laws pool_turn_laws c.args.ended p q r c.args.text.now.items c.items.text.items c.take_item.new.text.items c.items.invariant.told takes;
    }
