use Rattle.std.proofs.Common.{◌≡◌, ◌≤◌, false, length}
use Rattle.run_edges.specs.Turning.{HasTold}
use Rattle.npos_cli.specs.Pooling.{pool_spot}
use Rattle.npos_cli.specs.Pools.{pool_machine}
use Rattle.npos_cli.proofs.pooling.take_items.Given as goal

-- the items so far lead from the start to here, and were told; each of them had a byte
abbrev pub invariant-items : goal.invariant-items
invariant-items l = record {
  unspent : l.pool.spent ≡ false;
  counted : l.asked ≤ l.cursor.at;
  told : HasTold pool_machine (pool_spot l.fn.cursor l.fn.asked l.fn.pool.state) (pool_spot l.cursor l.asked l.pool.state) l.fn.text.items l.text.items;
}

-- each item leaves fewer bytes
abbrev pub decreases-items : goal.decreases-items
decreases-items l = length l.cursor.rest
