use Rattle.std.proofs.Common.{◌≡◌, false, length}
use Rattle.npos_cli.specs.Checkpoints.{resume_machine}
use Rattle.run_edges.specs.Turning.{HasTold, spot}
use Rattle.npos_cli.proofs.resuming.take_blocks.Given as goal

-- the blocks so far lead from the start to here, and were told
abbrev pub invariant-turns : goal.invariant-turns
invariant-turns l = record {
  unspent : l.runtime.spent ≡ false;
  told : HasTold resume_machine (spot l.fn.cursor l.fn.runtime.state) (spot l.cursor l.runtime.state) l.fn.text.items l.text.items;
}

-- each block leaves fewer bytes
abbrev pub decreases-turns : goal.decreases-turns
decreases-turns l = length l.cursor.rest
