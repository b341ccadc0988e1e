use Rattle.std.proofs.Common.{◌≤◌, ◌-◌, vec_len}
use Rattle.block_wire.specs.Begun.{ReadsOn}
use Rattle.block_wire.proofs.begun.read_on.Given as goal

-- the cursor stands behind the items so far
abbrev pub invariant-items : goal.invariant-items
invariant-items g l = record {
  on : ReadsOn g.T.Wire.form l.initial.items.items l.initial.cursor l.items.items l.cursor;
  few : vec_len l.items ≤ l.count;
  forward : l.initial.cursor.at ≤ l.cursor.at;
}

abbrev pub decreases-items : goal.decreases-items
decreases-items g l = l.count - vec_len l.items
