use Rattle.std.proofs.Common.{◌≡◌, ◌++◌, map}
use Rattle.std.specs.Vec.Iter.{into_iter_items}
use Rattle.stake_ledger.specs.BookRows.{entry_of}
use Rattle.stake_ledger.proofs.rows.Rows.from_values.Given as goal

-- the values so far are the rows
abbrev pub invariant-loop-value : goal.invariant-loop-value
invariant-loop-value l = record {
  all : l.yielded ++ into_iter_items l.value-iterator ≡ l.fn.values;
  made : l.rows ≡ map entry_of l.yielded;
}
