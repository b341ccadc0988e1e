use Rattle.std.proofs.Common.{◌≡◌, ◌++◌, map}
use Rattle.std.specs.Vec.Iter.{into_iter_items}
use Rattle.era_book.specs.Records.{entry_from}
use Rattle.npos_runtime.specs.Kept.Chain.{member_entry}
use Rattle.npos_runtime.proofs.remade_eras.records_of.Given as goal

-- the rows so far are the members
abbrev pub invariant-loop-row : goal.invariant-loop-row
invariant-loop-row l = record {
  all : l.yielded ++ into_iter_items l.row-iterator ≡ l.fn.rows;
  made : map entry_from l.records.items ≡ map member_entry l.yielded;
}
