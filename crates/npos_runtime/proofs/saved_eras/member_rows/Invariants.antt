use Rattle.std.proofs.Common.{◌≡◌, ◌++◌, map}
use Rattle.std.specs.Vec.Iter.{into_iter_items}
use Rattle.era_book.specs.Records.{entry_from}
use Rattle.npos_runtime.specs.Kept.State.{member_row}
use Rattle.npos_runtime.proofs.saved_eras.member_rows.Given as goal

-- the rows, and those of the members that are left, are the rows of all
abbrev pub invariant-loop-value : goal.invariant-loop-value
invariant-loop-value l =
    l.rows ++ map member_row (map entry_from (into_iter_items l.value-iterator)) ≡ map member_row (map entry_from l.fn.values)
