use Rattle.std.proofs.Common.{nat_lt, slice_index_or}
use Rattle.std.proofs.lemmas.List.Filters.{FiltersInPlace}
use Rattle.phragmms_miner.proofs.search.keep_above.Given as goal

-- those kept so far stand in front
abbrev pub invariant-loop-i : goal.invariant-loop-i
invariant-loop-i l = FiltersInPlace (λ target. nat_lt l.test (slice_index_or l.prescores target 0)) l.fn.alive l.alive l.count l.i
