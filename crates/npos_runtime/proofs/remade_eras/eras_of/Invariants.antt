use Rattle.std.proofs.Common.{◌≡◌, ◌++◌, ◌+◌, [], min}
use Rattle.std.specs.Vec.Iter.{into_iter_items}
use Rattle.npos_base.specs.declared.limits.TheConstants.{MOST_PAST_ERAS}
use Rattle.npos_runtime.specs.Kept.Chain.{eras_back}
use Rattle.npos_runtime.proofs.remade_eras.eras_of.Given as goal

-- the rows so far are the eras with members
abbrev pub invariant-loop-row : goal.invariant-loop-row
invariant-loop-row l = record {
  all : l.yielded ++ into_iter_items l.row-iterator ≡ l.fn.rows;
  made : l.book ≡ record {
    current = l.fn.last;
    kept = eras_back (min (l.fn.last + 1) (MOST_PAST_ERAS + 1)) l.fn.last l.yielded;
    queue = [];
    next_slash = l.fn.next_slash;
  };
}
