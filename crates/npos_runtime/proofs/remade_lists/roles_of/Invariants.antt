use Rattle.std.proofs.Common.{◌≡◌, ◌++◌}
use Rattle.std.specs.Vec.Iter.{into_iter_items}
use Rattle.npos_runtime.specs.Kept.Chain.{roles_in}
use Rattle.npos_runtime.proofs.remade_lists.roles_of.Given as goal

-- the accounts so far have their roles
abbrev pub invariant-loop-row : goal.invariant-loop-row
invariant-loop-row l = record {
  all : l.yielded ++ into_iter_items l.row-iterator ≡ l.fn.rows;
  made : l.roles ≡ roles_in l.yielded;
}
