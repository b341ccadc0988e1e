use Rattle.std.proofs.Common.{◌≡◌, ◌++◌}
use Rattle.std.specs.Vec.Iter.{into_iter_items}
use Rattle.npos_runtime.proofs.remade_eras.put_slashes.Given as goal

-- the slashes so far wait
abbrev pub invariant-loop-slash : goal.invariant-loop-slash
invariant-loop-slash l = record {
  all : l.yielded ++ into_iter_items l.slash-iterator ≡ l.fn.slashes;
  made : l.book ≡ record l.fn.book { queue = l.yielded };
}
