use Rattle.std.proofs.Common.{◌≡◌, ◌++◌, map}
use Rattle.std.specs.Vec.Iter.{into_iter_items}
use Rattle.chain_params.specs.Rules.{places_of}
use Rattle.npos_runtime.specs.Kept.Chain.{submission_in}
use Rattle.npos_runtime.proofs.remade_lists.queue_of.Given as goal

-- the submissions so far wait
abbrev pub invariant-loop-row : goal.invariant-loop-row
invariant-loop-row l = record {
  all : l.yielded ++ into_iter_items l.row-iterator ≡ l.fn.rows;
  made : l.queue ≡ record { items = map (submission_in l.params) l.yielded; places = places_of l.params };
}
