use Rattle.std.proofs.Common.{◌≡◌, ◌++◌, map}
use Rattle.voter_lists.specs.Bags.{walk}
use Rattle.npos_runtime.proofs.Kept.SavedLemmas.{row_in}
use Rattle.npos_runtime.proofs.saved_roles.role_rows.Given as goal

-- the accounts so far have their rows
abbrev pub invariant-loop-who : goal.invariant-loop-who
invariant-loop-who l = record {
  all : l.yielded ++ l.who-iterator ≡ walk l.bags.order;
  made : l.rows ≡ map (row_in l.roles l.bags.order) l.yielded;
}
