use Rattle.std.proofs.Common.{◌≡◌, ◌≤◌, ◌+◌, length, vec_len, vec_capacity}
use Rattle.std.specs.Vec.Iter.{into_iter_items}
use Rattle.npos_runtime.specs.Rules.Outcome.{told_after}
use Rattle.npos_runtime.specs.Live.{IsLive}
use Rattle.npos_runtime.specs.Rules.Offices.{slashes}
use Rattle.npos_runtime.proofs.offices.slash_all.Given as goal

abbrev pub invariant-dues : goal.invariant-dues
invariant-dues l = record {
  live : IsLive l.chain;
  room : vec_len l.more + length (into_iter_items l.due-iterator) ≤ vec_capacity l.more;
  told : told_after l.more.items (slashes (into_iter_items l.due-iterator) l.chain) ≡ told_after l.fn.more.items (slashes l.fn.dues l.fn.chain);
}
