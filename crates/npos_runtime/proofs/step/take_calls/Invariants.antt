use Rattle.std.proofs.Common.{◌≡◌, ◌+◌, ◌≤◌, length}
use Rattle.std.specs.Vec.Iter.{into_iter_items}
use Rattle.npos_runtime.specs.Rules.Outcome.{told_after}
use Rattle.npos_runtime.specs.Step.{calls_outcome}
use Rattle.npos_runtime.specs.Live.{IsLive, CanDefer}
use Rattle.npos_runtime.proofs.step.take_calls.Given as goal

abbrev pub invariant-turns : goal.invariant-turns
invariant-turns l = record {
  live : IsLive l.chain;
  numbers : l.chain.next + length (into_iter_items l.call-iterator) ≤ l.fn.chain.next + length l.fn.calls.items;
  slashes : CanDefer l.chain;
  slash_numbers : l.chain.eras.next_slash + length (into_iter_items l.call-iterator) ≤ l.fn.chain.eras.next_slash + length l.fn.calls.items;
  counted : l.index + length (into_iter_items l.call-iterator) ≡ length l.fn.calls.items;
  told : told_after l.lines.items (calls_outcome l.index (into_iter_items l.call-iterator) l.chain) ≡ told_after l.fn.lines.items (calls_outcome 0 l.fn.calls.items l.fn.chain);
}
