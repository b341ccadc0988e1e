use Rattle.std.proofs.Common.{◌≡◌, length}
use Rattle.npos_runtime.specs.Rules.Outcome.{told_after}
use Rattle.npos_runtime.specs.Live.{IsLive}
use Rattle.npos_runtime.specs.Rules.Offices.{applied}
use Rattle.npos_runtime.proofs.offices.apply_due.Given as goal

abbrev pub decreases-slashes : goal.decreases-slashes
decreases-slashes l = length l.chain.eras.queue

-- what is still to be applied leads to the same chain and lines
abbrev pub invariant-slashes : goal.invariant-slashes
invariant-slashes l = record {
  live : IsLive l.chain;
  told : told_after l.lines.items (applied (length l.chain.eras.queue) l.chain) ≡ told_after l.fn.lines.items (applied (length l.fn.chain.eras.queue) l.fn.chain);
}
