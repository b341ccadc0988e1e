use Rattle.std.proofs.Common.{◌≡◌, ℕ, ◌<◌, false}
use Rattle.election_check.specs.Kept.{reaches}
use Rattle.election_check.proofs.prescores.check_reached.Given as goal

-- none of the targets so far reaches the price outside
abbrev pub invariant-loop-target : goal.invariant-loop-target
invariant-loop-target l = (target : ℕ) → target < l.target → reaches l.price l.is_member l.prescores target ≡ false
