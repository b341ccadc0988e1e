use Rattle.std.proofs.Common.{◌≡◌, map, take}
use Rattle.state_rules.specs.Rounds.{Target}
use Rattle.npos_runtime.proofs.remade_polls.commissions_of.Given as goal

-- the commissions of the targets so far
abbrev pub invariant-loop-target : goal.invariant-loop-target
invariant-loop-target l = l.noted.items ≡ map (λ (target : Target). target.1) (take l.target-index l.targets)
