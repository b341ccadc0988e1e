use Rattle.std.proofs.Common.{◌≡◌, [], take}
use Rattle.state_rules.specs.Rounds.{draft_of}
use Rattle.npos_runtime.proofs.remade_polls.add_targets.Given as goal

-- the targets so far were added
abbrev pub invariant-loop-target : goal.invariant-loop-target
invariant-loop-target l = l.builder ≡ draft_of (take l.target-index l.targets) []
