use Rattle.std.proofs.Common.{◌≡◌, [], take}
use Rattle.state_rules.specs.Rounds.{draft_of, is_refused_target}
use Rattle.state_rules.proofs.ListLemmas.{IsAhead}
use Rattle.state_rules.proofs.round.refuses_targets.Given as goal

-- the targets before were taken
abbrev pub invariant-loop-target : goal.invariant-loop-target
invariant-loop-target l = record {
  ahead : IsAhead is_refused_target l.targets l.target-index;
  taken : l.builder ≡ draft_of (take l.target-index l.targets) [];
}
