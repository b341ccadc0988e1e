use Rattle.std.proofs.Common.{◌≡◌, drop}
use Rattle.election_work.specs.Elections.{with_targets}
use Rattle.election_work.proofs.election.add_targets.Given as goal

abbrev pub invariant-loop-who : goal.invariant-loop-who
invariant-loop-who l = with_targets (drop l.who-index l.targets) l.builder ≡ with_targets l.targets l.fn.builder
