use Rattle.std.proofs.Common.{◌≡◌, take}
use Rattle.state_rules.specs.Rounds.{draft_of}
use Rattle.npos_runtime.proofs.remade_polls.add_voters.Given as goal

-- the voters so far were added
abbrev pub invariant-loop-voter : goal.invariant-loop-voter
invariant-loop-voter l = l.builder ≡ draft_of l.targets (take l.voter-index l.voters)
