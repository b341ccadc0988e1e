use Rattle.std.proofs.Common.{◌≡◌, [], take}
use Rattle.voter_lists.specs.Roles.{validators_of}
use Rattle.npos_runtime.proofs.ballot.add_targets.Given as goal

-- the validators so far are the targets
abbrev pub invariant-loop-i : goal.invariant-loop-i
invariant-loop-i l = l.parts ≡ record { targets = take l.i (validators_of l.roles); voters = [] }
