use Rattle.std.proofs.Common.{◌≡◌, take, map}
use Rattle.voter_lists.specs.Roles.{role_of, validators_of}
use Rattle.npos_runtime.specs.Rules.Ballots.{commission_in}
use Rattle.npos_runtime.proofs.ballot.commissions.Given as goal

-- the commissions of the validators so far
abbrev pub invariant-loop-i : goal.invariant-loop-i
invariant-loop-i l = l.noted.items ≡ map (λ who. commission_in (role_of l.roles who)) (take l.i (validators_of l.roles))
