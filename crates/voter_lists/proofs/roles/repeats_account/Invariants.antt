use Rattle.std.proofs.Common.{◌≡◌, length}
use Rattle.voter_lists.specs.Roles.{has_repeated_account}
use Rattle.voter_lists.proofs.roles.repeats_account.Given as goal

abbrev pub invariant-loop-first : goal.invariant-loop-first
invariant-loop-first l = has_repeated_account l.rest ≡ has_repeated_account l.fn.accounts

abbrev pub decreases-loop-first : goal.decreases-loop-first
decreases-loop-first l = length l.rest
