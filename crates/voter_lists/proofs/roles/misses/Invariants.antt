use Rattle.std.proofs.Common.{◌≡◌, false, take}
use Rattle.std.specs.List.{list_any}
use Rattle.voter_lists.specs.Roles.{is_no_target}
use Rattle.voter_lists.proofs.roles.misses.Given as goal

abbrev pub invariant-loop-i : goal.invariant-loop-i
invariant-loop-i l = list_any (λ target. is_no_target l.standings.roles l.who target) (take l.i l.targets) ≡ false
