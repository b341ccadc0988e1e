use Rattle.std.proofs.Common.{◌≡◌, map, take}
use Rattle.account_places.specs.Places.{by_account}
use Rattle.state_rules.specs.Accounts.{AreNoted}
use Rattle.state_rules.specs.Roles.{is_bad_role, validators_in}
use Rattle.state_rules.proofs.ListLemmas.{IsAhead}
use Rattle.state_rules.proofs.roles.bad_role.Given as goal

-- the roles before are not wrong; their accounts are noted and their validators counted
abbrev pub invariant-loop-place : goal.invariant-loop-place
invariant-loop-place l = record {
  ahead : IsAhead (is_bad_role l.thresholds l.rows) l.roles l.place;
  noted : AreNoted (by_account l.seen.accounts) (map (λ role. role.who) (take l.place l.roles));
  counted : l.validators ≡ validators_in (take l.place l.roles);
}
