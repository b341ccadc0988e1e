-- Whom an account votes for.
use Rattle.std.specs.Prelude.{ℕ, List, [], ◌∷◌, filter_map, position, Option}
use Rattle.npos_base.specs.declared.account.AccountId.{AccountId}
use Rattle.npos_base.specs.Account.{same_account}
use Rattle.voter_lists.specs.declared.standing.Role.{Role}
use Rattle.voter_lists.specs.declared.standing.Role.TheVariants as role
use Rattle.voter_lists.specs.Roles.{RoleList, role_of, nominated_by, validators_of}

-- whom an account chooses: a validator itself alone, a nominator those that it named
abbrev pub choices_in : Role → AccountId → List AccountId → List AccountId
choices_in (role.Validator commission) who named = who ∷ []
choices_in role.Nominator who named = named
choices_in role.Nobody who named = []

abbrev pub choices_of : RoleList → AccountId → List AccountId
choices_of roles who = choices_in (role_of roles who) who (nominated_by roles who)

-- the rank of a validator is its place among all of them by rising account
abbrev pub rank_of : List AccountId → AccountId → Option ℕ
rank_of validators who = position (same_account who) validators

-- its votes are the ranks of its choices; a choice that is no validator now gets none
abbrev pub votes_of : RoleList → AccountId → List ℕ
votes_of roles who = filter_map (rank_of (validators_of roles)) (choices_of roles who)
