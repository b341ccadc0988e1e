-- How the roles of accounts and their places in the bags change together.
use Rattle.std.specs.Prelude.{ℕ, Bool, not, ◌&&◌, is_some, true, false, if◌then◌else◌}
use Rattle.npos_base.specs.declared.account.AccountId.{AccountId}
use Rattle.stake_ledger.specs.Rows.{is_bonded}
use Rattle.stake_ledger.specs.Ledger.{Ledger, row_at}
use Rattle.voter_lists.specs.declared.standing.Role.{Role}
use Rattle.voter_lists.specs.declared.standing.Role.TheVariants as role
use Rattle.voter_lists.specs.Roles.{RoleList, standing_of, without_role}
use Rattle.voter_lists.specs.Bags.{Listing, is_listed, inserted, removed, updated}
use Rattle.npos_runtime.specs.declared.chain.Chain.{Chain}

abbrev pub has_role : RoleList → AccountId → Bool
has_role roles who = is_some (standing_of roles who)

abbrev pub is_role : Role → Bool
is_role role.Nobody = false
is_role role.Nominator = true
is_role (role.Validator commission) = true

abbrev pub is_nominator_role : Role → Bool
is_nominator_role role.Nominator = true
is_nominator_role other = false

abbrev pub is_validator_role : Role → Bool
is_validator_role (role.Validator commission) = true
is_validator_role other = false

-- a listed account goes to the tail of the bag of its score, where that is another bag
abbrev pub followed : Listing → AccountId → ℕ → Listing
followed listing who score = if is_listed listing.order who then updated listing who score else listing

-- a listed account leaves
abbrev pub unlisted : Listing → AccountId → Listing
unlisted listing who = if is_listed listing.order who then removed listing who else listing

-- an account joins the tail of the bag of its score, and leaves its old place first
abbrev pub listed_anew : Listing → AccountId → ℕ → Listing
listed_anew listing who score = inserted (unlisted listing who) who score

-- the bags after an account took a role: who had that role before keeps its place
abbrev pub placed : Bool → Listing → AccountId → ℕ → Listing
placed stays listing who score = if stays then listing else listed_anew listing who score

-- the books change, and the account's place in the bags follows its active stake
abbrev pub with_stake : Chain → AccountId → Ledger → Chain
with_stake chain who book =
    record chain { book = book; bags = followed chain.bags who (row_at book who).active }

-- the account has a role, and nothing is bonded behind it
abbrev pub is_over : Chain → AccountId → Bool
is_over chain who = has_role chain.roles who && not (is_bonded (row_at chain.book who))

-- such a role ends
abbrev pub retired : AccountId → Chain → Chain
retired who chain = record chain {
  roles = if is_over chain who then without_role chain.roles who else chain.roles;
  bags = if is_over chain who then removed chain.bags who else chain.bags;
}
