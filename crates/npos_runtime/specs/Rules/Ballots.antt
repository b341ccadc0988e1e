-- The snapshot of a round: who stands, who votes, and for whom, as roles, bags and active stakes
-- are at that moment.
use Rattle.std.specs.Prelude.{ℕ, Bool, List, map, filter, take, length, nat_lt, ◌&&◌}
use Rattle.npos_base.specs.declared.account.AccountId.{AccountId}
use Rattle.npos_base.specs.declared.limits.TheConstants.{MOST_VOTERS}
use Rattle.stake_ledger.specs.Ledger.{row_at}
use Rattle.voter_lists.specs.declared.standing.Role.{Role}
use Rattle.voter_lists.specs.declared.standing.Role.TheVariants as role
use Rattle.voter_lists.specs.Roles.{RoleList, role_of, validators_of}
use Rattle.voter_lists.specs.Votes.{votes_of}
use Rattle.voter_lists.specs.Bags.{walk}
use Rattle.election_snapshot.specs.Snapshot.{Voter, Snapshot}
use Rattle.election_snapshot.specs.Draft.{Draft, seated}
use Rattle.npos_runtime.specs.declared.chain.Chain.{Chain}
use Rattle.chain_params.specs.Rules.{seats_of}

abbrev pub active_of : Chain → AccountId → ℕ
active_of chain who = (row_at chain.book who).active

-- an account takes part where it has active stake and a vote
abbrev pub is_eligible : Chain → AccountId → Bool
is_eligible chain who = nat_lt 0 (active_of chain who) && nat_lt 0 (length (votes_of chain.roles who))

-- the first 16,384 eligible accounts of the walk over the bags
abbrev pub electorate : Chain → List AccountId
electorate chain = take MOST_VOTERS (filter (is_eligible chain) (walk chain.bags.order))

abbrev pub voter_of : Chain → AccountId → Voter
voter_of chain who = record { account = who; stake = active_of chain who; votes = votes_of chain.roles who }

-- all validators by rising account are the targets
abbrev pub ballot_of : Chain → Draft
ballot_of chain = record {
  targets = validators_of chain.roles;
  voters = map (voter_of chain) (electorate chain);
}

abbrev pub snapshot_of : Chain → Snapshot
snapshot_of chain = seated (ballot_of chain) (seats_of chain.params)

-- what a validator keeps of its rewards, in billionths
abbrev pub commission_in : Role → ℕ
commission_in (role.Validator commission) = commission
commission_in role.Nominator = 0
commission_in role.Nobody = 0

-- the commissions of the targets, in their order
abbrev pub commissions_of : RoleList → List ℕ
commissions_of roles = map (λ who. commission_in (role_of roles who)) (validators_of roles)
