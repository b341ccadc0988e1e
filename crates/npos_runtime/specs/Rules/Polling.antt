-- The walk over the bags for a snapshot: what is there of it already, and what is ahead.
use Rattle.std.specs.Prelude.{◌≡◌, ◌-◌, ◌≤◌, List, ◌++◌, map, filter, take, length, if◌then◌else◌}
use Rattle.npos_base.specs.declared.account.AccountId.{AccountId}
use Rattle.npos_base.specs.declared.limits.TheConstants.{MOST_VOTERS}
use Rattle.voter_lists.specs.Roles.{validators_of}
use Rattle.election_snapshot.specs.Draft.{Draft, accounts_of, with_voter}
use Rattle.npos_runtime.specs.declared.chain.Chain.{Chain}
use Rattle.voter_lists.specs.Votes.{votes_of}
use Rattle.npos_runtime.specs.Rules.Ballots.{active_of, is_eligible, electorate, voter_of}
use Rattle.npos_runtime.specs.Live.{IsOnce}

-- the draft with the voter of this account, if it is eligible
abbrev pub polled : Chain → Draft → AccountId → Draft
polled chain draft who =
    if is_eligible chain who then with_voter draft who (active_of chain who) (votes_of chain.roles who)
    else draft

-- the draft has the targets, and the voters of the walk up to what is ahead
pub record IsPolled (chain : Chain) (draft : Draft) (ahead : List AccountId) : Type 0 where
  pub targets : draft.targets ≡ validators_of chain.roles
  pub voters : draft.voters ≡ map (voter_of chain) (accounts_of draft.voters)
  pub few : length draft.voters ≤ MOST_VOTERS
  pub once : IsOnce (accounts_of draft.voters ++ ahead)
  pub rest : accounts_of draft.voters
      ++ take (MOST_VOTERS - length draft.voters) (filter (is_eligible chain) ahead) ≡ electorate chain
