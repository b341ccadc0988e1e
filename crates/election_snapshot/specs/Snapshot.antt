-- The instance of one election, after Cevallos and Stewart: targets, voters with their stakes and
-- nominations, and seats.
use Rattle.std.specs.Prelude.{ℕ, ◌*◌, ◌/◌, ◌^◌, ◌<◌, ◌≤◌, Bool, nat_eq, List, [], length, map, sum_by, All, slice_index_or}
use Rattle.std.specs.List.{list_any, IsDistinct}
use Rattle.npos_base.specs.declared.account.AccountId.{AccountId}
use Rattle.npos_base.specs.Account.{same_account}
use Rattle.npos_base.specs.declared.limits.TheConstants.{MOST_NOMINATIONS, MOST_TARGETS, MOST_VOTERS, MOST_SEATS}

-- an account with its stake and its nominations, which are positions of targets
pub record Voter : Type 0 where
  pub account : AccountId
  pub stake : ℕ
  pub votes : List ℕ

pub record Snapshot : Type 0 where
  pub targets : List AccountId
  pub voters : List Voter
  pub seats : ℕ

-- what is past the last voter, and past the last target
abbrev pub no_account : AccountId
no_account = record { hi = 0; lo = 0 }

abbrev pub nobody : Voter
nobody = record { account = no_account; stake = 0; votes = [] }

abbrev pub voter_at : Snapshot → ℕ → Voter
voter_at snapshot n = slice_index_or snapshot.voters n nobody

abbrev pub stake_of : Snapshot → ℕ → ℕ
stake_of snapshot n = (voter_at snapshot n).stake

abbrev pub votes_of : Snapshot → ℕ → List ℕ
votes_of snapshot n = (voter_at snapshot n).votes

-- the number stands in the list
abbrev pub has : List ℕ → ℕ → Bool
has numbers number = list_any (λ other. nat_eq other number) numbers

abbrev pub nominates : Snapshot → ℕ → ℕ → Bool
nominates snapshot voter target = has (votes_of snapshot voter) target

abbrev pub stakes_of : List Voter → List ℕ
stakes_of voters = map (λ voter. voter.stake) voters

abbrev pub total_of : List Voter → ℕ
total_of voters = sum_by (λ voter. voter.stake) voters

abbrev pub total_stake : Snapshot → ℕ
total_stake snapshot = total_of snapshot.voters

-- the stake that one seat stands for
abbrev pub threshold : Snapshot → ℕ
threshold snapshot = total_stake snapshot / snapshot.seats

-- a voter has stake, and nominates different targets, one at least and no more than MOST_NOMINATIONS
pub record IsVoterOf (targets : ℕ) (voter : Voter) : Type 0 where
  pub stake_above : 0 < voter.stake
  pub some_votes : 1 ≤ length voter.votes
  pub few_votes : length voter.votes ≤ MOST_NOMINATIONS
  pub votes_in_range : All (λ target. target < targets) voter.votes
  pub votes_distinct : IsDistinct nat_eq voter.votes

-- targets and voters of an election before its seats are known
pub record AreVotersOf (targets : List AccountId) (voters : List Voter) : Type 0 where
  pub targets_few : length targets ≤ MOST_TARGETS
  pub targets_distinct : IsDistinct same_account targets
  pub voters_few : length voters ≤ MOST_VOTERS
  pub accounts_distinct : IsDistinct same_account (map (λ voter. voter.account) voters)
  pub each_voter : All (IsVoterOf (length targets)) voters
  pub total_fits : total_of voters < 2 ^ 64

pub record IsWellFormed (snapshot : Snapshot) : Type 0 where
  pub voters : AreVotersOf snapshot.targets snapshot.voters
  pub seats_some : 1 ≤ snapshot.seats
  pub seats_few : snapshot.seats ≤ MOST_SEATS
  pub targets_enough : snapshot.seats ≤ length snapshot.targets
  -- each seat stands for at least as much stake as there are seats
  pub total_enough : snapshot.seats * snapshot.seats ≤ total_stake snapshot
