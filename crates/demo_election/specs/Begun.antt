-- A generated election while its voters are added.
use Rattle.std.specs.Prelude.{◌≡◌, ℕ, ◌*◌, ◌≤◌, map, length}
use Rattle.std.specs.List.{range_with_len}
use Rattle.npos_base.specs.declared.limits.TheConstants.{MOST_TARGETS}
use Rattle.election_snapshot.specs.Snapshot.{total_of}
use Rattle.election_snapshot.specs.Draft.{Draft, accounts_of}
use Rattle.demo_election.specs.Generated.{voter_account}

-- all targets stand, and so many voters, with a stake between one and two million each
pub record IsBegun (targets voters : ℕ) (draft : Draft) : Type 0 where
  pub targets_are : length draft.targets ≡ targets
  pub some_targets : 1 ≤ targets
  pub few_targets : targets ≤ MOST_TARGETS
  pub count : length draft.voters ≡ voters
  pub accounts : accounts_of draft.voters ≡ map voter_account (range_with_len 0 voters)
  pub at_least : 1000000 * voters ≤ total_of draft.voters
  pub at_most : total_of draft.voters ≤ 2000000 * voters
