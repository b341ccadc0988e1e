-- How the voters of a snapshot are kept: accounts, stakes and votes in three lists of one length.
use Rattle.std.specs.Prelude.{◌≡◌, ℕ, ◌+◌, ◌≤◌, List, [], ◌∷◌, ◌++◌, length, sum, vec_len}
use Rattle.std.specs.Vec.{vec_capacity}
use Rattle.npos_base.specs.declared.account.AccountId.{AccountId}
use Rattle.election_snapshot.specs.Snapshot.{Voter, AreVotersOf}
use Rattle.election_snapshot.specs.declared.voters.KeptVoters.{KeptVoters}

abbrev pub voters_of : List AccountId → List ℕ → List (List ℕ) → List Voter
voters_of [] stakes votes = []
voters_of (account ∷ accounts) [] votes = []
voters_of (account ∷ accounts) (stake ∷ stakes) [] = []
voters_of (account ∷ accounts) (stake ∷ stakes) (voted ∷ votes) =
    record { account = account; stake = stake; votes = voted } ∷ voters_of accounts stakes votes

pub record AreKept (targets accounts : List AccountId) (stakes : List ℕ) (votes : List (List ℕ)) (total : ℕ)
    : Type 0 where
  pub stakes_count : length stakes ≡ length accounts
  pub votes_count : length votes ≡ length accounts
  pub total_is : total ≡ sum stakes
  pub voters : AreVotersOf targets (voters_of accounts stakes votes)

-- there is room for so many voters more
pub record HasRoom (voters : KeptVoters) (more : ℕ) : Type 0 where
  pub accounts : vec_len voters.accounts + more ≤ vec_capacity voters.accounts
  pub stakes : vec_len voters.stakes + more ≤ vec_capacity voters.stakes
  pub votes : more ≤ voters.ballots.spare

-- the voters are as they were, whatever room there is
pub record AreSame (old new : KeptVoters) : Type 0 where
  pub accounts : new.accounts.items ≡ old.accounts.items
  pub stakes : new.stakes.items ≡ old.stakes.items
  pub votes : new.ballots.items ≡ old.ballots.items
  pub total : new.total ≡ old.total

-- one voter more stands behind the others
pub record HaveOneMore (old new : KeptVoters) (who : AccountId) (stake : ℕ) (voted : List ℕ)
    : Type 0 where
  pub accounts : new.accounts.items ≡ old.accounts.items ++ who ∷ []
  pub stakes : new.stakes.items ≡ old.stakes.items ++ stake ∷ []
  pub votes : new.ballots.items ≡ old.ballots.items ++ voted ∷ []
  pub total : new.total ≡ old.total + stake
