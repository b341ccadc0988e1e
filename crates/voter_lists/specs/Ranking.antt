-- The ranks of the validators stand in a table by the places of all accounts.
use Rattle.std.specs.Prelude.{◌≡◌, ℕ, nat_eq, nat_lt, if◌then◌else◌, List, length, Option, Some, None, slice_get, slice_index_or}
use Rattle.npos_base.specs.declared.account.AccountId.{AccountId}
use Rattle.voter_lists.specs.declared.ranking.Ranking.{Ranking}
use Rattle.voter_lists.specs.Roles.{validators_of}
use Rattle.voter_lists.specs.Votes.{rank_of}

-- the entry of an account that is no validator, which is the last number of 16 bits
abbrev pub no_rank : ℕ
no_rank = 65535

abbrev pub rank_in : ℕ → Option ℕ
rank_in entry = if nat_eq entry no_rank then None else Some entry

-- each place has an entry, which tells the rank of its account
pub record AreTold (ranks : List ℕ) (accounts : List AccountId) (rank : AccountId → Option ℕ)
    : Type 0 where
  pub count : length ranks ≡ length accounts
  pub tells : (place : ℕ) (who : AccountId) → slice_get accounts place ≡ Some who
      → rank_in (slice_index_or ranks place no_rank) ≡ rank who

-- a rank, where so many are entered that it is among them
abbrev pub entered : ℕ → Option ℕ → Option ℕ
entered count None = None
entered count (Some rank) = if nat_lt rank count then Some rank else None

-- the table of the validators as they are
pub record IsRanking (ranking : Ranking) : Type 0 where
  pub told : AreTold ranking.ranks.items ranking.standings.now.accounts
      (rank_of (validators_of ranking.standings.now.roles))
