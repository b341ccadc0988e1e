-- The validators stand by the places of their accounts.
use Rattle.std.specs.Prelude.{◌≡◌, ℕ, List}
use Rattle.std.specs.List.Sorted.{IsStrictlySortedBy, IsPartitionPoint}
use Rattle.std.specs.declared.cmp.Ordering.TheVariants.{Less, Greater}
use Rattle.npos_base.specs.declared.account.AccountId.{AccountId}
use Rattle.npos_base.specs.Account.{account_cmp}
use Rattle.voter_lists.specs.Noted.{AreWithin, accounts_at}
use Rattle.voter_lists.specs.Ranked.{AreRanked}
use Rattle.voter_lists.specs.Standings.{PlacedRoles}

-- the validators are the accounts at these places
pub record AreRankedAt (standings : PlacedRoles) (places : List ℕ) : Type 0 where
  pub within : AreWithin standings.accounts places
  pub ranked : AreRanked standings.roles (accounts_at standings.accounts places)

-- there is an account at each of these places, and they rise
pub record RiseAt (accounts : List AccountId) (places : List ℕ) : Type 0 where
  pub within : AreWithin accounts places
  pub rising : IsStrictlySortedBy account_cmp (accounts_at accounts places)

-- the accounts before the rank are below this one, and those from it on are above
abbrev pub BelongsAt : AccountId → List AccountId → ℕ → Type 0
BelongsAt who accounts rank =
    IsPartitionPoint (λ account. account_cmp account who ≡ Less) (λ account. account_cmp account who ≡ Greater) accounts rank
