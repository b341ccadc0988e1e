-- What places keep.
use Rattle.std.specs.Prelude.{ℕ, List, length}
use Rattle.npos_base.specs.declared.account.AccountId.{AccountId}
use Rattle.account_places.specs.Places.{by_account, Stand}
use Rattle.account_places.specs.Index.{Finds}

-- each account has a place of its own, and all are found
pub record IsKept (accounts : List AccountId) (slots : List ℕ) (count : ℕ)
    (crowd : List (AccountId × ℕ)) : Type 0 where
  pub stand : Stand accounts (by_account accounts)
  pub whole : Finds slots count crowd accounts (length accounts)
