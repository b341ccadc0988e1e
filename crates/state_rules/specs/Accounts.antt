-- Accounts in a list, and the order of accounts.
use Rattle.std.specs.Prelude.{◌≡◌, Bool, List, is_some}
use Rattle.std.specs.List.{list_any}
use Rattle.std.specs.BTreeMap.{is_at}
use Rattle.std.specs.Map.{lookup}
use Rattle.std.specs.Ordering.{is_lt}
use Rattle.npos_base.specs.declared.account.AccountId.{AccountId}
use Rattle.npos_base.specs.Account.{account_cmp, same_account}

-- the account is below the other
abbrev pub is_below : AccountId → AccountId → Bool
is_below who other = is_lt (account_cmp who other)

-- the account stands in the list
abbrev pub stands_in : List AccountId → AccountId → Bool
stands_in accounts who = list_any (λ account. same_account account who) accounts

-- the accounts of the entries are those of the list
abbrev pub AreNoted : {V : Type 0} → List (AccountId × V) → List AccountId → Type 0
AreNoted entries accounts =
    (who : AccountId) → is_some (lookup (is_at (account_cmp who)) entries) ≡ stands_in accounts who
