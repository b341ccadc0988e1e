-- An account is 32 bytes: 16 of `hi` and 16 of `lo`, the greatest first.
use Rattle.std.specs.Prelude.{ℕ, Bool, ◌&&◌, nat_eq, List, ◌++◌, take, drop, slice_index_or}
use Rattle.std.specs.Int.{w128, from_be_bytes, to_be_bytes}
use Rattle.std.specs.Ordering.{nat_cmp, ordering_then}
use Rattle.std.specs.declared.cmp.Ordering.{Ordering}
use Rattle.npos_base.specs.declared.account.AccountId.{AccountId}

-- the 32 bytes of an account, which are also its SCALE spelling
abbrev pub account_bytes : AccountId → List ℕ
account_bytes account = to_be_bytes w128 account.hi ++ to_be_bytes w128 account.lo

-- the account that 32 bytes spell
abbrev pub account_of : List ℕ → AccountId
account_of bytes = record { hi = from_be_bytes w128 (take 16 bytes); lo = from_be_bytes w128 (drop 16 bytes) }

-- the order of accounts, which is the order of their bytes
abbrev pub account_cmp : AccountId → AccountId → Ordering
account_cmp a b = ordering_then (nat_cmp a.hi b.hi) (nat_cmp a.lo b.lo)

-- the accounts are one
abbrev pub same_account : AccountId → AccountId → Bool
same_account a b = nat_eq a.hi b.hi && nat_eq a.lo b.lo

-- the account at a place
abbrev pub account_at : List AccountId → ℕ → AccountId
account_at accounts place = slice_index_or accounts place (record { hi = 0; lo = 0 })
