use Rattle.std.proofs.Common.{◌≡◌, ◌≢◌, ◌<◌, ℕ, Some, slice_get, count_by}
use Rattle.npos_base.specs.declared.account.AccountId.{AccountId}
use Rattle.std.specs.Ordering.{is_lt}
use Rattle.npos_base.specs.Account.{account_cmp}
use Rattle.account_places.proofs.places.Places.in_order.Given as goal

-- none of the accounts before has so many below it
abbrev pub invariant-loop-account : goal.invariant-loop-account
invariant-loop-account l = (who : AccountId) (place : ℕ) → place < l.account-index → slice_get l.self place ≡ Some who
    → count_by (λ account. is_lt (account_cmp account who)) l.self ≢ l.rank
