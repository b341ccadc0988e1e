-- What a list of members keeps: each stands once, the running sums are the sums, and these and the
-- credits are numbers of 64 bits.
use Rattle.std.specs.Prelude.{◌≡◌, ℕ, ◌^◌, ◌<◌, List}
use Rattle.std.specs.List.Sorted.{IsStrictlySortedBy}
use Rattle.std.specs.Map.{keys_of}
use Rattle.npos_base.specs.Account.{account_cmp}
use Rattle.npos_base.specs.declared.account.AccountId.{AccountId}
use Rattle.stake_pools.specs.declared.member.Member.{Member}
use Rattle.stake_pools.specs.Members.{all_points, all_staying, all_credits}

pub record AreSummed (members : List (AccountId × Member)) (points staying : ℕ) : Type 0 where
  pub ordered : IsStrictlySortedBy account_cmp (keys_of members)
  pub points_are : points ≡ all_points members
  pub staying_are : staying ≡ all_staying members
  pub points_fit : all_points members < 2 ^ 64
  pub credits_fit : all_credits members < 2 ^ 64
