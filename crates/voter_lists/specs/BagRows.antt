-- A list for each bag, the lowest first, and the bag of each account beside them.
use Rattle.std.specs.Prelude.{◌≡◌, ℕ, ◌+◌, ◌<◌, ◌≤◌, Bool, List, [], ◌∷◌, ◌++◌, length, map, Option, Some}
use Rattle.std.specs.List.{list_any}
use Rattle.npos_base.specs.declared.account.AccountId.{AccountId}
use Rattle.npos_base.specs.Account.{same_account}
use Rattle.npos_base.specs.declared.limits.TheConstants.{MOST_THRESHOLDS}
use Rattle.voter_lists.specs.Bags.{Order, IsRisingFrom, is_in}

-- the accounts of the bags, those of the last first
abbrev pub falling : List (List AccountId) → List AccountId
falling [] = []
falling (bag ∷ bags) = falling bags ++ bag

-- the accounts of a bag with its number
abbrev pub numbered : ℕ → List AccountId → Order
numbered number accounts = map (λ account. (account, number)) accounts

-- the walk over the bags from this number on, from the highest down
abbrev pub walk_from : ℕ → List (List AccountId) → Order
walk_from number [] = []
walk_from number (bag ∷ bags) = walk_from (number + 1) bags ++ numbered number bag

-- the account stands in the bag
abbrev pub holds : List AccountId → AccountId → Bool
holds bag who = list_any (λ account. same_account account who) bag

-- each account stands in the bag that is noted for it and in no other
abbrev pub AreNoted : (AccountId → Option ℕ) → ℕ → List (List AccountId) → Type 0
AreNoted home number [] = Unit {0}
AreNoted home number (bag ∷ bags) = ((who : AccountId) → holds bag who ≡ is_in (home who) number)
    × AreNoted home (number + 1) bags

-- one bag more than there are thresholds, and each account noted with its bag
pub record AreHomes (thresholds : List ℕ) (bags : List (List AccountId))
    (home : AccountId → Option ℕ) : Type 0 where
  pub few : length thresholds ≤ MOST_THRESHOLDS
  pub rising : IsRisingFrom 0 thresholds
  pub count : length bags ≡ length thresholds + 1
  pub noted : AreNoted home 0 bags
  pub within : (who : AccountId) (number : ℕ) → home who ≡ Some number → number < length bags
