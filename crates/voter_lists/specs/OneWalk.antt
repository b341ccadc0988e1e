-- A list of accounts with their bags need not stand in the order of its walk: an account may join
-- at the end of the list, whatever its bag, as long as the walk is read off the list. What a call
-- then makes of the list, and when such a list and one that is arranged are one walk.
use Rattle.std.specs.Prelude.{◌≡◌, ◌≤◌, ℕ, List, length, All, Some, if◌then◌else◌}
use Rattle.std.specs.List.{IsDistinct}
use Rattle.npos_base.specs.declared.account.AccountId.{AccountId}
use Rattle.npos_base.specs.Account.{same_account}
use Rattle.voter_lists.specs.Bags.{Order, Listing, bag_of, number_of, number_at, in_walk_order, joined, left, placed_before, OnlyIn, walk}

-- both lists are walked alike
abbrev pub IsOneWalk : List ℕ → Order → Order → Type 0
IsOneWalk thresholds order other = in_walk_order thresholds order ≡ in_walk_order thresholds other

abbrev pub listing_of : List ℕ → Order → Listing
listing_of thresholds order = record { thresholds = thresholds; order = order }

-- the account stands in this bag of the list and in no other
abbrev pub StandsIn : AccountId → ℕ → Order → Type 0
StandsIn who number order = (number_of order who ≡ Some number) × OnlyIn who number order

-- the list after each call, where nothing is arranged
abbrev pub appended : List ℕ → Order → AccountId → ℕ → Order
appended thresholds order who score = joined order who (bag_of thresholds score)

abbrev pub taken_out : Order → AccountId → Order
taken_out order who = left order who

abbrev pub appended_anew : List ℕ → Order → AccountId → ℕ → Order
appended_anew thresholds order who score = joined (left order who) who (bag_of thresholds score)

abbrev pub put_before : Order → AccountId → AccountId → Order
put_before order who lighter =
    if same_account who lighter then order
    else placed_before (left order who) (who, number_at (number_of order who)) lighter

-- each account stands once, in a bag that there is, wherever in the list
pub record StandsOnce (thresholds : List ℕ) (order : Order) : Type 0 where
  pub once : IsDistinct same_account (walk order)
  pub numbered : All (λ entry. entry.1 ≤ length thresholds) order

-- a list as accounts joined it, and the one that is arranged: one walk, and each account once in both
pub record AreOneList (thresholds : List ℕ) (list arranged : Order) : Type 0 where
  pub walk : IsOneWalk thresholds list arranged
  pub list_once : StandsOnce thresholds list
  pub arranged_once : StandsOnce thresholds arranged
