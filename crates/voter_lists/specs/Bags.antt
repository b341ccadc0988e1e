-- The bags are one list of accounts, each with the number of its bag; the walk goes from the
-- highest bag down.
use Rattle.std.specs.Prelude.{◌≡◌, ℕ, ◌+◌, ◌<◌, Bool, true, false, not, nat_eq, nat_lt, nat_le, is_some, unwrap_or, zero, suc}
use Rattle.std.specs.Prelude.{if◌then◌else◌, List, [], ◌∷◌, ◌++◌, length, map, filter, count_by, slice_get, Option, Some, None}
use Rattle.npos_base.specs.declared.account.AccountId.{AccountId}
use Rattle.npos_base.specs.Account.{same_account}
use Rattle.voter_lists.specs.declared.refusal.ListRefusal.{ListRefusal}
use Rattle.voter_lists.specs.declared.refusal.ListRefusal.TheVariants.{NotListed, SameBag, OtherBag, NotHeavier}

-- accounts with their bags
abbrev pub Order : Type 0
Order = List (AccountId × ℕ)

-- the thresholds between the bags, and the order in which accounts are walked
pub record Listing : Type 0 where
  pub thresholds : List ℕ
  pub order : Order

-- scores rise from threshold to threshold, and the lowest bag has scores above 0
abbrev pub IsRisingFrom : ℕ → List ℕ → Type 0
IsRisingFrom low [] = Unit {0}
IsRisingFrom low (threshold ∷ thresholds) = (low < threshold) × IsRisingFrom threshold thresholds

-- the number of a score's bag: how many thresholds are below the score
abbrev pub bag_of : List ℕ → ℕ → ℕ
bag_of thresholds score = count_by (λ threshold. nat_lt threshold score) thresholds

-- the bag in which an account stands
abbrev pub number_of : Order → AccountId → Option ℕ
number_of [] who = None
number_of (entry ∷ order) who = if same_account entry.0 who then Some entry.1 else number_of order who

abbrev pub is_in : Option ℕ → ℕ → Bool
is_in None number = false
is_in (Some home) number = nat_eq home number

abbrev pub number_at : Option ℕ → ℕ
number_at home = unwrap_or home 0

abbrev pub is_listed : Order → AccountId → Bool
is_listed order who = is_some (number_of order who)

-- the accounts of one bag, in their order
abbrev pub in_bag : ℕ → Order → Order
in_bag number order = filter (λ entry. nat_eq entry.1 number) order

-- the accounts of as many bags from this one on, those of the highest first
abbrev pub from_bag : ℕ → ℕ → Order → Order
from_bag number zero order = []
from_bag number (suc more) order = from_bag (number + 1) more order ++ in_bag number order

-- the order of the walk: one bag more than there are thresholds, the highest first
abbrev pub in_walk_order : List ℕ → Order → Order
in_walk_order thresholds order = from_bag 0 (length thresholds + 1) order

-- an account joins the tail of a bag
abbrev pub joined : Order → AccountId → ℕ → Order
joined order who number = order ++ (who, number) ∷ []

-- an account leaves
abbrev pub left : Order → AccountId → Order
left order who = filter (λ entry. not (same_account entry.0 who)) order

-- an entry goes directly before an account
abbrev pub placed_before : Order → AccountId × ℕ → AccountId → Order
placed_before [] entry lighter = entry ∷ []
placed_before (other ∷ order) entry lighter = if same_account other.0 lighter then entry ∷ other ∷ order
    else other ∷ placed_before order entry lighter

-- wherever the account stands, its bag is this one
abbrev pub OnlyIn : AccountId → ℕ → Order → Type 0
OnlyIn who number [] = Unit {0}
OnlyIn who number (entry ∷ order) = (same_account entry.0 who ≡ true → entry.1 ≡ number)
    × OnlyIn who number order

-- the accounts as they are walked
abbrev pub walk : Order → List AccountId
walk order = map (λ entry. entry.0) order

-- the account after this one
abbrev pub account_after : List AccountId → AccountId → Option AccountId
account_after [] who = None
account_after (account ∷ accounts) who = if same_account account who then slice_get accounts 0
    else account_after accounts who

-- the list after each call, in the order of the walk
abbrev pub arranged : Listing → Order → Listing
arranged listing order = record listing { order = in_walk_order listing.thresholds order }

abbrev pub inserted : Listing → AccountId → ℕ → Listing
inserted listing who score = arranged listing (joined listing.order who (bag_of listing.thresholds score))

abbrev pub removed : Listing → AccountId → Listing
removed listing who = arranged listing (left listing.order who)

abbrev pub moved : Listing → AccountId → ℕ → Listing
moved listing who score =
    arranged listing (joined (left listing.order who) who (bag_of listing.thresholds score))

-- the account stands in the bag of the score already
abbrev pub is_at_home : Listing → AccountId → ℕ → Bool
is_at_home listing who score = is_in (number_of listing.order who) (bag_of listing.thresholds score)

abbrev pub updated : Listing → AccountId → ℕ → Listing
updated listing who score = if is_at_home listing who score then listing else moved listing who score

abbrev pub rebag_refusal : Listing → AccountId → ℕ → Option ListRefusal
rebag_refusal listing who score =
    if not (is_listed listing.order who) then Some NotListed
    else if is_at_home listing who score then Some SameBag
    else None

-- in front of itself an account stays where it is
abbrev pub put_in_front : Listing → AccountId → AccountId → Listing
put_in_front listing who lighter =
    if same_account who lighter then listing
    else arranged listing (placed_before (left listing.order who)
    (who, number_at (number_of listing.order who)) lighter)

abbrev pub put_in_front_refusal : Listing → AccountId → ℕ → AccountId → ℕ → Option ListRefusal
put_in_front_refusal listing who score lighter lighter_score =
    if not (is_listed listing.order who) then Some NotListed
    else if not (is_listed listing.order lighter) then Some NotListed
    else if not (is_in (number_of listing.order who) (number_at (number_of listing.order lighter)))
    then Some OtherBag
    else if nat_le score lighter_score then Some NotHeavier
    else None
