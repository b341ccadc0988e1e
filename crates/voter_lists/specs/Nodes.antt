-- The bags as linked nodes: each listed account has a place, and the places of a bag are one of the
-- rings' lists.
use Rattle.std.specs.Prelude.{◌≡◌, ℕ, ◌+◌, ◌<◌, ◌≤◌, false, List, ◌++◌, length, map, take, slice_get, slice_set, slice_index_or, [], ◌∷◌, Option, Some, None, IfSome}
use Rattle.std.specs.List.{range_with_len}
use Rattle.npos_base.specs.declared.account.AccountId.{AccountId}
use Rattle.npos_base.specs.Account.{same_account, account_at}
use Rattle.account_places.specs.Places.{place_in, by_account}
use Rattle.voter_lists.specs.Rings.{Lists, items, list_of, keys_from, list_count, key_limit, IsFit}
use Rattle.voter_lists.specs.Bag.{without}
use Rattle.voter_lists.specs.BagRows.{falling, AreHomes}
use Rattle.voter_lists.specs.declared.nodes.Nodes.{Nodes}

-- the list of a place, where there is one
abbrev pub list_at : Lists → Option ℕ → Option ℕ
list_at rings None = None
list_at rings (Some place) = list_of rings place

-- the accounts of so many bags, the lowest first
abbrev pub bags_of : Lists → (ℕ → AccountId) → ℕ → List (List AccountId)
bags_of rings account count = map (λ n. map account (items rings n)) (range_with_len 0 count)

-- each account that was ever listed has a place of its own, with room for its links
pub record Stand (rings : Lists) (accounts : List AccountId) (place_of : AccountId → Option ℕ)
    (count : ℕ) : Type 0 where
  pub fit : IsFit rings
  pub lists : list_count rings ≡ count
  pub room : length accounts ≤ key_limit rings
  pub placed : (who : AccountId) (place : ℕ) → place_of who ≡ Some place → account_at accounts place ≡ who
  pub known : (who : AccountId) (place : ℕ) → place_of who ≡ Some place → place < length accounts
  pub back : (place : ℕ) → place < length accounts → place_of (account_at accounts place) ≡ Some place
  pub within : (place n : ℕ) → list_of rings place ≡ Some n → place < length accounts

abbrev pub bags_in : Nodes → List (List AccountId)
bags_in nodes = bags_of nodes.rings (account_at nodes.places) nodes.bags

-- the bag in which an account stands
abbrev pub home_of : Nodes → AccountId → Option ℕ
home_of nodes who = list_at nodes.rings (place_in (by_account nodes.places) who)

abbrev pub IsStanding : Nodes → Type 0
IsStanding nodes = Stand nodes.rings nodes.places (place_in (by_account nodes.places)) nodes.bags

-- an account leaves one bag for the tail of another
abbrev pub moved_bags : List (List AccountId) → AccountId → ℕ → ℕ → List (List AccountId)
moved_bags bags who home number =
    slice_set (slice_set bags home (without (slice_index_or bags home []) who)) number
    (slice_index_or bags number [] ++ who ∷ [])

-- the homes after one account has another, or none
pub record NotedAnew (home now : AccountId → Option ℕ) (who : AccountId) (noted : Option ℕ) : Type 0 where
  pub here : now who ≡ noted
  pub others : (q : AccountId) → same_account q who ≡ false → now q ≡ home q

-- the bags are these, and one account's home is another one
pub record Becomes (old new : Nodes) (bags : List (List AccountId)) (who : AccountId)
    (noted : Option ℕ) : Type 0 where
  pub lists : bags_in new ≡ bags
  pub count : new.bags ≡ old.bags
  pub homes : NotedAnew (home_of old) (home_of new) who noted
  pub standing : IsStanding new

-- the bags and the homes are as they were
pub record Stays (old new : Nodes) : Type 0 where
  pub lists : bags_in new ≡ bags_in old
  pub count : new.bags ≡ old.bags
  pub homes : (who : AccountId) → home_of new who ≡ home_of old who
  pub standing : IsStanding new

-- a bag, and the place of its head, above all lower bags
pub record IsTop (nodes : Nodes) (below number place : ℕ) : Type 0 where
  pub lower : number < below
  pub listed : list_of nodes.rings place ≡ Some number
  pub head : slice_get (items nodes.rings number) 0 ≡ Some place
  pub rest : falling (take below (bags_in nodes))
      ≡ map (account_at nodes.places) (items nodes.rings number) ++ falling (take number (bags_in nodes))

-- the bags under their thresholds, each account in the bag that its node is linked in
pub record AreLinked (thresholds : List ℕ) (nodes : Nodes) : Type 0 where
  pub homes : AreHomes thresholds (bags_in nodes) (home_of nodes)
  pub standing : IsStanding nodes
  pub count : nodes.bags ≡ length thresholds + 1

-- what a walk has still to come to: the accounts of a bag from a place on, and those of the bags below it
abbrev pub ahead : Nodes → ℕ → Option ℕ → List AccountId
ahead nodes number here =
    map (account_at nodes.places) (keys_from here (items nodes.rings number))
    ++ falling (take number (bags_in nodes))

pub record IsWalk (nodes : Nodes) (number : ℕ) (here : Option ℕ) : Type 0 where
  pub standing : IsStanding nodes
  pub within : number ≤ nodes.bags
  pub linked : IfSome here (λ place. list_of nodes.rings place ≡ Some number)
  pub lower : IfSome here (λ place. number < nodes.bags)
