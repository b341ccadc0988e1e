-- The bags as their nodes keep them, and what each change makes of them.
use Rattle.std.proofs.Common.{◌≡◌, ◌∙◌, ℕ, ◌+◌, ◌<◌, List, [], ◌∷◌, ◌++◌, length, map, take, take_all, get_or, slice_set, slice_get}
use Rattle.std.proofs.Common.{Option, Some, None, Result, Ok, Err, OnOk, OnErr, IfSome, IfNone, is_some, refl, sym, ap, subst, arith}
use Rattle.std.specs.Option.{option_map}
use Rattle.std.proofs.lemmas.Option.{none-some}
use Rattle.npos_base.specs.declared.account.AccountId.{AccountId}
use Rattle.account_places.specs.Places.{place_in, by_account}
use Rattle.voter_lists.specs.Bag.{without, with_before}
use Rattle.voter_lists.specs.Bags.{walk, account_after}
use Rattle.voter_lists.specs.BagRows.{walk_from, falling, AreHomes}
use Rattle.voter_lists.specs.Rings.{items, list_of, after}
use Rattle.voter_lists.specs.declared.nodes.Nodes.{Nodes}
use Rattle.npos_base.specs.Account.{account_at}
use Rattle.voter_lists.specs.Nodes.{list_at, bags_in, home_of, moved_bags, ahead, IsStanding, IsTop, Becomes, Stays, AreLinked}
use Rattle.voter_lists.proofs.HomeLemmas.{by_same}
use Rattle.voter_lists.proofs.LinkLemmas.{from_first, from_step}
use Rattle.voter_lists.proofs.ListingLemmas.{homes_alike, joined_homes, left_homes, before_homes, moved_homes}
use Rattle.voter_lists.proofs.NodeLemmas.{only_key, bags_length, bag_read, accounts_after}
use Rattle.voter_lists.proofs.WalkLemmas.{or_first, after_walk, walk_falls, falling_take}

-- what holds where a call is done, or where it is refused
by_result : {E A B C : Type 0} (result : Result (Unit {0}) E) → OnOk result A → OnErr result B → (A → C) → (B → C) → C
by_result (Ok done) a b f g = f a
by_result (Err error) a b f g = g b

-- what a search for an account finds
pub found_home : {A : Type 0} (home : Option ℕ) (result : Option A) (number : A → ℕ) (P Q : A → Type 0) → IfSome result (λ at. P at × (home ≡ Some (number at)) × Q at) → IfNone result (home ≡ None)
    → is_some result ≡ is_some home
found_home home None number P Q found absent = sym (ap is_some absent)
found_home home (Some at) number P Q found absent = sym (ap is_some found.1)

-- the bags below a number, from the one under it
module _ (nodes : Nodes) (number : ℕ) (lt : number < nodes.bags) where
  pub top_first : falling (take (number + 1) (bags_in nodes)) ≡ map (account_at nodes.places) (items nodes.rings number) ++ falling (take number (bags_in nodes))
  top_first =
      falling_take (bags_in nodes) number (subst (λ n. number < n) (sym (bags_length nodes.rings (account_at nodes.places) nodes.bags)) lt)
      ∙ ap (λ bag. bag ++ falling (take number (bags_in nodes))) (bag_read nodes.rings (account_at nodes.places) nodes.bags number lt)

  -- a bag without a head has no account
  pub top_none : slice_get (items nodes.rings number) 0 ≡ None → falling (take (number + 1) (bags_in nodes)) ≡ falling (take number (bags_in nodes))
  top_none none = top_first ∙ ap (λ keys. map (account_at nodes.places) keys ++ falling (take number (bags_in nodes))) (no_first (items nodes.rings number) none) where
    no_first : (keys : List ℕ) → slice_get keys 0 ≡ None → keys ≡ []
    no_first [] e = refl
    no_first (key ∷ keys) e = absurd (none-some key (sym e))

-- where a walk that is in no bag goes on
pub ahead_top : (nodes : Nodes) (below number place : ℕ) → IsTop nodes below number place → ahead nodes below None ≡ ahead nodes number (Some place)
ahead_top nodes below number place top =
    top.rest ∙ ap (λ keys. map (account_at nodes.places) keys ++ falling (take number (bags_in nodes))) (sym (from_first place (items nodes.rings number) top.head))

-- a walk passes one account
pub ahead_step : (nodes : Nodes) (number place : ℕ) → IsStanding nodes → list_of nodes.rings place ≡ Some number
    → ahead nodes number (Some place) ≡ account_at nodes.places place ∷ ahead nodes number (after place (items nodes.rings number))
ahead_step nodes number place standing linked =
    ap (λ keys. map (account_at nodes.places) keys ++ falling (take number (bags_in nodes)))
    (from_step place (items nodes.rings number) (standing.fit.apart number) (standing.fit.listed number place linked))

module _ (thresholds : List ℕ) (nodes : Nodes) (linked : AreLinked thresholds nodes) where
  pub bag_count : length (bags_in nodes) ≡ nodes.bags
  bag_count = bags_length nodes.rings (account_at nodes.places) nodes.bags

  pub in_its_bag : (who : AccountId) (place number : ℕ) → place_in (by_account nodes.places) who ≡ Some place → home_of nodes who ≡ Some number → list_of nodes.rings place ≡ Some number
  in_its_bag who place number there home = sym (ap (list_at nodes.rings) there) ∙ home

  -- the account after another, in its bag or in a lower one
  pub after_is : (who : AccountId) (place number : ℕ) → place_in (by_account nodes.places) who ≡ Some place → home_of nodes who ≡ Some number → number < nodes.bags
      → account_after (walk (walk_from 0 (bags_in nodes))) who
      ≡ or_first (option_map (account_at nodes.places) (after place (items nodes.rings number))) (falling (take number (bags_in nodes)))
  after_is who place number there home lt =
      let account = account_at nodes.places in
      let list = in_its_bag who place number there home in
      let owner : account place ≡ who = linked.standing.placed who place there in
      after_walk (home_of nodes) who number (bags_in nodes) [] home linked.homes.noted (subst (λ n. number < n) (sym bag_count) lt)
      ∙ ap (λ next. or_first next (walk (walk_from 0 (take number (bags_in nodes)))))
      (ap (λ bag. account_after bag who) (bag_read nodes.rings account nodes.bags number lt)
      ∙ ap (account_after (map account (items nodes.rings number))) (sym owner)
      ∙ accounts_after account (items nodes.rings number) place (only_key nodes.rings nodes.places (place_in (by_account nodes.places)) nodes.bags linked.standing place number list))
      ∙ ap (or_first (option_map account (after place (items nodes.rings number)))) (walk_falls 0 (take number (bags_in nodes)))

  pub walk_is : walk (walk_from 0 (bags_in nodes)) ≡ falling (take nodes.bags (bags_in nodes))
  walk_is = walk_falls 0 (bags_in nodes) ∙ sym (ap falling (take_all nodes.bags (bags_in nodes) (omega (arith, bag_count))))

  module _ (new : Nodes) (who : AccountId) (number : ℕ) where
    linked_stays : Stays nodes new → AreLinked thresholds new
    linked_stays stays = record {
      homes = subst (λ bags. AreHomes thresholds bags (home_of new)) (sym stays.lists) (homes_alike thresholds (bags_in nodes) (home_of nodes) (home_of new) stays.homes linked.homes);
      standing = stays.standing;
      count = stays.count ∙ linked.count;
    }

    -- one joins, or nothing changes
    pub linked_joined : {E : Type 0} (result : Result (Unit {0}) E) → number < length (bags_in nodes) → home_of nodes who ≡ None
        → OnOk result (Becomes nodes new (slice_set (bags_in nodes) number (get_or (bags_in nodes) number [] ++ who ∷ [])) who (Some number))
        → OnErr result (Stays nodes new) → AreLinked thresholds new
    linked_joined result lt absent ok err = by_result result ok err
        (λ becomes. record {
          homes = joined_homes thresholds (bags_in nodes) (home_of nodes) linked.homes (bags_in new) (home_of new) who number lt absent becomes.lists becomes.homes;
          standing = becomes.standing;
          count = becomes.count ∙ linked.count;
        })
        linked_stays

    pub linked_left : home_of nodes who ≡ Some number → Becomes nodes new (slice_set (bags_in nodes) number (without (get_or (bags_in nodes) number []) who)) who None → AreLinked thresholds new
    linked_left there becomes = record {
      homes = left_homes thresholds (bags_in nodes) (home_of nodes) linked.homes (bags_in new) (home_of new) who number there becomes.lists becomes.homes;
      standing = becomes.standing;
      count = becomes.count ∙ linked.count;
    }

    pub linked_moved : (home : ℕ) → home_of nodes who ≡ Some home → number < length (bags_in nodes)
        → (home ≡ number → ⊥) → Becomes nodes new (moved_bags (bags_in nodes) who home number) who (Some number)
        → AreLinked thresholds new
    linked_moved home there lt differ becomes = record {
      homes = moved_homes thresholds (bags_in nodes) (home_of nodes) linked.homes who home number there lt differ (bags_in new) (home_of new) becomes.lists becomes.homes;
      standing = becomes.standing;
      count = becomes.count ∙ linked.count;
    }

    pub linked_before : (lighter : AccountId) → home_of nodes who ≡ Some number
        → Becomes nodes new (slice_set (bags_in nodes) number
        (with_before (without (get_or (bags_in nodes) number []) who) who lighter)) who (Some number)
        → AreLinked thresholds new
    linked_before lighter there becomes = record {
      homes = homes_alike thresholds (bags_in new) (home_of nodes) (home_of new)
          (λ q. by_same q who (λ e. ap (home_of new) e ∙ becomes.homes.here ∙ sym (ap (home_of nodes) e ∙ there)) (λ differ. becomes.homes.others q differ))
          (before_homes thresholds (bags_in nodes) (home_of nodes) linked.homes (bags_in new) who lighter number there becomes.lists);
      standing = becomes.standing;
      count = becomes.count ∙ linked.count;
    }
