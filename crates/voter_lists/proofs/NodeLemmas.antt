-- What the bags and the homes are after a node leaves one list for another.
use Rattle.std.proofs.Common.{◌≡◌, ◌≢◌, ℕ, ◌<◌, ◌≤◌, true, false, List, [], ◌∷◌, ◌++◌, length, map, get_or, slice_get, Option, Some, None, refl}
use Rattle.std.proofs.Common.{true≢false, sym, ap, ap₂, ◌∙◌, subst, inl, inr, arith, zero-add, replicate, length-set, get_or-set_same, get_or-set_other}
use Rattle.std.specs.List.{slice_set}
use Rattle.std.specs.Option.{option_map}
use Rattle.std.proofs.lemmas.Bool.{cases_eq, cond-true, cond-false, not_from_true, not_from_false}
use Rattle.std.proofs.lemmas.List.{ext_get_or, get_or_append_left, length_push, map_push, length-replicate, get_or-replicate}
use Rattle.std.proofs.lemmas.List.FromFn.{length-map-range_with_len, get_or-map-range_with_len}
use Rattle.std.proofs.lemmas.Option.{none-some, same_Some}
use Rattle.std.proofs.Math.Seq.{get_or-append_seam}
use Rattle.npos_base.specs.declared.account.AccountId.{AccountId}
use Rattle.npos_base.specs.Account.{same_account, account_at}
use Rattle.npos_base.proofs.AccountOrder.{same_itself}
use Rattle.voter_lists.specs.Bag.{without, with_before}
use Rattle.voter_lists.specs.Bags.{account_after}
use Rattle.voter_lists.specs.Rings as keyed
use Rattle.voter_lists.specs.Rings.{Lists, items, list_of, list_count, key_limit, IsIn, IsApart, IsFit, Relinks, SameLists}
use Rattle.voter_lists.specs.Nodes.{list_at, bags_of, moved_bags, Stand, NotedAnew}
use Rattle.voter_lists.proofs.HomeLemmas.{by_same}
use Rattle.voter_lists.proofs.LinkLemmas.{without_head, without_past, before_here, before_past, after_here, after_past, IsIn-without}

-- accounts that differ are told apart
test_apart : (x y : AccountId) → (x ≡ y → ⊥) → same_account x y ≡ false
test_apart x y differ = by_same x y (λ same. absurd (differ same)) (λ e. e)

pub accounts_differ : (x y : AccountId) → same_account x y ≡ false → x ≡ y → ⊥
accounts_differ x y differ same = true≢false (sym (same_itself y) ∙ ap (λ z. same_account z y) (sym same) ∙ differ)

moved_length : (bags : List (List AccountId)) (who : AccountId) (home number : ℕ) → length (moved_bags bags who home number) ≡ length bags
moved_length bags who home number = length-set (slice_set bags home (without (get_or bags home []) who)) number _ ∙ length-set bags home (without (get_or bags home []) who)

module _ (account : ℕ → AccountId) where
  -- only this key has its account
  Only : ℕ → List ℕ → Type 0
  Only place keys = (key : ℕ) → IsIn key keys → account key ≡ account place → key ≡ place

  only_test : (key place : ℕ) (keys : List ℕ) → Only place keys → IsIn key keys → key ≢ place → same_account (account key) (account place) ≡ false
  unfolding Only
  only_test key place keys only found differs = test_apart (account key) (account place) (λ same. differs (only key found same))

  same_test : (key place : ℕ) → key ≡ place → same_account (account key) (account place) ≡ true
  same_test key place same = ap (λ k. same_account (account k) (account place)) same ∙ same_itself (account place)

  pub accounts_without : (keys : List ℕ) (place : ℕ) → ((key : ℕ) → IsIn key keys → account key ≡ account place → key ≡ place)
      → map account (keyed.without place keys) ≡ without (map account keys) (account place)
  accounts_without [] place only = refl
  accounts_without (key ∷ keys) place only =
      let rest = accounts_without keys place (λ k found. only k (inr found)) in
      elim (cases_eq key place) [
        | inl same ↦ ap (map account) (without_head place key keys same) ∙ rest ∙ sym (cond-false _ _ _ (not_from_true _ (same_test key place same)))
        | inr differs ↦
            ap (map account) (without_past place key keys differs) ∙ ap (λ xs. account key ∷ xs) rest
            ∙ sym (cond-true _ _ _ (not_from_false _ (test_apart (account key) (account place) (λ e. differs (only key (inl refl) e)))))
      ]

  pub accounts_before : (keys : List ℕ) (place other : ℕ) → ((key : ℕ) → IsIn key keys → account key ≡ account other → key ≡ other)
      → map account (keyed.before place other keys) ≡ with_before (map account keys) (account place) (account other)
  accounts_before [] place other only = refl
  accounts_before (key ∷ keys) place other only =
      let rest = accounts_before keys place other (λ k found. only k (inr found)) in
      elim (cases_eq key other) [
        | inl same ↦ ap (map account) (before_here place other key keys same) ∙ sym (cond-true _ _ _ (same_test key other same))
        | inr differs ↦
            ap (map account) (before_past place other key keys differs) ∙ ap (λ xs. account key ∷ xs) rest
            ∙ sym (cond-false _ _ _ (test_apart (account key) (account other) (λ e. differs (only key (inl refl) e))))
      ]

  first_of : (keys : List ℕ) → slice_get (map account keys) 0 ≡ option_map account (slice_get keys 0)
  first_of [] = refl
  first_of (key ∷ keys) = refl

  pub accounts_first : (keys : List ℕ) → slice_get (map account keys) 0 ≡ option_map account (slice_get keys 0)
  accounts_first keys = first_of keys

  pub accounts_after : (keys : List ℕ) (place : ℕ) → ((key : ℕ) → IsIn key keys → account key ≡ account place → key ≡ place)
      → account_after (map account keys) (account place) ≡ option_map account (keyed.after place keys)
  accounts_after [] place only = refl
  accounts_after (key ∷ keys) place only =
      elim (cases_eq key place) [
        | inl same ↦ cond-true _ _ _ (same_test key place same) ∙ first_of keys ∙ sym (ap (option_map account) (after_here place key keys same))
        | inr differs ↦
            cond-false _ _ _ (test_apart (account key) (account place) (λ e. differs (only key (inl refl) e)))
            ∙ accounts_after keys place (λ k found. only k (inr found)) ∙ sym (ap (option_map account) (after_past place key keys differs))
      ]

pub accounts_same : (account now : ℕ → AccountId) (keys : List ℕ) → ((key : ℕ) → IsIn key keys → now key ≡ account key) → map now keys ≡ map account keys
accounts_same account now [] same = refl
accounts_same account now (key ∷ keys) same = ap₂ (λ x xs. x ∷ xs) (same key (inl refl)) (accounts_same account now keys (λ k found. same k (inr found)))

-- ---- the bags

module _ (rings : Lists) (account : ℕ → AccountId) (count : ℕ) where
  pub bags_length : length (bags_of rings account count) ≡ count
  bags_length = length-map-range_with_len (λ n. map account (items rings n)) 0 count

  pub bag_read : (number : ℕ) → number < count → get_or (bags_of rings account count) number [] ≡ map account (items rings number)
  bag_read number lt = get_or-map-range_with_len (λ n. map account (items rings n)) 0 count number number [] lt (zero-add number)

module _ (rings new : Lists) (account now : ℕ → AccountId) (count : ℕ) where
  pub bags_same : ((n : ℕ) → n < count → map now (items new n) ≡ map account (items rings n)) → bags_of new now count ≡ bags_of rings account count
  bags_same same =
      ext_get_or [] (bags_of new now count) (bags_of rings account count) (bags_length new now count ∙ sym (bags_length rings account count))
      (λ i lt.
      let below : i < count = omega (arith, lt, bags_length new now count) in
      bag_read new now count i below ∙ same i below ∙ sym (bag_read rings account count i below))

  -- one bag changes
  pub bags_set : (number : ℕ) (bag : List AccountId) → number < count → map now (items new number) ≡ bag
      → ((n : ℕ) → n < count → n ≢ number → map now (items new n) ≡ map account (items rings n))
      → bags_of new now count ≡ slice_set (bags_of rings account count) number bag
  bags_set number bag within here others =
      let old = bags_of rings account count in
      ext_get_or [] (bags_of new now count) (slice_set old number bag) (bags_length new now count ∙ sym (length-set old number bag ∙ bags_length rings account count))
      (λ i lt.
      let below : i < count = omega (arith, lt, bags_length new now count) in
      bag_read new now count i below
      ∙ elim (cases_eq i number) [
        | inl same ↦
            ap (λ n. map now (items new n)) same ∙ here
            ∙ sym (get_or-set_same old number bag [] (omega (arith, within, bags_length rings account count)))
            ∙ ap (λ n. get_or (slice_set old number bag) n []) (sym same)
        | inr differs ↦ others i below differs ∙ sym (bag_read rings account count i below) ∙ sym (get_or-set_other old number i bag [] differs)
      ])

-- no key, no account
pub bags_empty : (rings : Lists) (account : ℕ → AccountId) (count : ℕ) → ((n : ℕ) → items rings n ≡ []) → bags_of rings account count ≡ replicate count []
bags_empty rings account count none =
    ext_get_or [] (bags_of rings account count) (replicate count []) (bags_length rings account count ∙ sym (length-replicate count []))
    (λ i lt.
    let below : i < count = omega (arith, lt, bags_length rings account count) in
    bag_read rings account count i below ∙ ap (map account) (none i) ∙ sym (get_or-replicate count i [] [] below))

-- a home read off another list of links
home_same : (rings new : Lists) (place : Option ℕ) → ((p : ℕ) → place ≡ Some p → list_of new p ≡ list_of rings p) → list_at new place ≡ list_at rings place
home_same rings new None same = refl
home_same rings new (Some p) same = same p refl

-- what a change of the nodes makes of bags and homes
pub record Moved (rings new : Lists) (accounts : List AccountId) (place_of : AccountId → Option ℕ) (count : ℕ) (bags : List (List AccountId)) (who : AccountId) (noted : Option ℕ) : Type 0 where
  pub standing : Stand new accounts place_of count
  pub lists : bags_of new (account_at accounts) count ≡ bags
  pub homes : NotedAnew (λ q. list_at rings (place_of q)) (λ q. list_at new (place_of q)) who noted

module _ (rings : Lists) (accounts : List AccountId) (place_of : AccountId → Option ℕ) (count : ℕ) (stand : Stand rings accounts place_of count) where
  -- an account of a bag has one key there
  pub only_key : (place n : ℕ) → list_of rings place ≡ Some n → (key : ℕ) → IsIn key (items rings n) → account_at accounts key ≡ account_at accounts place → key ≡ place
  only_key place n linked key found same =
      same_Some key place (sym (stand.back key (stand.within key n (stand.fit.owned n key found))) ∙ ap place_of same ∙ stand.back place (stand.within place n linked))

  -- the bag of a place is one of so many
  pub in_some_bag : (place n : ℕ) → list_of rings place ≡ Some n → n < count
  in_some_bag place n linked = omega (arith, stand.fit.known n place linked, stand.lists)

  module _ (new : Lists) (place : ℕ) (fit : IsFit new) (same_count : list_count new ≡ list_count rings)
      (limit : key_limit new ≡ key_limit rings) (others : (p : ℕ) → p ≢ place → list_of new p ≡ list_of rings p)
      (who : AccountId) (there : place_of who ≡ Some place) where
    owner : account_at accounts place ≡ who
    owner = stand.placed who place there

    elsewhere : (q : AccountId) (p : ℕ) → same_account q who ≡ false → place_of q ≡ Some p → p ≢ place
    elsewhere q p differ e same = accounts_differ q who differ (sym (stand.placed q p e) ∙ ap (account_at accounts) same ∙ owner)

    still_standing : Stand new accounts place_of count
    still_standing = record {
      fit = fit;
      lists = same_count ∙ stand.lists;
      room = omega (arith, stand.room, limit);
      placed = stand.placed;
      known = stand.known;
      back = stand.back;
      within = λ p n linked. elim (cases_eq p place) [
        | inl same ↦ subst (λ k. k < length accounts) (sym same) (stand.known who place there)
        | inr apart ↦ stand.within p n (sym (others p apart) ∙ linked)
      ];
    }

    noted : (list : Option ℕ) → list_of new place ≡ list → NotedAnew (λ q. list_at rings (place_of q)) (λ q. list_at new (place_of q)) who list
    noted list moved = record {
      here = ap (λ o. list_at new o) there ∙ moved;
      others = λ q differ. home_same rings new (place_of q) (λ p e. others p (elsewhere q p differ e));
    }

    -- one leaves
    pub node_left : (number : ℕ) → list_of rings place ≡ Some number → list_of new place ≡ None
        → items new number ≡ keyed.without place (items rings number)
        → ((n : ℕ) → n ≢ number → items new n ≡ items rings n)
        → Moved rings new accounts place_of count (slice_set (bags_of rings (account_at accounts) count) number (without (get_or (bags_of rings (account_at accounts) count) number []) who)) who None
    node_left number linked moved left rest =
        let lt : number < count = in_some_bag place number linked in
        record {
          standing = still_standing;
          lists = bags_set rings new (account_at accounts) (account_at accounts) count number _ lt
              (ap (map (account_at accounts)) left ∙ accounts_without (account_at accounts) (items rings number) place (only_key place number linked)
              ∙ ap₂ (λ bag q. without bag q) (sym (bag_read rings (account_at accounts) count number lt)) owner)
              (λ n below differ. ap (map (account_at accounts)) (rest n differ));
          homes = noted None moved;
        }

    -- one leaves for the tail of another bag
    pub node_moved : (home number : ℕ) → list_of rings place ≡ Some home → number < count → home ≢ number → Relinks rings new place home number
        → Moved rings new accounts place_of count (moved_bags (bags_of rings (account_at accounts) count) who home number) who (Some number)
    node_moved home number linked number_lt apart relinks =
        let account = account_at accounts in
        let old = bags_of rings account count in
        let lt : home < count = in_some_bag place home linked in
        record {
          standing = still_standing;
          lists =
              ext_get_or [] (bags_of new account count) (moved_bags old who home number) (bags_length new account count ∙ sym (moved_length old who home number ∙ bags_length rings account count))
              (λ i i_lt.
              let below : i < count = omega (arith, i_lt, bags_length new account count) in
              bag_read new account count i below
              ∙ elim (cases_eq i number) [
                | inl here ↦
                    ap (λ n. map account (items new n)) here ∙ ap (map account) (relinks.joined apart) ∙ map_push account (items rings number) place
                    ∙ ap₂ (λ bag q. bag ++ q ∷ []) (sym (bag_read rings account count number number_lt)) owner
                    ∙ sym (get_or-set_same _ number _ [] (omega (arith, number_lt, length-set old home (without (get_or old home []) who), bags_length rings account count)))
                    ∙ ap (λ n. get_or (moved_bags old who home number) n []) (sym here)
                | inr other ↦
                    elim (cases_eq i home) [
                      | inl there_it ↦
                          ap (λ n. map account (items new n)) there_it ∙ ap (map account) (relinks.left apart) ∙ accounts_without account (items rings home) place (only_key place home linked)
                          ∙ ap₂ (λ bag q. without bag q) (sym (bag_read rings account count home lt)) owner
                          ∙ sym (get_or-set_same old home _ [] (omega (arith, lt, bags_length rings account count)))
                          ∙ ap (λ n. get_or (slice_set old home (without (get_or old home []) who)) n []) (sym there_it)
                          ∙ sym (get_or-set_other _ number i _ [] other)
                      | inr neither ↦
                          ap (map account) (relinks.rest i neither other) ∙ sym (bag_read rings account count i below)
                          ∙ sym (get_or-set_other old home i _ [] neither) ∙ sym (get_or-set_other _ number i _ [] other)
                    ]
              ]);
          homes = noted (Some number) relinks.moved;
        }

    -- one that is in no bag joins the tail of one
    pub node_joined : (number : ℕ) → number < count → list_of new place ≡ Some number → items new number ≡ items rings number ++ place ∷ [] → ((n : ℕ) → n ≢ number → items new n ≡ items rings n)
        → Moved rings new accounts place_of count (slice_set (bags_of rings (account_at accounts) count) number
        (get_or (bags_of rings (account_at accounts) count) number [] ++ who ∷ [])) who (Some number)
    node_joined number lt moved last rest = record {
      standing = still_standing;
      lists = bags_set rings new (account_at accounts) (account_at accounts) count number _ lt
          (ap (map (account_at accounts)) last ∙ map_push (account_at accounts) (items rings number) place
          ∙ ap₂ (λ bag q. bag ++ q ∷ []) (sym (bag_read rings (account_at accounts) count number lt)) owner)
          (λ n below differ. ap (map (account_at accounts)) (rest n differ));
      homes = noted (Some number) moved;
    }

    -- one goes before another of its bag
    pub node_before : (lighter : AccountId) (number other : ℕ) → place_of lighter ≡ Some other → list_of rings place ≡ Some number → list_of rings other ≡ Some number
        → list_of new place ≡ Some number → items new number ≡ keyed.before place other (keyed.without place (items rings number)) → ((n : ℕ) → n ≢ number → items new n ≡ items rings n)
        → Moved rings new accounts place_of count (slice_set (bags_of rings (account_at accounts) count) number
        (with_before (without (get_or (bags_of rings (account_at accounts) count) number []) who) who lighter))
        who (Some number)
    node_before lighter number other other_there linked other_linked moved before rest =
        let other_owner : account_at accounts other ≡ lighter = stand.placed lighter other other_there in
        let lt : number < count = in_some_bag place number linked in
        record {
          standing = still_standing;
          lists = bags_set rings new (account_at accounts) (account_at accounts) count number _ lt
              (ap (map (account_at accounts)) before
              ∙ accounts_before (account_at accounts) (keyed.without place (items rings number)) place other
              (λ k found. only_key other number other_linked k
              (IsIn-without place k (items rings number) found).0)
              ∙ ap (λ bag. with_before bag (account_at accounts place) (account_at accounts other)) (accounts_without (account_at accounts) (items rings number) place (only_key place number linked))
              ∙ ap₂ (λ bag q. with_before (without bag q) q (account_at accounts other)) (sym (bag_read rings (account_at accounts) count number lt)) owner
              ∙ ap (with_before (without (get_or (bags_of rings (account_at accounts) count) number []) who) who) other_owner)
              (λ n below differ. ap (map (account_at accounts)) (rest n differ));
          homes = noted (Some number) moved;
        }

-- lists that are the same fit alike
fit_same : (old new : Lists) → SameLists old new → key_limit old ≤ key_limit new → IsFit old → IsFit new
fit_same old new same grows fit = record {
  apart = λ list. subst IsApart (sym (same.lists list)) (fit.apart list);
  owned = λ list key found. same.keys key ∙ fit.owned list key (subst (IsIn key) (same.lists list) found);
  listed = λ list key e. subst (IsIn key) (sym (same.lists list)) (fit.listed list key (sym (same.keys key) ∙ e));
  known = λ list key e. omega (arith, fit.known list key (sym (same.keys key) ∙ e), same.count);
  within = λ list key e. omega (arith, fit.within list key (sym (same.keys key) ∙ e), grows);
}

-- one more account has a place, and is in no bag
module _ (rings new : Lists) (accounts : List AccountId) (who : AccountId) (place_of place_now : AccountId → Option ℕ) (count : ℕ) (stand : Stand rings accounts place_of count)
    (same : SameLists rings new) (grows : key_limit rings ≤ key_limit new) (room : length accounts < key_limit new)
    (absent : place_of who ≡ None) (anew : NotedAnew place_of place_now who (Some (length accounts))) where
  kept : (p : ℕ) → p < length accounts → account_at (accounts ++ who ∷ []) p ≡ account_at accounts p
  kept p lt = get_or_append_left accounts (who ∷ []) _ p lt

  at_end : (p : ℕ) → p ≡ length accounts → account_at (accounts ++ who ∷ []) p ≡ who
  at_end p e = ap (account_at (accounts ++ who ∷ [])) e ∙ get_or-append_seam accounts who [] _

  pub stand_grown : Stand new (accounts ++ who ∷ []) place_now count
  stand_grown = record {
    fit = fit_same rings new same grows stand.fit;
    lists = same.count ∙ stand.lists;
    room = omega (arith, room, length_push accounts who);
    placed = λ q p e. by_same q who
        (λ one. at_end p (same_Some p (length accounts) (sym e ∙ ap place_now one ∙ anew.here)) ∙ sym one)
        (λ differ. let was = sym (anew.others q differ) ∙ e in kept p (stand.known q p was) ∙ stand.placed q p was);
    known = λ q p e. by_same q who
        (λ one. omega (arith, same_Some p (length accounts) (sym e ∙ ap place_now one ∙ anew.here), length_push accounts who))
        (λ differ. omega (arith, stand.known q p (sym (anew.others q differ) ∙ e), length_push accounts who));
    back = λ p lt. elim (cases_eq p (length accounts)) [
      | inl e ↦ ap place_now (at_end p e) ∙ anew.here ∙ ap (λ n. Some n) (sym e)
      | inr other ↦
          let below : p < length accounts = omega (arith, lt, other, length_push accounts who) in
          let was = stand.back p below in
          ap place_now (kept p below) ∙ anew.others (account_at accounts p) (test_apart (account_at accounts p) who (λ e. none-some p (sym absent ∙ ap place_of (sym e) ∙ was))) ∙ was
    ];
    within = λ p n linked. omega (arith, stand.within p n (sym (same.keys p) ∙ linked), length_push accounts who);
  }

  pub bags_grown : bags_of new (account_at (accounts ++ who ∷ [])) count ≡ bags_of rings (account_at accounts) count
  bags_grown = bags_same rings new (account_at accounts) (account_at (accounts ++ who ∷ [])) count
      (λ n below. ap (map (account_at (accounts ++ who ∷ []))) (same.lists n)
      ∙ accounts_same (account_at accounts) (account_at (accounts ++ who ∷ [])) (items rings n) (λ k found. kept k (stand.within k n (stand.fit.owned n k found))))

  pub homes_grown : (q : AccountId) → list_at new (place_now q) ≡ list_at rings (place_of q)
  homes_grown q = by_same q who
      (λ one. ap (λ a. list_at new (place_now a)) one ∙ ap (list_at new) anew.here ∙ same.keys (length accounts)
      ∙ in_none (list_of rings (length accounts)) refl ∙ sym (ap (list_at rings) (ap place_of one ∙ absent)))
      (λ differ. ap (list_at new) (anew.others q differ) ∙ home_same rings new (place_of q) (λ p e. same.keys p)) where
        in_none : (o : Option ℕ) → list_of rings (length accounts) ≡ o → o ≡ None
        in_none None e = refl
        in_none (Some n) e = absurd (omega (arith, stand.within (length accounts) n e))
