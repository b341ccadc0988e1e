-- The walk and the notes after each call on the bags.
use Rattle.std.proofs.Common.{◌≡◌, ◌≢◌, ℕ, zero, suc, ◌+◌, ◌<◌, ◌≤◌, true, false, nat_eq, List, [], ◌∷◌, ◌++◌, length, get_or, refl}
use Rattle.std.proofs.Common.{ap, sym, ◌∙◌, subst, Option, Some, None, is_some, true≢false, zero-add, if◌then◌else◌, replicate}
use Rattle.std.proofs.lemmas.List.{append-nil}
use Rattle.std.proofs.Math.ListN.{length-replicate}
use Rattle.std.specs.List.{slice_set}
use Rattle.std.proofs.Math.ListN.{length-set}
use Rattle.npos_base.specs.declared.account.AccountId.{AccountId}
use Rattle.npos_base.specs.Account.{same_account}
use Rattle.npos_base.proofs.AccountOrder.{same_itself}
use Rattle.voter_lists.specs.Bags.{Order, in_bag, in_walk_order, IsRisingFrom, from_bag, joined, left, placed_before, number_of, is_listed, is_in}
use Rattle.voter_lists.specs.Bag.{without, with_before}
use Rattle.voter_lists.specs.BagRows.{numbered, walk_from, holds, AreNoted, AreHomes}
use Rattle.voter_lists.specs.Nodes.{moved_bags, NotedAnew}
use Rattle.npos_base.specs.declared.limits.TheConstants.{MOST_THRESHOLDS}
use Rattle.npos_base.proofs.NumberTests.{number_same, number_test}
use Rattle.voter_lists.proofs.HomeLemmas.{by_same, joined_other, joined_here, left_other, left_here, before_other, before_here, only_left}
use Rattle.voter_lists.proofs.HomeLemmas.{only_walk, noted_at, noted_join, noted_leave, noted_before, number_noted, noted_alike, noted_empty}
use Rattle.voter_lists.proofs.WalkLemmas.{Lists, walk_lists, walk_of_lists, lists_at, lists_set}

module _ (thresholds : List ℕ) (bags : List (List AccountId)) (home : AccountId → Option ℕ) (h : AreHomes thresholds bags home) where
  -- what the list says is what is noted
  pub listed_number : (who : AccountId) → number_of (walk_from 0 bags) who ≡ home who
  listed_number who = number_noted home who bags (h.within who) h.noted

  pub listed_some : (who : AccountId) → is_listed (walk_from 0 bags) who ≡ is_some (home who)
  listed_some who = ap is_some (listed_number who)

  pub not_listed : (who : AccountId) → is_listed (walk_from 0 bags) who ≡ false → home who ≡ None
  not_listed who e = at (home who) (sym (listed_some who) ∙ e) where
    at : (o : Option ℕ) → is_some o ≡ false → o ≡ None
    at None e = refl
    at (Some n) e = absurd (true≢false e)

  pub noted_somewhere : (who : AccountId) → is_listed (walk_from 0 bags) who ≡ true → home who ≡ None → ⊥
  noted_somewhere who listed none = true≢false (sym listed ∙ listed_some who ∙ ap is_some none)

  pub at_home : (who : AccountId) (noted number due : ℕ) → home who ≡ Some noted → number ≡ due → noted ≡ number → is_in (number_of (walk_from 0 bags) who) due ≡ true
  at_home who noted number due there is same = ap (λ o. is_in o due) (listed_number who ∙ there) ∙ ap (λ n. nat_eq n due) (same ∙ is) ∙ number_same due

  pub not_home : (who : AccountId) (noted number due : ℕ) → home who ≡ Some noted → number ≡ due → noted ≢ number → is_in (number_of (walk_from 0 bags) who) due ≡ false
  not_home who noted number due there is apart = ap (λ o. is_in o due) (listed_number who ∙ there) ∙ number_test noted due (λ e. apart (e ∙ sym is))

  held_at : (number : ℕ) → number < length bags → (q : AccountId) → holds (get_or bags number []) q ≡ is_in (home q) number
  held_at number lt q = noted_at home 0 number bags [] lt h.noted q ∙ ap (λ n. is_in (home q) n) (zero-add number)

  in_bag_at : (number : ℕ) → number < length bags → in_bag number (walk_from 0 bags) ≡ numbered number (get_or bags number [])
  in_bag_at number lt = subst (λ n. in_bag n (walk_from 0 bags) ≡ numbered n (get_or bags number [])) (zero-add number) (lists_at (walk_from 0 bags) 0 number bags [] lt (walk_lists 0 bags))

  -- the walk after one bag changes
  pub walk_set : (new : List (List AccountId)) (order : Order) (number : ℕ) (bag : List AccountId) → new ≡ slice_set bags number bag
      → ((other : ℕ) → other ≢ number → in_bag other order ≡ in_bag other (walk_from 0 bags)) → in_bag number order ≡ numbered number bag
      → walk_from 0 new ≡ in_walk_order thresholds order
  walk_set new order number bag is others here =
      ap (walk_from 0) is
      ∙ sym (walk_of_lists order 0 (slice_set bags number bag)
      (lists_set (walk_from 0 bags) order 0 number bags bag
      (λ other differ. others other (λ e. differ (e ∙ sym (zero-add number)))) (subst (λ n. in_bag n order
      ≡ numbered n bag) (sym (zero-add number)) here) (walk_lists 0 bags)))
      ∙ ap (λ n. from_bag 0 n order) (length-set bags number bag ∙ h.count)

  within_anew : (now : AccountId → Option ℕ) (who : AccountId) (noted : Option ℕ) → NotedAnew home now who noted
      → ((number : ℕ) → noted ≡ Some number → number < length bags) → (q : AccountId) (number : ℕ) → now q ≡ Some number → number < length bags
  within_anew now who noted anew fits q number e = by_same q who
      (λ is. fits number (sym anew.here ∙ ap now (sym is) ∙ e))
      (λ differ. h.within q number (sym (anew.others q differ) ∙ e))

  homes_set : (new : List (List AccountId)) (now : AccountId → Option ℕ) (number : ℕ) (bag : List AccountId) → new ≡ slice_set bags number bag
      → AreNoted now 0 (slice_set bags number bag) → ((q : AccountId) (place : ℕ) → now q ≡ Some place → place < length bags) → AreHomes thresholds new now
  homes_set new now number bag is noted within = record {
    few = h.few;
    rising = h.rising;
    count = ap length is ∙ length-set bags number bag ∙ h.count;
    noted = subst (AreNoted now 0) (sym is) noted;
    within = λ q place e. subst (λ n. place < n) (sym (ap length is ∙ length-set bags number bag)) (within q place e);
  }

  -- one joins
  pub joined_homes : (new : List (List AccountId)) (now : AccountId → Option ℕ) (who : AccountId) (number : ℕ) → number < length bags → home who ≡ None
      → new ≡ slice_set bags number (get_or bags number [] ++ who ∷ []) → NotedAnew home now who (Some number) → AreHomes thresholds new now
  joined_homes new now who number lt absent is anew =
      homes_set new now number (get_or bags number [] ++ who ∷ []) is
      (noted_join home now number bags (get_or bags number []) who anew absent (held_at number lt) h.noted)
      (within_anew now who (Some number) anew (λ place e. let same : number ≡ place = cc in subst (λ n. n < length bags) same lt))

  pub joined_walk : (new : List (List AccountId)) (who : AccountId) (number : ℕ) → number < length bags
      → new ≡ slice_set bags number (get_or bags number [] ++ who ∷ []) → walk_from 0 new ≡ in_walk_order thresholds (joined (walk_from 0 bags) who number)
  joined_walk new who number lt is =
      walk_set new (joined (walk_from 0 bags) who number) number (get_or bags number [] ++ who ∷ []) is
      (joined_other (walk_from 0 bags) who number) (joined_here (walk_from 0 bags) who number (get_or bags number []) (in_bag_at number lt))

  -- one leaves
  pub left_homes : (new : List (List AccountId)) (now : AccountId → Option ℕ) (who : AccountId) (number : ℕ) → home who ≡ Some number
      → new ≡ slice_set bags number (without (get_or bags number []) who) → NotedAnew home now who None → AreHomes thresholds new now
  left_homes new now who number there is anew =
      homes_set new now number (without (get_or bags number []) who) is
      (noted_leave home now number bags (get_or bags number []) who anew there (held_at number (h.within who number there)) h.noted)
      (within_anew now who None anew (λ place e. absurd (cc)))

  pub left_walk : (new : List (List AccountId)) (who : AccountId) (number : ℕ) → home who ≡ Some number
      → new ≡ slice_set bags number (without (get_or bags number []) who) → walk_from 0 new ≡ in_walk_order thresholds (left (walk_from 0 bags) who)
  left_walk new who number there is =
      walk_set new (left (walk_from 0 bags) who) number (without (get_or bags number []) who) is
      (λ other differ. left_other who number other (walk_from 0 bags) (only_walk home who number 0 bags there h.noted) differ)
      (left_here (walk_from 0 bags) who number (get_or bags number []) (in_bag_at number (h.within who number there)))

  -- one changes its place in its bag
  pub before_homes : (new : List (List AccountId)) (who lighter : AccountId) (number : ℕ) → home who ≡ Some number
      → new ≡ slice_set bags number (with_before (without (get_or bags number []) who) who lighter) → AreHomes thresholds new home
  before_homes new who lighter number there is =
      homes_set new home number (with_before (without (get_or bags number []) who) who lighter) is
      (noted_before home number bags (get_or bags number []) who lighter there (held_at number (h.within who number there)) h.noted) h.within

  pub before_walk : (new : List (List AccountId)) (who lighter : AccountId) (number : ℕ) → home who ≡ Some number → home lighter ≡ Some number
      → new ≡ slice_set bags number (with_before (without (get_or bags number []) who) who lighter)
      → walk_from 0 new ≡ in_walk_order thresholds (placed_before (left (walk_from 0 bags) who) (who, number) lighter)
  before_walk new who lighter number there other_there is =
      walk_set new (placed_before (left (walk_from 0 bags) who) (who, number) lighter) number (with_before (without (get_or bags number []) who) who lighter) is
      (λ other differ. before_other (left (walk_from 0 bags) who) who number lighter other differ
      ∙ left_other who number other (walk_from 0 bags) (only_walk home who number 0 bags there h.noted) differ)
      (before_here (left (walk_from 0 bags) who) who number lighter (without (get_or bags number []) who)
      (only_left lighter number who (walk_from 0 bags) (only_walk home lighter number 0 bags other_there h.noted))
      (left_here (walk_from 0 bags) who number (get_or bags number []) (in_bag_at number (h.within who number there))))

  -- one leaves its bag and joins another
  left_lists : (who : AccountId) (place : ℕ) → home who ≡ Some place → Lists (left (walk_from 0 bags) who) 0 (slice_set bags place (without (get_or bags place []) who))
  left_lists who place there =
      lists_set (walk_from 0 bags) (left (walk_from 0 bags) who) 0 place bags (without (get_or bags place []) who)
      (λ other differ. left_other who place other (walk_from 0 bags) (only_walk home who place 0 bags there h.noted) (λ e. differ (e ∙ sym (zero-add place))))
      (subst (λ n. in_bag n (left (walk_from 0 bags) who) ≡ numbered n (without (get_or bags place []) who)) (sym (zero-add place))
      (left_here (walk_from 0 bags) who place (get_or bags place []) (in_bag_at place (h.within who place there))))
      (walk_lists 0 bags)

-- a bag that did not change
get_apart : (bags : List (List AccountId)) (i j : ℕ) (x : List AccountId) → i ≢ j → get_or (slice_set bags i x) j [] ≡ get_or bags j []
get_apart [] i j x differ = refl
get_apart (bag ∷ bags) zero zero x differ = absurd (differ refl)
get_apart (bag ∷ bags) zero (suc j) x differ = refl
get_apart (bag ∷ bags) (suc i) zero x differ = refl
get_apart (bag ∷ bags) (suc i) (suc j) x differ = get_apart bags i j x (λ e. differ (ap suc e))

module _ (thresholds : List ℕ) (bags : List (List AccountId)) (home : AccountId → Option ℕ) (h : AreHomes thresholds bags home)
    (who : AccountId) (place number : ℕ) (there : home who ≡ Some place) (lt : number < length bags) (differ : place ≢ number) where
  between : List (List AccountId)
  between = slice_set bags place (without (get_or bags place []) who)

  nowhere : AccountId → Option ℕ
  nowhere q = if same_account q who then None else home q

  nowhere_anew : NotedAnew home nowhere who None
  unfolding nowhere
  nowhere_anew = record { here = rw (same_itself who) refl; others = λ q e. rw e refl }

  between_homes : AreHomes thresholds between nowhere
  unfolding between
  between_homes = left_homes thresholds bags home h between nowhere who place there refl nowhere_anew

  between_count : length between ≡ length bags
  unfolding between
  between_count = length-set bags place (without (get_or bags place []) who)

  in_turn : (new : List (List AccountId)) → new ≡ moved_bags bags who place number → new ≡ slice_set between number (get_or between number [] ++ who ∷ [])
  unfolding between
  in_turn new is = is ∙ ap (λ b. slice_set between number (b ++ who ∷ [])) (sym (get_apart bags place number (without (get_or bags place []) who) differ))

  pub moved_homes : (new : List (List AccountId)) (now : AccountId → Option ℕ) → new ≡ moved_bags bags who place number → NotedAnew home now who (Some number) → AreHomes thresholds new now
  unfolding nowhere
  moved_homes new now is anew =
      joined_homes thresholds between nowhere between_homes new now who number (subst (λ n. number < n) (sym between_count) lt) (rw (same_itself who) refl) (in_turn new is)
      (record { here = anew.here; others = λ q e. anew.others q e ∙ sym (rw e refl) })

  pub moved_walk : (new : List (List AccountId)) → new ≡ moved_bags bags who place number
      → walk_from 0 new ≡ in_walk_order thresholds (joined (left (walk_from 0 bags) who) who number)
  unfolding between
  moved_walk new is =
      let lists = left_lists thresholds bags home h who place there in
      let fits : number < length between = subst (λ n. number < n) (sym between_count) lt in
      ap (walk_from 0) (in_turn new is)
      ∙ sym (walk_of_lists (joined (left (walk_from 0 bags) who) who number) 0 (slice_set between number (get_or between number [] ++ who ∷ []))
      (lists_set (left (walk_from 0 bags) who) (joined (left (walk_from 0 bags) who) who number) 0 number between (get_or between number [] ++ who ∷ [])
      (λ other apart. joined_other (left (walk_from 0 bags) who) who number other (λ e. apart (e ∙ sym (zero-add number))))
      (subst (λ n. in_bag n (joined (left (walk_from 0 bags) who) who number) ≡ numbered n (get_or between number [] ++ who ∷ [])) (sym (zero-add number))
      (joined_here (left (walk_from 0 bags) who) who number (get_or between number [])
      (subst (λ n. in_bag n (left (walk_from 0 bags) who) ≡ numbered n (get_or between number [])) (zero-add number) (lists_at (left (walk_from 0 bags) who) 0 number between [] fits lists))))
      lists))
      ∙ ap (λ n. from_bag 0 n (joined (left (walk_from 0 bags) who) who number)) (length-set between number (get_or between number [] ++ who ∷ []) ∙ between_count ∙ h.count)

-- the notes taken back
pub homes_alike : (thresholds : List ℕ) (bags : List (List AccountId)) (home now : AccountId → Option ℕ)
    → ((who : AccountId) → now who ≡ home who) → AreHomes thresholds bags home → AreHomes thresholds bags now
homes_alike thresholds bags home now alike h = record {
  few = h.few;
  rising = h.rising;
  count = h.count;
  noted = noted_alike home now 0 bags alike h.noted;
  within = λ who number e. h.within who number (sym (alike who) ∙ e);
}

-- empty bags
pub empty_homes : (thresholds : List ℕ) (bags : List (List AccountId)) (home : AccountId → Option ℕ) → length thresholds ≤ MOST_THRESHOLDS → IsRisingFrom 0 thresholds
    → bags ≡ replicate (length thresholds + 1) [] → ((who : AccountId) → home who ≡ None) → AreHomes thresholds bags home
empty_homes thresholds bags home few rising is none = homes_alike thresholds bags (λ _. None) home none (record {
  few = few;
  rising = rising;
  count = ap length is ∙ length-replicate (length thresholds + 1) [];
  noted = subst (AreNoted (λ _. None) 0) (sym is) (noted_empty 0 (length thresholds + 1));
  within = λ who number e. absurd (cc);
})

pub empty_walk : (number count : ℕ) → walk_from number (replicate count []) ≡ []
empty_walk number zero = refl
empty_walk number (suc count) = append-nil (walk_from (number + 1) (replicate count [])) ∙ empty_walk (number + 1) count
