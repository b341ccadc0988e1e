-- The bags stay the one list of the accounts with a role.
use Rattle.std.proofs.Common.{◌≡◌, ◌≢◌, ℕ, zero, suc, ◌+◌, ◌≤◌, ◌<◌, Bool, true, false, cond, not, nat_lt, nat_eq, All, List, [], ◌∷◌, ◌++◌}
use Rattle.std.proofs.Common.{length, filter, Option, Some, None, is_some, refl, sym, ◌∙◌, ap, ap₂, subst, arith, true≢false, if◌then◌else◌}
use Rattle.std.proofs.lemmas.Bool.Decides.{nat_tests}
use Rattle.std.proofs.lemmas.List.Elements.{All-filter, All-append, All-cons, All-head, All-tail}
use Rattle.std.proofs.lemmas.List.Sums.{sum_by-cons}
use Rattle.npos_base.specs.declared.account.AccountId.{AccountId}
use Rattle.npos_base.specs.Account.{same_account}
use Rattle.npos_base.proofs.AccountOrder.{same_exact, same_itself}
use Rattle.voter_lists.specs.declared.standing.Standing.{Standing}
use Rattle.voter_lists.specs.declared.standing.Standing.TheVariants.{Nominator, Validator}
use Rattle.voter_lists.specs.Roles.{RoleList, standing_of, role_in, role_of}
use Rattle.voter_lists.specs.Bags.{Order, Listing, walk, in_bag, from_bag, in_walk_order, joined, left, placed_before, number_of}
use Rattle.voter_lists.specs.Bags.{number_at, is_listed, is_at_home, bag_of, inserted, removed, moved, updated, put_in_front}
use Rattle.npos_runtime.specs.Rules.Lists.{has_role, is_role, followed, unlisted, placed}
use Rattle.npos_runtime.specs.Live.{IsJoined, IsListing, times}

abbrev pub one : Bool → ℕ
one b = cond b 1 0

pub times_cons : (who a : AccountId) (more : List AccountId) → times who (a ∷ more) ≡ one (same_account a who) + times who more
times_cons who a more = sum_by-cons (λ (x : AccountId). cond (same_account x who) 1 0) a more

-- how often an account stands in the order
abbrev pub seen : AccountId → Order → ℕ
seen who [] = 0
seen who (entry ∷ order) = one (same_account entry.0 who) + seen who order

times_seen : (who : AccountId) (order : Order) → times who (walk order) ≡ seen who order
times_seen who [] = refl
times_seen who (entry ∷ order) =
    times_cons who entry.0 (walk order) ∙ ap (λ n. one (same_account entry.0 who) + n) (times_seen who order)

listed_some : (who : AccountId) (order : Order) → is_listed order who ≡ true → 1 ≤ seen who order
listed_some who [] e = absurd (true≢false (sym e))
listed_some who (entry ∷ order) e = at (same_account entry.0 who) e (listed_some who order) where
  at : (b : Bool) → is_some (if b then Some entry.1 else number_of order who) ≡ true → (is_listed order who ≡ true → 1 ≤ seen who order)
      → 1 ≤ one b + seen who order
  at true e rest = omega arith
  at false e rest = omega (arith, rest e)

listed_none : (who : AccountId) (order : Order) → is_listed order who ≡ false → seen who order ≡ 0
listed_none who [] e = refl
listed_none who (entry ∷ order) e = at (same_account entry.0 who) e (listed_none who order) where
  at : (b : Bool) → is_some (if b then Some entry.1 else number_of order who) ≡ false → (is_listed order who ≡ false → seen who order ≡ 0)
      → one b + seen who order ≡ 0
  at true e rest = absurd (true≢false e)
  at false e rest = omega (arith, rest e)

-- two accounts are one, or the test tells them apart
pub by_account : {P : Type 0} (q who : AccountId) → (q ≡ who → P) → (same_account q who ≡ false → P) → P
by_account {P} q who one other = at (same_account q who) refl where
  at : (b : Bool) → same_account q who ≡ b → P
  at true e = one (same_exact q who e)
  at false e = other e

-- each account for which the test holds stands once, and no other stands there; its bag is one that there is
pub record IsListed (has : AccountId → Bool) (listing : Listing) : Type 0 where
  pub seen_is : (who : AccountId) → seen who listing.order ≡ one (has who)
  pub numbered : All (λ entry. entry.1 ≤ length listing.thresholds) listing.order

exactly : (h : Bool) (who : AccountId) (order : Order) → is_listed order who ≡ h → seen who order ≤ 1 → seen who order ≡ one h
exactly true who order e most = omega (arith, listed_some who order e, most)
exactly false who order e most = listed_none who order e

pub listed_from : (roles : RoleList) (listing : Listing) → IsListing roles listing → IsListed (has_role roles) listing
listed_from roles listing is = record {
  seen_is = λ who. exactly (has_role roles who) who listing.order (is.listed who) (omega (arith, times_seen who listing.order, is.once who));
  numbered = is.numbered;
}

one_most : (b : Bool) → one b ≤ 1
one_most true = omega arith
one_most false = omega arith

found : (h b : Bool) (who : AccountId) (order : Order) → is_listed order who ≡ b → seen who order ≡ one h → b ≡ h
found true true who order e is = refl
found false false who order e is = refl
found true false who order e is = absurd (omega (arith, listed_none who order e, is))
found false true who order e is = absurd (omega (arith, listed_some who order e, is))

pub listing_from : (roles : RoleList) (listing : Listing) → IsListed (has_role roles) listing → IsListing roles listing
listing_from roles listing is = record {
  listed = λ who. found (has_role roles who) (is_listed listing.order who) who listing.order refl (is.seen_is who);
  once = λ who. omega (arith, times_seen who listing.order, is.seen_is who, one_most (has_role roles who));
  numbered = is.numbered;
}

-- how often each account stands after each change
seen_append : (who : AccountId) (xs ys : Order) → seen who (xs ++ ys) ≡ seen who xs + seen who ys
seen_append who [] ys = omega arith
seen_append who (x ∷ xs) ys = omega (arith, seen_append who xs ys)

seen_left_it : (who : AccountId) (order : Order) → seen who (left order who) ≡ 0
seen_left_it who [] = refl
seen_left_it who (entry ∷ order) = at (same_account entry.0 who) refl (seen_left_it who order) where
  at : (b : Bool) → same_account entry.0 who ≡ b → seen who (left order who) ≡ 0 → seen who (cond (not b) (entry ∷ left order who) (left order who)) ≡ 0
  at true e rest = rest
  at false e rest = let z : one (same_account entry.0 who) ≡ 0 = ap (λ b. one b) e in omega (arith, z, rest)

seen_left_other : (q who : AccountId) (order : Order) → same_account who q ≡ false → seen q (left order who) ≡ seen q order
seen_left_other q who [] apart = refl
seen_left_other q who (entry ∷ order) apart = at (same_account entry.0 who) refl (seen_left_other q who order apart) where
  at : (b : Bool) → same_account entry.0 who ≡ b → seen q (left order who) ≡ seen q order
      → seen q (cond (not b) (entry ∷ left order who) (left order who)) ≡ one (same_account entry.0 q) + seen q order
  at true e rest =
      let z : one (same_account entry.0 q) ≡ 0 = ap (λ (a : AccountId). one (same_account a q)) (same_exact entry.0 who e) ∙ ap (λ b. one b) apart in
      omega (arith, z, rest)
  at false e rest = omega (arith, rest)

seen_before : (who : AccountId) (order : Order) (entry : AccountId × ℕ) (lighter : AccountId)
    → seen who (placed_before order entry lighter) ≡ one (same_account entry.0 who) + seen who order
seen_before who [] entry lighter = refl
seen_before who (other ∷ order) entry lighter = at (same_account other.0 lighter) (seen_before who order entry lighter) where
  at : (b : Bool) → seen who (placed_before order entry lighter) ≡ one (same_account entry.0 who) + seen who order
      → seen who (if b then entry ∷ other ∷ order else other ∷ placed_before order entry lighter)
      ≡ one (same_account entry.0 who) + (one (same_account other.0 who) + seen who order)
  at true rest = refl
  at false rest = omega (arith, rest)

-- bag by bag each account stands as often
bag_apart : (entry : AccountId × ℕ) (order : Order) (number : ℕ) → nat_eq entry.1 number ≡ false → in_bag number (entry ∷ order) ≡ in_bag number order
bag_apart entry order number e = rw e refl

seen_none : (who : AccountId) (number more : ℕ) → seen who (from_bag number more []) ≡ 0
seen_none who number zero = refl
seen_none who number (suc more) = seen_append who (from_bag (number + 1) more []) [] ∙ omega (arith, seen_none who (number + 1) more)

module _ (who : AccountId) (entry : AccountId × ℕ) (order : Order) where
  seen_below : (number more : ℕ) → entry.1 < number → seen who (from_bag number more (entry ∷ order)) ≡ seen who (from_bag number more order)
  seen_below number zero lt = refl
  seen_below number (suc more) lt =
      let apart : nat_eq entry.1 number ≡ false = grind (arith, nat_tests) in
      seen_append who (from_bag (number + 1) more (entry ∷ order)) (in_bag number (entry ∷ order))
      ∙ (ap₂ (λ a b. a + b) (seen_below (number + 1) more (omega (arith, lt))) (ap (seen who) (bag_apart entry order number apart))
      ∙ sym (seen_append who (from_bag (number + 1) more order) (in_bag number order)))

  seen_here : (number : ℕ) → nat_eq entry.1 number ≡ true → seen who (in_bag number (entry ∷ order)) ≡ one (same_account entry.0 who) + seen who (in_bag number order)
  seen_here number e = rw e refl

  moved_in : (a b c d k : ℕ) → a ≡ c → b ≡ k + d → a + b ≡ k + (c + d)
  moved_in a b c d k p q = omega (arith, p, q)

  moved_out : (a b c d k : ℕ) → a ≡ k + c → b ≡ d → a + b ≡ k + (c + d)
  moved_out a b c d k p q = omega (arith, p, q)

  seen_within : (number more : ℕ) → number ≤ entry.1 → entry.1 < number + more
      → seen who (from_bag number more (entry ∷ order)) ≡ one (same_account entry.0 who) + seen who (from_bag number more order)
  seen_within number zero from to = absurd (omega (arith, from, to))
  seen_within number (suc more) from to = at (nat_eq entry.1 number) refl (λ later. seen_within (number + 1) more later (omega (arith, to))) where
    split : (xs : Order) → seen who (from_bag number (suc more) xs) ≡ seen who (from_bag (number + 1) more xs) + seen who (in_bag number xs)
    split xs = seen_append who (from_bag (number + 1) more xs) (in_bag number xs)

    at : (b : Bool) → nat_eq entry.1 number ≡ b
        → (number + 1 ≤ entry.1 → seen who (from_bag (number + 1) more (entry ∷ order)) ≡ one (same_account entry.0 who) + seen who (from_bag (number + 1) more order))
        → seen who (from_bag number (suc more) (entry ∷ order)) ≡ one (same_account entry.0 who) + seen who (from_bag number (suc more) order)
    at true e rest =
        let tie : entry.1 ≡ number = grind (arith, nat_tests) in
        split (entry ∷ order) ∙ (moved_in _ _ _ _ _ (seen_below (number + 1) more (omega (arith, tie))) (seen_here number e)
        ∙ ap (λ n. one (same_account entry.0 who) + n) (sym (split order)))
    at false e rest =
        let apart : entry.1 ≢ number = grind (arith, nat_tests) in
        split (entry ∷ order) ∙ (moved_out _ _ _ _ _ (rest (omega (arith, from, apart))) (ap (seen who) (bag_apart entry order number e))
        ∙ ap (λ n. one (same_account entry.0 who) + n) (sym (split order)))

abbrev pub IsNumbered : ℕ → Order → Type 0
IsNumbered most order = All (λ (entry : AccountId × ℕ). entry.1 ≤ most) order

seen_walked : (who : AccountId) (thresholds : List ℕ) (order : Order) → IsNumbered (length thresholds) order → seen who (in_walk_order thresholds order) ≡ seen who order
seen_walked who thresholds [] within = seen_none who 0 (length thresholds + 1)
seen_walked who thresholds (entry ∷ order) within =
    let here : entry.1 ≤ length thresholds = All-head (λ (entry : AccountId × ℕ). entry.1 ≤ length thresholds) entry order within in
    seen_within who entry order 0 (length thresholds + 1) (omega arith) (omega (arith, here))
    ∙ ap (λ n. one (same_account entry.0 who) + n) (seen_walked who thresholds order (All-tail (λ (entry : AccountId × ℕ). entry.1 ≤ length thresholds) entry order within))

module _ (most : ℕ) where
  abbrev IsFit : AccountId × ℕ → Type 0
  IsFit entry = entry.1 ≤ most

  nobody_fits : All IsFit []
  nobody_fits = λ k d few. absurd (omega arith)

  pub numbered_from : (number more : ℕ) (order : Order) → All IsFit order → All IsFit (from_bag number more order)
  numbered_from number zero order within = nobody_fits
  numbered_from number (suc more) order within =
      All-append IsFit (from_bag (number + 1) more order) (in_bag number order) (numbered_from (number + 1) more order within)
      (All-filter (λ entry. nat_eq entry.1 number) IsFit order within)

  pub numbered_left : (who : AccountId) (order : Order) → All IsFit order → All IsFit (left order who)
  numbered_left who order within = All-filter (λ entry. not (same_account entry.0 who)) IsFit order within

  pub numbered_joined : (who : AccountId) (number : ℕ) (order : Order) → number ≤ most → All IsFit order → All IsFit (joined order who number)
  numbered_joined who number order small within = All-append IsFit order ((who, number) ∷ []) within (All-cons IsFit (who, number) [] small nobody_fits)

  pub numbered_before : (entry : AccountId × ℕ) (lighter : AccountId) (order : Order) → entry.1 ≤ most → All IsFit order → All IsFit (placed_before order entry lighter)
  numbered_before entry lighter [] small within = All-cons IsFit entry [] small within
  numbered_before entry lighter (other ∷ order) small within =
      at (same_account other.0 lighter) (numbered_before entry lighter order small (All-tail IsFit other order within)) where
        at : (b : Bool) → All IsFit (placed_before order entry lighter) → All IsFit (if b then entry ∷ other ∷ order else other ∷ placed_before order entry lighter)
        at true rest = All-cons IsFit entry (other ∷ order) small within
        at false rest = All-cons IsFit other (placed_before order entry lighter) (All-head IsFit other order within) rest

  pub number_fits : (who : AccountId) (order : Order) → All IsFit order → number_at (number_of order who) ≤ most
  number_fits who [] within = omega arith
  number_fits who (entry ∷ order) within = at (same_account entry.0 who) (number_fits who order (All-tail IsFit entry order within)) where
    at : (b : Bool) → number_at (number_of order who) ≤ most → number_at (if b then Some entry.1 else number_of order who) ≤ most
    at true rest = All-head IsFit entry order within
    at false rest = rest

bag_fits : (score : ℕ) (thresholds : List ℕ) → bag_of thresholds score ≤ length thresholds
bag_fits score [] = omega arith
bag_fits score (threshold ∷ thresholds) =
    omega (arith, sum_by-cons (λ (t : ℕ). cond (nat_lt t score) 1 0) threshold thresholds, bag_fits score thresholds, one_most (nat_lt threshold score))

-- the list after each call on it
module _ (has now : AccountId → Bool) (listing : Listing) (who : AccountId) (is : IsListed has listing)
    (others : (q : AccountId) → same_account who q ≡ false → now q ≡ has q) where
  kept_with : (order : Order) → IsNumbered (length listing.thresholds) order → seen who order ≡ one (now who)
      → ((q : AccountId) → same_account who q ≡ false → seen q order ≡ seen q listing.order)
      → IsListed now (record { thresholds = listing.thresholds; order = in_walk_order listing.thresholds order })
  kept_with order within here apart = record {
    seen_is = λ q. seen_walked q listing.thresholds order within ∙ by_account who q
        (λ e. subst (λ (a : AccountId). seen a order ≡ one (now a)) e here)
        (λ e. apart q e ∙ (is.seen_is q ∙ ap (λ b. one b) (sym (others q e))));
    numbered = numbered_from (length listing.thresholds) 0 (length listing.thresholds + 1) order within;
  }

  pub kept_inserted : (score : ℕ) → has who ≡ false → now who ≡ true → IsListed now (inserted listing who score)
  kept_inserted score absent present =
      let number : ℕ = bag_of listing.thresholds score in
      let count : (q : AccountId) → seen q (joined listing.order who number) ≡ seen q listing.order + one (same_account who q) =
      λ q. omega (arith, seen_append q listing.order ((who, number) ∷ [])) in
      let itself : one (same_account who who) ≡ 1 = ap (λ b. one b) (same_itself who) in
      let before : seen who listing.order ≡ 0 = is.seen_is who ∙ ap (λ b. one b) absent in
      let after : one (now who) ≡ 1 = ap (λ b. one b) present in
      kept_with (joined listing.order who number)
      (numbered_joined (length listing.thresholds) who number listing.order (bag_fits score listing.thresholds) is.numbered)
      (omega (arith, count who, itself, before, after))
      (λ q e. let z : one (same_account who q) ≡ 0 = ap (λ b. one b) e in omega (arith, count q, z))

  pub kept_removed : now who ≡ false → IsListed now (removed listing who)
  kept_removed absent =
      kept_with (left listing.order who) (numbered_left (length listing.thresholds) who listing.order is.numbered)
      (seen_left_it who listing.order ∙ sym (ap (λ b. one b) absent))
      (λ q e. seen_left_other q who listing.order e)

  pub kept_moved : (score : ℕ) → now who ≡ true → IsListed now (moved listing who score)
  kept_moved score present =
      let number : ℕ = bag_of listing.thresholds score in
      let rest : Order = left listing.order who in
      let count : (q : AccountId) → seen q (joined rest who number) ≡ seen q rest + one (same_account who q) =
      λ q. omega (arith, seen_append q rest ((who, number) ∷ [])) in
      let itself : one (same_account who who) ≡ 1 = ap (λ b. one b) (same_itself who) in
      let after : one (now who) ≡ 1 = ap (λ b. one b) present in
      kept_with (joined rest who number)
      (numbered_joined (length listing.thresholds) who number rest (bag_fits score listing.thresholds) (numbered_left (length listing.thresholds) who listing.order is.numbered))
      (omega (arith, count who, itself, seen_left_it who listing.order, after))
      (λ q e. let z : one (same_account who q) ≡ 0 = ap (λ b. one b) e in omega (arith, count q, z, seen_left_other q who listing.order e))

  pub kept_before : (lighter : AccountId) → now who ≡ true
      → IsListed now (record {
        thresholds = listing.thresholds;
        order = in_walk_order listing.thresholds
            (placed_before (left listing.order who) (who, number_at (number_of listing.order who)) lighter);
      })
  kept_before lighter present =
      let number : ℕ = number_at (number_of listing.order who) in
      let rest : Order = left listing.order who in
      let count : (q : AccountId) → seen q (placed_before rest (who, number) lighter) ≡ one (same_account who q) + seen q rest =
      λ q. seen_before q rest (who, number) lighter in
      let itself : one (same_account who who) ≡ 1 = ap (λ b. one b) (same_itself who) in
      let after : one (now who) ≡ 1 = ap (λ b. one b) present in
      kept_with (placed_before rest (who, number) lighter)
      (numbered_before (length listing.thresholds) (who, number) lighter rest (number_fits (length listing.thresholds) who listing.order is.numbered)
      (numbered_left (length listing.thresholds) who listing.order is.numbered))
      (omega (arith, count who, itself, seen_left_it who listing.order, after))
      (λ q e. let z : one (same_account who q) ≡ 0 = ap (λ b. one b) e in omega (arith, count q, z, seen_left_other q who listing.order e))

-- the list after the clauses of the calls
module _ (has : AccountId → Bool) (listing : Listing) (who : AccountId) (is : IsListed has listing) where
  same_still : (q : AccountId) → same_account who q ≡ false → has q ≡ has q
  same_still q e = refl

  listed_is : (b : Bool) → is_listed listing.order who ≡ b → b ≡ has who
  listed_is b e = found (has who) b who listing.order e (is.seen_is who)

  pub kept_updated : (score : ℕ) → is_listed listing.order who ≡ true → IsListed has (updated listing who score)
  kept_updated score listed = at (is_at_home listing who score) where
    at : (b : Bool) → IsListed has (if b then listing else moved listing who score)
    at true = is
    at false = kept_moved has has listing who is same_still score (sym (listed_is true listed))

  pub kept_followed : (score : ℕ) → IsListed has (followed listing who score)
  kept_followed score = at (is_listed listing.order who) refl where
    at : (b : Bool) → is_listed listing.order who ≡ b → IsListed has (if b then updated listing who score else listing)
    at true e = kept_updated score e
    at false e = is

  pub kept_front : (lighter : AccountId) → is_listed listing.order who ≡ true → IsListed has (put_in_front listing who lighter)
  kept_front lighter listed = at (same_account who lighter) where
    at : (b : Bool) → IsListed has (if b then listing
        else record { thresholds = listing.thresholds; order = in_walk_order listing.thresholds (placed_before (left listing.order who) (who, number_at (number_of listing.order who)) lighter) })
    at true = is
    at false = kept_before has has listing who is same_still lighter (sym (listed_is true listed))

  pub kept_rebagged : (score : ℕ) → is_listed listing.order who ≡ true → IsListed has (moved listing who score)
  kept_rebagged score listed = kept_moved has has listing who is same_still score (sym (listed_is true listed))

  module _ (now : AccountId → Bool) (others : (q : AccountId) → same_account who q ≡ false → now q ≡ has q) where
    pub kept_unlisted : now who ≡ false → IsListed now (unlisted listing who)
    kept_unlisted absent = at (is_listed listing.order who) refl where
      at : (b : Bool) → is_listed listing.order who ≡ b → IsListed now (if b then removed listing who else listing)
      at true e = kept_removed has now listing who is others absent
      at false e = record {
        seen_is = λ q. is.seen_is q ∙ by_account who q
            (λ same. subst (λ (a : AccountId). one (has a) ≡ one (now a)) same (ap (λ b. one b) (sym (listed_is false e) ∙ sym absent)))
            (λ apart. ap (λ b. one b) (sym (others q apart)));
        numbered = is.numbered;
      }

-- an account that takes a role has a place
pub kept_placed : (has now : AccountId → Bool) (listing : Listing) (who : AccountId) → IsListed has listing
    → ((q : AccountId) → same_account who q ≡ false → now q ≡ has q) → now who ≡ true
    → (stays : Bool) (score : ℕ) → (stays ≡ true → has who ≡ true) → IsListed now (placed stays listing who score)
kept_placed has now listing who is others present true score stayed = record {
  seen_is = λ q. is.seen_is q ∙ by_account who q
      (λ same. subst (λ (a : AccountId). one (has a) ≡ one (now a)) same (ap (λ b. one b) (stayed refl ∙ sym present)))
      (λ apart. ap (λ b. one b) (sym (others q apart)));
  numbered = is.numbered;
}
kept_placed has now listing who is others present false score stayed =
    kept_inserted between now (unlisted listing who) who
    (kept_unlisted has listing who is between (λ q e. rw e refl) (rw (same_itself who) refl))
    (λ q e. others q e ∙ sym (rw e refl)) score (rw (same_itself who) refl) present where
      between : AccountId → Bool
      between q = if same_account who q then false else has q

-- who joins a bag is in none
pub nowhere_unlisted : (listing : Listing) (who : AccountId) → is_listed (unlisted listing who).order who ≡ false
nowhere_unlisted listing who = at (is_listed listing.order who) refl where
  gone : (thresholds : List ℕ) (order : Order) → is_listed (in_walk_order thresholds (left order who)) who ≡ false
  gone thresholds order = none_from 0 (length thresholds + 1) where
    none : (xs : Order) → seen who xs ≡ 0 → is_listed xs who ≡ false
    none xs e = nothing (is_listed xs who) refl where
      nothing : (b : Bool) → is_listed xs who ≡ b → b ≡ false
      nothing true f = absurd (omega (arith, listed_some who xs f, e))
      nothing false f = refl

    few : (test : AccountId × ℕ → Bool) (xs : Order) → seen who xs ≡ 0 → seen who (filter test xs) ≡ 0
    few test [] e = refl
    few test (x ∷ xs) e = pick (test x) (few test xs (omega (arith, e))) where
      pick : (b : Bool) → seen who (filter test xs) ≡ 0 → seen who (cond b (x ∷ filter test xs) (filter test xs)) ≡ 0
      pick true rest = omega (arith, e, rest)
      pick false rest = rest

    count : (number more : ℕ) → seen who (from_bag number more (left order who)) ≡ 0
    count number zero = refl
    count number (suc more) =
        omega (
          arith,
          seen_append who (from_bag (number + 1) more (left order who)) (in_bag number (left order who)),
          count (number + 1) more,
          few (λ entry. nat_eq entry.1 number) (left order who) (seen_left_it who order),
        )

    none_from : (number more : ℕ) → is_listed (from_bag number more (left order who)) who ≡ false
    none_from number more = none (from_bag number more (left order who)) (count number more)

  at : (b : Bool) → is_listed listing.order who ≡ b → is_listed (if b then removed listing who else listing).order who ≡ false
  at true e = gone listing.thresholds listing.order
  at false e = e

-- who has a role has one of the two
role_found : (found : Option Standing) → is_role (role_in found) ≡ is_some found
role_found None = refl
role_found (Some (Nominator targets)) = refl
role_found (Some (Validator commission)) = refl

pub role_tells : (roles : RoleList) (who : AccountId) → is_role (role_of roles who) ≡ has_role roles who
role_tells roles who = role_found (standing_of roles who)

-- and that one stands in the bags
pub role_listed : (roles : RoleList) (listing : Listing) (who : AccountId) → IsJoined roles listing → is_listed listing.order who ≡ is_role (role_of roles who)
role_listed roles listing who joined = joined who ∙ sym (role_tells roles who)
