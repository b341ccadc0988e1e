-- No account stands twice in the walk.
use Rattle.std.proofs.Common.{◌≡◌, ℕ, suc, ◌+◌, ◌<◌, ◌≤◌, Bool, true, false, ◌||◌, List, [], ◌∷◌, ◌++◌, length, map, get_or, refl, sym, ap, ◌∙◌, subst, inl, inr, arith, true≢false, Option, Some, None}
use Rattle.std.specs.List.{IsDistinct, AllByRecursion}
use Rattle.std.proofs.lemmas.Bool.{or_parts}
use Rattle.npos_base.specs.declared.account.AccountId.{AccountId}
use Rattle.npos_base.specs.Account.{same_account, account_at}
use Rattle.npos_base.proofs.AccountOrder.{same_itself}
use Rattle.account_places.specs.Places.{place_in, by_account}
use Rattle.voter_lists.specs.Bags.{walk, is_in}
use Rattle.voter_lists.specs.BagRows.{falling, holds, walk_from, AreNoted}
use Rattle.voter_lists.specs.Rings.{items, IsIn, IsApart}
use Rattle.voter_lists.specs.declared.nodes.Nodes.{Nodes}
use Rattle.voter_lists.specs.Nodes.{bags_in, home_of, AreLinked}
use Rattle.npos_base.proofs.NumberTests.{number_test, number_tie}
use Rattle.voter_lists.proofs.HomeLemmas.{by_same}
use Rattle.voter_lists.proofs.NodeLemmas.{only_key, bag_read, bags_length}
use Rattle.voter_lists.proofs.WalkLemmas.{falling_apart, walk_falls}

-- who is not held differs from each that is
none_of : (x : AccountId) (ys : List AccountId) → ((q : AccountId) → holds ys q ≡ true → same_account x q ≡ false) → AllByRecursion (λ y. same_account x y ≡ false) ys
none_of x [] apart = tt
none_of x (y ∷ ys) apart = (apart y (ap (λ b. b || holds ys y) (same_itself y)), none_of x ys (λ q held. apart q (ap (λ b. same_account y q || b) held ∙ or_true (same_account y q)))) where
  or_true : (b : Bool) → (b || true) ≡ true
  or_true true = refl
  or_true false = refl

both : (P : AccountId → Type 0) (xs ys : List AccountId) → AllByRecursion P xs → AllByRecursion P ys → AllByRecursion P (xs ++ ys)
both P [] ys a b = b
both P (x ∷ xs) ys a b = (a.0, both P xs ys a.1 b)

distinct_append : (xs ys : List AccountId) → IsDistinct same_account xs → IsDistinct same_account ys → ((q : AccountId) → holds ys q ≡ true → holds xs q ≡ false) → IsDistinct same_account (xs ++ ys)
unfolding IsDistinct
distinct_append [] ys a b apart = b
distinct_append (x ∷ xs) ys a b apart = (
  both (λ y. same_account x y ≡ false) xs ys a.0 (none_of x ys (λ q held. (or_parts (same_account x q) (holds xs q) (apart q held)).0)),
  distinct_append xs ys a.1 b (λ q held. (or_parts (same_account x q) (holds xs q) (apart q held)).1),
)

-- bags of which each is distinct have a distinct walk
distinct_falling : (home : AccountId → Option ℕ) (number : ℕ) (bags : List (List AccountId)) → AreNoted home number bags
    → ((i : ℕ) → i < length bags → IsDistinct same_account (get_or bags i [])) → IsDistinct same_account (falling bags)
unfolding IsDistinct
distinct_falling home number [] noted each = tt
distinct_falling home number (bag ∷ bags) noted each =
    distinct_append (falling bags) bag (distinct_falling home (number + 1) bags noted.1 (λ i lt. each (suc i) (omega (arith, lt)))) (each 0 (omega arith))
    (λ q held. falling_apart home q (number + 1) bags (λ other above. elsewhere (home q) other (sym (noted.0 q) ∙ held) above) noted.1) where
      elsewhere : (o : Option ℕ) (other : ℕ) → is_in o number ≡ true → number + 1 ≤ other → is_in o other ≡ false
      elsewhere None other e above = absurd (true≢false (sym e))
      elsewhere (Some n) other e above = number_test n other (λ same. absurd (omega (arith, same, above, number_tie n number e)))

-- keys that stand once, each with an account of its own
module _ (account : ℕ → AccountId) where
  all_keys : (P : AccountId → Type 0) (keys : List ℕ) → ((k : ℕ) → IsIn k keys → P (account k)) → AllByRecursion P (map account keys)
  all_keys P [] each = tt
  all_keys P (k ∷ keys) each = (each k (inl refl), all_keys P keys (λ j found. each j (inr found)))

  distinct_keys : (keys : List ℕ) → IsApart keys → ((k j : ℕ) → IsIn k keys → IsIn j keys → account k ≡ account j → k ≡ j) → IsDistinct same_account (map account keys)
  unfolding IsDistinct
  distinct_keys [] apart only = tt
  distinct_keys (k ∷ keys) apart only = (
    all_keys (λ y. same_account (account k) y ≡ false) keys
        (λ j found. by_same (account k) (account j) (λ same. absurd (apart.0 (subst (λ i. IsIn i keys) (sym (only k j (inl refl) (inr found) same)) found))) (λ e. e)),
    distinct_keys keys apart.1 (λ i j a b. only i j (inr a) (inr b)),
  )

pub walk_once : (thresholds : List ℕ) (nodes : Nodes) → AreLinked thresholds nodes → IsDistinct same_account (walk (walk_from 0 (bags_in nodes)))
walk_once thresholds nodes linked =
    let account = account_at nodes.places in
    subst (IsDistinct same_account) (sym (walk_falls 0 (bags_in nodes)))
    (distinct_falling (home_of nodes) 0 (bags_in nodes) linked.homes.noted
    (λ i lt.
    let below : i < nodes.bags = omega (arith, lt, bags_length nodes.rings account nodes.bags) in
    subst (IsDistinct same_account) (sym (bag_read nodes.rings account nodes.bags i below))
    (distinct_keys account (items nodes.rings i) (linked.standing.fit.apart i)
    (λ k j a b same. only_key nodes.rings nodes.places (place_in (by_account nodes.places)) nodes.bags linked.standing j i (linked.standing.fit.owned i j b) k a same))))
