-- Roles are put one by one, and accounts join the bags in the order of the walk.
use Rattle.std.proofs.Common.{◌≡◌, ◌∙◌, ℕ, zero, suc, ◌+◌, ◌<◌, ◌≤◌, Bool, true, false, cond, nat_eq, nat_lt, List, [], ◌∷◌, ◌++◌, length, filter, All, None, refl, ap, sym, arith}
use Rattle.std.proofs.lemmas.Grind.{common_steps}
use Rattle.std.proofs.lemmas.List.Elements.{All-cons, All-nil, All-tail, All-filter, All-append}
use Rattle.std.proofs.lemmas.List.Sums.{count_by-le-length}
use Rattle.npos_base.specs.declared.account.AccountId.{AccountId}
use Rattle.npos_base.proofs.NumberTests.{number_same, number_tie}
use Rattle.voter_lists.specs.Roles.{RoleList, is_validator, validators_of, validate_refusal}
use Rattle.voter_lists.specs.Ranked.{AreRanked}
use Rattle.voter_lists.specs.Bags.{Order, Listing, bag_of, in_bag, from_bag, in_walk_order, joined, inserted}
use Rattle.voter_lists.specs.Taken.{NeverRises}
use Rattle.voter_lists.proofs.OneWalkLemmas.{same_walk}

-- who may become a validator and is none finds room
pub room_for : (who : AccountId) (commission : ℕ) (roles : RoleList) (accounts : List AccountId) → AreRanked roles accounts
    → validate_refusal roles who commission ≡ None → is_validator roles who ≡ false → length accounts < 2048
room_for who commission roles accounts ranked none absent =
    let room : length (validators_of roles) < 2048 = grind (arith, common_steps, none, absent) in
    omega (arith, room, ap length ranked.ranked)

head_of : (P : AccountId × ℕ → Type 0) (e : AccountId × ℕ) (es : Order) → All P (e ∷ es) → P e
head_of P e es all = all 0 e (omega arith)

-- ---- an order whose bags never rise is walked as it stands

abbrev above : ℕ → Order → Order
above number order = filter (λ entry. nat_lt number entry.1) order

above_falls : (number : ℕ) (order : Order) → NeverRises order → NeverRises (above number order)
above_falls number [] falls = tt
above_falls number (e ∷ es) falls = at (nat_lt number e.1) (above_falls number es falls.1) where
  at : (b : Bool) → NeverRises (above number es) → NeverRises (cond b (e ∷ above number es) (above number es))
  at true rest = (All-filter (λ entry. nat_lt number entry.1) (λ later. later.1 ≤ e.1) es falls.0, rest)
  at false rest = rest

none_above : (number : ℕ) (order : Order) → All (λ e. e.1 ≤ number) order → above number order ≡ []
none_above number [] all = refl
none_above number (e ∷ es) all =
    let low : nat_lt number e.1 ≡ false = grind (arith, common_steps, head_of (λ x. x.1 ≤ number) e es all) in
    rw low (none_above number es (All-tail (λ x. x.1 ≤ number) e es all))

-- those above the lowest bag, then those in it
split : (number : ℕ) (order : Order) → NeverRises order → All (λ e. number ≤ e.1) order → above number order ++ in_bag number order ≡ order
split number [] falls low = refl
split number (e ∷ es) falls low = at (nat_lt number e.1) refl (split number es falls.1 (All-tail (λ x. number ≤ x.1) e es low)) where
  at : (b : Bool) → nat_lt number e.1 ≡ b → above number es ++ in_bag number es ≡ es
      → cond b (e ∷ above number es) (above number es) ++ in_bag number (e ∷ es) ≡ e ∷ es
  at true is rest =
      let other : nat_eq e.1 number ≡ false = grind (arith, common_steps, is) in
      rw other (ap (λ l. e ∷ l) rest)
  at false is rest =
      let here : e.1 ≡ number = grind (arith, common_steps, is, head_of (λ x. number ≤ x.1) e es low) in
      let nobody : above number es ≡ [] = none_above number es (λ k d below. omega (arith, falls.0 k d below, here)) in
      let test : nat_eq e.1 number ≡ true = ap (λ n. nat_eq n number) here ∙ number_same number in
      rw (test, nobody) (ap (λ l. e ∷ l) (ap (λ l. l ++ in_bag number es) (sym nobody) ∙ rest))

above_bag : (number k : ℕ) (order : Order) → number < k → in_bag k order ≡ in_bag k (above number order)
above_bag number k [] over = refl
above_bag number k (e ∷ es) over = at (nat_lt number e.1) refl (above_bag number k es over) where
  at : (b : Bool) → nat_lt number e.1 ≡ b → in_bag k es ≡ in_bag k (above number es)
      → in_bag k (e ∷ es) ≡ in_bag k (cond b (e ∷ above number es) (above number es))
  at true is rest = ap (λ l. cond (nat_eq e.1 k) (e ∷ l) l) rest
  at false is rest = let other : nat_eq e.1 k ≡ false = grind (arith, common_steps, is, over) in rw other rest

walked_from : (number count : ℕ) (order : Order) → NeverRises order → All (λ e. number ≤ e.1) order → All (λ e. e.1 < number + count) order
    → from_bag number count order ≡ order
walked_from number zero [] falls low high = refl
walked_from number zero (e ∷ es) falls low high =
    absurd (omega (arith, head_of (λ x. number ≤ x.1) e es low, head_of (λ x. x.1 < number + zero) e es high))
walked_from number (suc more) order falls low high =
    ap (λ l. l ++ in_bag number order)
    (same_walk (number + 1) more order (above number order) (λ k over under. above_bag number k order (omega (arith, over)))
    ∙ walked_from (number + 1) more (above number order) (above_falls number order falls) (higher order)
    (All-filter (λ entry. nat_lt number entry.1) (λ e. e.1 < number + 1 + more) order (λ k d below. omega (arith, high k d below))))
    ∙ split number order falls low where
      higher : (order : Order) → All (λ e. number + 1 ≤ e.1) (above number order)
      higher [] = All-nil _
      higher (e ∷ es) = at (nat_lt number e.1) refl (higher es) where
        at : (b : Bool) → nat_lt number e.1 ≡ b → All (λ x. number + 1 ≤ x.1) (above number es) → All (λ x. number + 1 ≤ x.1) (cond b (e ∷ above number es) (above number es))
        at true is rest = All-cons (λ (x : AccountId × ℕ). number + 1 ≤ x.1) e (above number es) (grind (arith, common_steps, is)) rest
        at false is rest = rest

pub walked_itself : (listing : Listing) → NeverRises listing.order → All (λ entry. entry.1 ≤ length listing.thresholds) listing.order
    → in_walk_order listing.thresholds listing.order ≡ listing.order
walked_itself listing falls numbered =
    walked_from 0 (length listing.thresholds + 1) listing.order falls (λ k d below. omega arith) (λ k d below. omega (arith, numbered k d below))

-- ---- and the bags of a walk never rise

bag_falls : (number : ℕ) (order : Order) → All (λ e. e.1 ≤ number) (in_bag number order) × (All (λ e. number ≤ e.1) (in_bag number order) × NeverRises (in_bag number order))
bag_falls number [] = (All-nil _, (All-nil _, tt))
bag_falls number (e ∷ es) = at (nat_eq e.1 number) refl (bag_falls number es) where
  at : (b : Bool) → nat_eq e.1 number ≡ b
      → All (λ x. x.1 ≤ number) (in_bag number es) × (All (λ x. number ≤ x.1) (in_bag number es) × NeverRises (in_bag number es))
      → (let bag = cond b (e ∷ in_bag number es) (in_bag number es) in All (λ x. x.1 ≤ number) bag × (All (λ x. number ≤ x.1) bag × NeverRises bag))
  at true is rest =
      let here : e.1 ≡ number = number_tie e.1 number is in (
        All-cons (λ (x : AccountId × ℕ). x.1 ≤ number) e (in_bag number es) (omega (arith, here)) rest.0,
        (
          All-cons (λ (x : AccountId × ℕ). number ≤ x.1) e (in_bag number es) (omega (arith, here)) rest.1.0,
          ((λ k d below. omega (arith, rest.0 k d below, here)), rest.1.1),
        ),
      )
  at false is rest = rest

falls_behind : (number : ℕ) (xs ys : Order) → NeverRises xs → All (λ e. number ≤ e.1) xs → NeverRises ys → All (λ e. e.1 ≤ number) ys → NeverRises (xs ++ ys)
falls_behind number [] ys first over second under = second
falls_behind number (x ∷ xs) ys first over second under = (
  All-append (λ later. later.1 ≤ x.1) xs ys first.0 (λ k d below. omega (arith, under k d below, head_of (λ e. number ≤ e.1) x xs over)),
  falls_behind number xs ys first.1 (All-tail (λ e. number ≤ e.1) x xs over) second under,
)

walk_falls : (number count : ℕ) (order : Order) → NeverRises (from_bag number count order) × All (λ e. number ≤ e.1) (from_bag number count order)
walk_falls number zero order = (tt, All-nil _)
walk_falls number (suc more) order =
    let rest = walk_falls (number + 1) more order in
    let bag = bag_falls number order in
    let over : All (λ (e : AccountId × ℕ). number ≤ e.1) (from_bag (number + 1) more order) = λ k d below. omega (arith, rest.1 k d below) in (
      falls_behind number (from_bag (number + 1) more order) (in_bag number order) rest.0 over bag.1.1 bag.0,
      All-append (λ e. number ≤ e.1) (from_bag (number + 1) more order) (in_bag number order) over bag.1.0,
    )

pub walk_falls_never_rises : (thresholds : List ℕ) (order : Order) → NeverRises (in_walk_order thresholds order)
walk_falls_never_rises thresholds order = (walk_falls 0 (length thresholds + 1) order).0

-- who joins a bag that is no higher than those before is walked last
pub joined_last : (listing : Listing) (who : AccountId) (score : ℕ) → NeverRises (joined listing.order who (bag_of listing.thresholds score))
    → All (λ entry. entry.1 ≤ length listing.thresholds) listing.order
    → inserted listing who score ≡ record listing { order = joined listing.order who (bag_of listing.thresholds score) }
joined_last listing who score falls numbered =
    let order = joined listing.order who (bag_of listing.thresholds score) in
    ap (λ (order : Order). record listing { order = order })
    (walked_itself (record listing { order = order }) falls
    (All-append (λ entry. entry.1 ≤ length listing.thresholds) listing.order ((who, bag_of listing.thresholds score) ∷ []) numbered
    (All-cons (λ (entry : AccountId × ℕ). entry.1 ≤ length listing.thresholds) (who, bag_of listing.thresholds score) []
    (count_by-le-length (λ threshold. nat_lt threshold score) listing.thresholds) (All-nil _))))
