-- No account backs a member twice.
use Rattle.std.proofs.Common.{◌≡◌, ℕ, zero, suc, ◌<◌, Bool, true, false, cond, not, ◌&&◌, nat_eq, nat_lt, List, [], ◌∷◌, ◌++◌, length, map, filter, All, refl, ap, sym, subst, ◌∙◌, true≢false, arith}
use Rattle.std.specs.List.{IsDistinct, AllByRecursion}
use Rattle.std.proofs.lemmas.Bool.Decides.{nat_tests}
use Rattle.std.proofs.lemmas.List.Elements.{All-nil, All-cons, All-head, All-tail}
use Rattle.std.proofs.lemmas.List.{map-append}
use Rattle.std.proofs.lemmas.Bool.{and_parts}
use Rattle.npos_base.specs.declared.account.AccountId.{AccountId}
use Rattle.npos_base.specs.declared.figures.Edge.{Edge}
use Rattle.npos_base.specs.Account.{same_account, account_at}
use Rattle.npos_base.proofs.AccountOrder.{same_exact, same_turned}
use Rattle.era_book.specs.declared.exposure.Backer.{Backer}
use Rattle.npos_base.specs.Edge.{same_pair}
use Rattle.era_book.specs.Committee.{gives_to, backer_of, is_of, backers_among, BackersLaw}

at_place : (x : AccountId) (xs : List AccountId) (i : ℕ) → AllByRecursion (λ y. same_account x y ≡ false) xs → i < length xs → same_account x (account_at xs i) ≡ false
at_place x [] i all h = absurd (omega arith)
at_place x (y ∷ ys) zero all h = all.0
at_place x (y ∷ ys) (suc i) all h = at_place x ys i all.1 (omega arith)

-- voters at different places are different accounts
pub apart_at : (xs : List AccountId) (i j : ℕ) → IsDistinct same_account xs → i < length xs → j < length xs → nat_eq i j ≡ false → same_account (account_at xs i) (account_at xs j) ≡ false
unfolding IsDistinct
apart_at [] i j distinct h k differ = absurd (omega arith)
apart_at (x ∷ xs) zero zero distinct h k differ = absurd (grind (arith, nat_tests))
apart_at (x ∷ xs) zero (suc j) distinct h k differ = at_place x xs j distinct.0 (omega arith)
apart_at (x ∷ xs) (suc i) zero distinct h k differ = same_turned x (account_at xs i) (at_place x xs i distinct.0 (omega arith))
apart_at (x ∷ xs) (suc i) (suc j) distinct h k differ = apart_at xs i j distinct.1 (omega arith) (omega arith) (grind (arith, nat_tests))

other_voter : (i j s t m : ℕ) → (nat_eq i j && nat_eq s t) ≡ false → nat_eq s m ≡ true → nat_eq t m ≡ true → nat_eq i j ≡ false
other_voter i j s t m e p q = grind (arith, nat_tests)

same_target : (s t m : ℕ) → nat_eq s m ≡ true → nat_eq t m ≡ true → s ≡ t
same_target s t m p q = grind (arith, nat_tests)

turned : (b : Bool) → not b ≡ true → b ≡ false
turned false e = refl
turned true e = absurd (true≢false (sym e))

append_all : (P : AccountId → Type 0) (xs ys : List AccountId) → AllByRecursion P xs → AllByRecursion P ys → AllByRecursion P (xs ++ ys)
append_all P [] ys here there = there
append_all P (x ∷ xs) ys here there = (here.0, append_all P xs ys here.1 there)

append_distinct : (xs ys : List AccountId) → IsDistinct same_account xs → IsDistinct same_account ys
    → AllByRecursion (λ x. AllByRecursion (λ y. same_account x y ≡ false) ys) xs → IsDistinct same_account (xs ++ ys)
unfolding IsDistinct
append_distinct [] ys here there apart = there
append_distinct (x ∷ xs) ys here there apart = (append_all (λ y. same_account x y ≡ false) xs ys here.0 apart.0, append_distinct xs ys here.1 there apart.1)

-- what holds along the edges in two ways holds in one
along : (P Q : Edge → Type 0) (edges : List Edge) → All P edges → AllByRecursion Q edges → All (λ edge. P edge × Q edge) edges
along P Q [] all rest = All-nil (λ (edge : Edge). P edge × Q edge)
along P Q (e ∷ es) all rest = All-cons (λ (edge : Edge). P edge × Q edge) e es (All-head P e es all, rest.0) (along P Q es (All-tail P e es all) rest.1)

module _ (targets voters : List AccountId) (m : ℕ) where
  abbrev accounts : Bool → List Edge → List AccountId
  accounts own edges = map (λ (backer : Backer). backer.who) (map (backer_of voters) (filter (λ edge. gives_to m edge && is_of own targets voters edge) edges))

  -- what holds of each kept edge's account holds of all accounts
  all_accounts : (P : AccountId → Type 0) (Q : Edge → Type 0) (own : Bool) (edges : List Edge)
      → ((edge : Edge) → Q edge → (gives_to m edge && is_of own targets voters edge) ≡ true → P (account_at voters edge.voter))
      → All Q edges → AllByRecursion P (accounts own edges)
  all_accounts P Q own [] each all = tt
  all_accounts P Q own (e ∷ es) each all =
      at (gives_to m e && is_of own targets voters e) refl (all_accounts P Q own es each (All-tail Q e es all)) where
        at : (b : Bool) → (gives_to m e && is_of own targets voters e) ≡ b → AllByRecursion P (accounts own es)
            → AllByRecursion P (map (λ (backer : Backer). backer.who)
            (map (backer_of voters) (cond b (e ∷ filter (λ edge. gives_to m edge && is_of own targets voters edge)
            es) (filter (λ edge. gives_to m edge && is_of own targets voters edge) es))))
        at true is rest = (each e (All-head Q e es all) is, rest)
        at false is rest = rest

  to_target : (edge : Edge) (t : Bool) → (gives_to m edge && t) ≡ true → nat_eq edge.target m ≡ true
  to_target edge t e = (and_parts (nat_eq edge.target m) (nat_lt 0 edge.amount) (and_parts (gives_to m edge) t e).0).0

  distinct_among : (own : Bool) (edges : List Edge) → IsDistinct same_account voters → All (λ edge. edge.voter < length voters) edges → IsDistinct same_pair edges
      → IsDistinct same_account (accounts own edges)
  unfolding IsDistinct
  distinct_among own [] distinct within pairs = tt
  distinct_among own (e ∷ es) distinct within pairs =
      at (gives_to m e && is_of own targets voters e) refl (distinct_among own es distinct (All-tail (λ (x : Edge). x.voter < length voters) e es within) pairs.1) where
        apart : (gives_to m e && is_of own targets voters e) ≡ true → (x : Edge) → (x.voter < length voters) × (same_pair e x ≡ false)
            → (gives_to m x && is_of own targets voters x) ≡ true → same_account (account_at voters e.voter) (account_at voters x.voter) ≡ false
        apart is x facts also =
            let here : nat_eq e.target m ≡ true = to_target e (is_of own targets voters e) is in
            let there : nat_eq x.target m ≡ true = to_target x (is_of own targets voters x) also in
            apart_at voters e.voter x.voter distinct (All-head (λ (y : Edge). y.voter < length voters) e es within) facts.0 (other_voter e.voter x.voter e.target x.target m facts.1 here there)

        at : (b : Bool) → (gives_to m e && is_of own targets voters e) ≡ b → IsDistinct same_account (accounts own es)
            → IsDistinct same_account (map (λ (backer : Backer). backer.who)
            (map (backer_of voters) (cond b (e ∷ filter (λ edge. gives_to m edge && is_of own targets voters edge)
            es) (filter (λ edge. gives_to m edge && is_of own targets voters edge) es))))
        at true is rest = (
          all_accounts (λ y. same_account (account_at voters e.voter) y ≡ false) (λ x. (x.voter < length voters) × (same_pair e x ≡ false)) own es (apart is)
              (along (λ x. x.voter < length voters) (λ x. same_pair e x ≡ false) es (All-tail (λ (x : Edge). x.voter < length voters) e es within) pairs.0),
          rest,
        )
        at false is rest = rest

  -- the validator itself is none of the others
  own_apart : (edges : List Edge) → All (λ edge. edge.voter < length voters) edges
      → AllByRecursion (λ x. AllByRecursion (λ y. same_account x y ≡ false) (accounts false edges)) (accounts true edges)
  own_apart edges within =
      all_accounts (λ x. AllByRecursion (λ y. same_account x y ≡ false) (accounts false edges)) (λ x. x.voter < length voters) true edges
      (λ e inside is. all_accounts (λ y. same_account (account_at voters e.voter) y ≡ false) (λ x. x.voter < length voters) false edges (λ x also_inside also. other e x is also) edges_within)
      within where
        edges_within : All (λ (edge : Edge). edge.voter < length voters) edges
        edges_within = within

        other : (e x : Edge) → (gives_to m e && is_of true targets voters e) ≡ true → (gives_to m x && is_of false targets voters x) ≡ true
            → same_account (account_at voters e.voter) (account_at voters x.voter) ≡ false
        other e x is also =
            let itself : account_at voters e.voter ≡ account_at targets e.target =
            same_exact (account_at voters e.voter) (account_at targets e.target)
            (and_parts (gives_to m e) (is_of true targets voters e) is).1 in
            let no_other : not (same_account (account_at voters x.voter) (account_at targets x.target)) ≡ true = (and_parts (gives_to m x) (is_of false targets voters x) also).1 in
            let one_target : e.target ≡ x.target = same_target e.target x.target m (to_target e (is_of true targets voters e) is) (to_target x (is_of false targets voters x) also) in
            same_turned (account_at voters x.voter) (account_at voters e.voter)
            (ap (λ a. same_account (account_at voters x.voter) a) (itself ∙ ap (λ n. account_at targets n) one_target)
            ∙ turned (same_account (account_at voters x.voter) (account_at targets x.target)) no_other)

pub backers_law : BackersLaw
backers_law targets voters edges target distinct within pairs =
    subst (λ (xs : List AccountId). IsDistinct same_account xs)
    (sym (map-append (λ (backer : Backer). backer.who) (backers_among true targets voters edges target) (backers_among false targets voters edges target)))
    (append_distinct (map (λ (backer : Backer). backer.who) (backers_among true targets voters edges target)) (map (λ (backer : Backer). backer.who) (backers_among false targets voters edges target))
    (distinct_among targets voters target true edges distinct within pairs)
    (distinct_among targets voters target false edges distinct within pairs)
    (own_apart targets voters target edges within))
