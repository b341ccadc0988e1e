-- Items one behind the other, each of which stands so to those before it.
use Rattle.std.proofs.Common.{◌≡◌, ℕ, zero, suc, ◌<◌, Bool, true, false, List, [], ◌∷◌, ◌++◌, length, map, take, get_or, refl, ap, sym, subst, ◌∙◌, arith}
use Rattle.std.specs.List.{AllByRecursion, IsDistinct}
use Rattle.std.proofs.lemmas.List.{append-nil, append_assoc}
use Rattle.std.proofs.lemmas.Bool.{or_parts}
use Rattle.npos_base.specs.declared.account.AccountId.{AccountId}
use Rattle.npos_base.specs.Account.{same_account}
use Rattle.state_rules.specs.Lists.{has_bad, bad_place, follows, stands_behind}
use Rattle.state_rules.specs.Accounts.{stands_in}
use Rattle.state_rules.specs.Sound.{EachIs}
use Rattle.state_rules.proofs.RowLemmas.{last_put}
use Rattle.state_rules.proofs.SoundLemmas.{each_is, no_place}

-- ## Places

at_here : {A : Type 0} (before rest : List A) (item d : A) → get_or (before ++ item ∷ rest) (length before) d ≡ item
at_here [] rest item d = refl
at_here (x ∷ before) rest item d = at_here before rest item d

take_here : {A : Type 0} (before rest : List A) → take (length before) (before ++ rest) ≡ before
take_here [] [] = refl
take_here [] (y ∷ rest) = refl
take_here (x ∷ before) rest = ap (λ l. x ∷ l) (take_here before rest)

within : {A : Type 0} (before rest : List A) (item : A) → length before < length (before ++ item ∷ rest)
within [] rest item = omega arith
within (x ∷ before) rest item = let more = within before rest item in omega (arith, more)

take_front : {A : Type 0} (xs ys : List A) (place : ℕ) → place < length xs → take place (xs ++ ys) ≡ take place xs
take_front [] ys place few = absurd (omega (arith, few))
take_front (x ∷ xs) ys zero few = refl
take_front (x ∷ xs) ys (suc place) few = ap (λ l. x ∷ l) (take_front xs ys place (omega (arith, few)))

get_front : {A : Type 0} (xs ys : List A) (place : ℕ) (d : A) → place < length xs → get_or (xs ++ ys) place d ≡ get_or xs place d
get_front [] ys place d few = absurd (omega (arith, few))
get_front (x ∷ xs) ys zero d few = refl
get_front (x ∷ xs) ys (suc place) d few = get_front xs ys place d (omega (arith, few))

front_within : {A : Type 0} (xs ys : List A) (place : ℕ) → place < length xs → place < length (xs ++ ys)
front_within [] ys place few = absurd (omega (arith, few))
front_within (x ∷ xs) ys zero few = omega arith
front_within (x ∷ xs) ys (suc place) few = let more = front_within xs ys place (omega (arith, few)) in omega (arith, more)

-- the next element stands behind those before it
pub rest_behind : {A : Type 0} (all before rest left : List A) (item : A) → before ++ left ≡ all → left ≡ item ∷ rest → (before ++ item ∷ []) ++ rest ≡ all
rest_behind all before rest left item is next = append_assoc before (item ∷ []) rest ∙ (ap (λ l. before ++ l) (sym next) ∙ is)

pub next_within : {A : Type 0} (all before rest left : List A) (item : A) → before ++ left ≡ all → left ≡ item ∷ rest → length before < length all
next_within {A = A} all before rest left item is next =
    subst (λ (l : List A). length before < length l) (ap (λ l. before ++ l) (sym next) ∙ is) (within before rest item)

-- ## Items that stand so

-- the next one does, behind those before it
pub each_next : {A : Type 0} (Stands : List A → A → Type 0) (all before rest left : List A) (item : A) → EachIs Stands all
    → before ++ left ≡ all → left ≡ item ∷ rest → Stands before item
each_next Stands all before rest left item each is next =
    let whole : all ≡ before ++ item ∷ rest = sym is ∙ ap (λ l. before ++ l) next in
    let here : Stands (take (length before) (before ++ item ∷ rest)) (get_or (before ++ item ∷ rest) (length before) item) =
    subst (EachIs Stands) whole each (length before) item (within before rest item) in
    subst (λ i. Stands before i) (at_here before rest item item)
    (subst (λ b. Stands b (get_or (before ++ item ∷ rest) (length before) item)) (take_here before (item ∷ rest)) here)

-- so do those in front
pub each_before : {A : Type 0} (Stands : List A → A → Type 0) (xs ys : List A) → EachIs Stands (xs ++ ys) → EachIs Stands xs
each_before Stands xs ys each place d few =
    subst (λ b. Stands b (get_or xs place d)) (take_front xs ys place few)
    (subst (λ i. Stands (take place (xs ++ ys)) i) (get_front xs ys place d few) (each place d (front_within xs ys place few)))

module _ {A : Type 0} (Stands : List A → A → Type 0) (P : List A → Type 0)
    (more : (before : List A) (item : A) → EachIs Stands before → P before → Stands before item → P (before ++ item ∷ [])) where
  built_from : (before rest : List A) → P before → EachIs Stands (before ++ rest) → P (before ++ rest)
  built_from before [] holds each = subst P (sym (append-nil before)) holds
  built_from before (item ∷ rest) holds each =
      let stands : Stands before item = each_next Stands (before ++ item ∷ rest) before rest (item ∷ rest) item each refl refl in
      subst P (append_assoc before (item ∷ []) rest)
      (built_from (before ++ item ∷ []) rest (more before item (each_before Stands before (item ∷ rest) each) holds stands)
      (subst (EachIs Stands) (sym (append_assoc before (item ∷ []) rest)) each))

  -- what holds of no item, and of one more, holds of all
  pub built : (items : List A) → P [] → EachIs Stands items → P items
  built items none each = built_from [] items none each

pub all_put : {A : Type 0} (P : A → Type 0) (xs : List A) (x : A) → AllByRecursion P xs → P x → AllByRecursion P (xs ++ x ∷ [])
all_put P [] x all here = (here, tt)
all_put P (y ∷ xs) x all here = (all.0, all_put P xs x all.1 here)

pub all_by : {A : Type 0} (P Q : A → Type 0) → ((x : A) → P x → Q x) → (xs : List A) → AllByRecursion P xs → AllByRecursion Q xs
all_by P Q each [] all = tt
all_by P Q each (x ∷ xs) all = (each x all.0, all_by P Q each xs all.1)

pub all_mapped : {A B : Type 0} (P : B → Type 0) (f : A → B) (xs : List A) → AllByRecursion (λ x. P (f x)) xs → AllByRecursion P (map f xs)
all_mapped P f [] all = tt
all_mapped P f (x ∷ xs) all = (all.0, all_mapped P f xs all.1)

pub map_put : {A B : Type 0} (f : A → B) (xs : List A) (x : A) → map f (xs ++ x ∷ []) ≡ map f xs ++ f x ∷ []
map_put f [] x = refl
map_put f (y ∷ xs) x = ap (λ l. f y ∷ l) (map_put f xs x)

-- where each precedes the next one, all stand so to what the last of them precedes
module _ {A : Type 0} (precedes : A → A → Bool) (R : A → A → Type 0) (holds : (a b : A) → precedes a b ≡ true → R a b)
    (through : (a b c : A) → R a b → R b c → R a c) where
  pub all_behind : (items : List A) → EachIs (λ before item. follows precedes before item ≡ true) items
      → (item : A) → follows precedes items item ≡ true → AllByRecursion (λ earlier. R earlier item) items
  all_behind items each =
      built (λ before item. follows precedes before item ≡ true)
      (λ (earlier : List A). (item : A) → follows precedes earlier item ≡ true → AllByRecursion (λ e. R e item) earlier)
      (λ before x each_earlier prior stands item next.
      let here : R x item = holds x item (sym (ap (λ l. stands_behind precedes l item) (last_put before x)) ∙ next) in
      all_put (λ e. R e item) before x (all_by (λ e. R e x) (λ e. R e item) (λ e r. through e x item r here) before (prior x stands)) here)
      items (λ item next. tt) each

-- ## Different accounts

distinct_more : (xs : List AccountId) (y : AccountId) → IsDistinct same_account xs → stands_in xs y ≡ false → IsDistinct same_account (xs ++ y ∷ [])
unfolding IsDistinct
distinct_more [] y apart new = (tt, tt)
distinct_more (x ∷ xs) y apart new =
    let (other, later) = or_parts (same_account x y) (stands_in xs y) new in
    (all_put (λ o. same_account x o ≡ false) xs y apart.0 other, distinct_more xs y apart.1 later)

none_distinct : IsDistinct same_account []
unfolding IsDistinct
none_distinct = tt

-- accounts that do not stand among those before them are different
pub each_distinct : {A : Type 0} (account : A → AccountId) (items : List A)
    → EachIs (λ before item. stands_in (map account before) (account item) ≡ false) items → IsDistinct same_account (map account items)
each_distinct account items each =
    built (λ before item. stands_in (map account before) (account item) ≡ false) (λ before. IsDistinct same_account (map account before))
    (λ before item each_earlier apart new.
    subst (IsDistinct same_account) (sym (map_put account before item)) (distinct_more (map account before) (account item) apart new))
    items none_distinct each

same_list : (accounts : List AccountId) → map (λ (who : AccountId). who) accounts ≡ accounts
same_list [] = refl
same_list (account ∷ accounts) = ap (λ l. account ∷ l) (same_list accounts)

pub targets_distinct : (accounts : List AccountId) → has_bad stands_in accounts ≡ false → IsDistinct same_account accounts
targets_distinct accounts none =
    subst (IsDistinct same_account) (same_list accounts)
    (each_distinct (λ (who : AccountId). who) accounts
    (each_is stands_in (λ before who. stands_in (map (λ (w : AccountId). w) before) who ≡ false) accounts
    (λ before who e. ap (λ (b : List AccountId). stands_in b who) (same_list before) ∙ e)
    (no_place (bad_place stands_in accounts) none)))
