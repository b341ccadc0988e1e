-- Accounts keep their places when one more comes.
use Rattle.std.proofs.Common.{◌≡◌, ◌≢◌, ◌∙◌, ℕ, zero, suc, ◌+◌, Bool, true, false, cond, List, [], ◌∷◌, ◌++◌, length, slice_get, Option, Some, None, refl, ap, sym, arith, true≢false}
use Rattle.std.specs.BTreeMap.{insert_entry, is_at}
use Rattle.std.specs.List.{AllByRecursion}
use Rattle.std.specs.List.Sorted.{IsStrictlySortedBy}
use Rattle.std.specs.Map.{keys_of, lookup}
use Rattle.std.specs.Ordering.{match_ordering, is_eq}
use Rattle.std.specs.declared.cmp.Ordering.{Ordering}
use Rattle.std.specs.declared.cmp.Ordering.TheVariants.{Less, Equal, Greater}
use Rattle.std.proofs.lemmas.List.{length-append}
use Rattle.std.proofs.lemmas.Option.{none-some, same_Some}
use Rattle.std.proofs.lemmas.Map.{lookup-none, NonePasses}
use Rattle.std.proofs.lemmas.Map.Keys.{sorted_head}
use Rattle.std.proofs.lemmas.Cmp.{tied_itself}
use Rattle.npos_base.specs.declared.account.AccountId.{AccountId}
use Rattle.npos_base.specs.Account.{account_cmp}
use Rattle.npos_base.proofs.AccountOrder.{account_total, account_exact, account_apart}
use Rattle.npos_base.proofs.EntryLemmas.{sorted_put, lookup_put, lookup_other}
use Rattle.account_places.specs.Places.{place_in, join_from, by_account, Stand}
use Rattle.account_places.specs.Index.{StandOnce}

-- a test that answers yes knows the account
pub tied : (who other : AccountId) → is_eq (account_cmp who other) ≡ true → who ≡ other
tied who other e = by_order (account_cmp who other) refl e where
  by_order : (r : Ordering) → account_cmp who other ≡ r → is_eq r ≡ true → who ≡ other
  by_order Less is e = absurd (true≢false (sym e))
  by_order Equal is e = account_exact who other is
  by_order Greater is e = absurd (true≢false (sym e))

-- behind an account by rising account, it does not stand again
pub not_again : {X : Type 0} (first : AccountId × X) (later : List (AccountId × X)) → IsStrictlySortedBy account_cmp (keys_of (first ∷ later)) → lookup (is_at (account_cmp first.0)) later ≡ None
not_again {X} first later ordered = lookup-none (is_at (account_cmp first.0)) later (none_past first.0 later (sorted_head account_cmp first.0 (keys_of later) ordered)) where
  none_past : (who : AccountId) (es : List (AccountId × X)) → AllByRecursion (λ y. account_cmp who y ≡ Less) (keys_of es) → NonePasses (is_at (account_cmp who)) es
  none_past who [] all = tt
  none_past who (e ∷ es) all = (ap is_eq all.0, none_past who es all.1)

-- accounts by rising account are in order
joined_ordered : (places : List (AccountId × ℕ)) (next : ℕ) (accounts : List AccountId)
    → IsStrictlySortedBy account_cmp (keys_of places) → IsStrictlySortedBy account_cmp
    (keys_of (join_from places next accounts))
joined_ordered places next [] ordered = ordered
joined_ordered places next (account ∷ accounts) ordered = joined_ordered (insert_entry account_cmp places account next) (next + 1) accounts (sorted_put account_total account next places ordered)

pub by_account_ordered : (accounts : List AccountId) → IsStrictlySortedBy account_cmp (keys_of (by_account accounts))
unfolding IsStrictlySortedBy
by_account_ordered accounts = joined_ordered [] 0 accounts tt

pub one_longer : (places : List (AccountId × ℕ)) (who : AccountId) (place : ℕ) → place_in places who ≡ None → length (insert_entry account_cmp places who place) ≡ length places + 1
one_longer [] who place nowhere = refl
one_longer (first ∷ later) who place nowhere = at (account_cmp who first.0) nowhere (one_longer later who place) where
  at : (r : Ordering) → cond (is_eq r) (Some first.1) (place_in later who) ≡ None
      → (place_in later who ≡ None → length (insert_entry account_cmp later who place) ≡ length later + 1)
      → length (match_ordering r ((who, place) ∷ first ∷ later) ((first.0, place) ∷ later) (first ∷ insert_entry account_cmp later who place)) ≡ suc (length later) + 1
  at Less e more = omega arith
  at Equal e more = absurd (none-some first.1 (sym e))
  at Greater e more = omega (arith, more e)

-- of two accounts, one that has a place and one that had none are different
different : (places : List (AccountId × ℕ)) (who other : AccountId) (place : ℕ) → place_in places who ≡ None → place_in places other ≡ Some place → other ≢ who
different places who other place nowhere there same = none-some place (sym nowhere ∙ ap (place_in places) (sym same) ∙ there)

-- a place after another account got one
pub put_cases : (places : List (AccountId × ℕ)) (who other : AccountId) (new place : ℕ) → place_in (insert_entry account_cmp places who new) other ≡ Some place
    → (P : Type 0) → (other ≡ who → place ≡ new → P) → (other ≢ who → place_in places other ≡ Some place → P) → P
put_cases places who other new place there P same differ = at (is_eq (account_cmp other who)) refl where
  at : (b : Bool) → is_eq (account_cmp other who) ≡ b → P
  at true e =
      let is : other ≡ who = tied other who e in
      same is (same_Some place new (sym there ∙ ap (place_in (insert_entry account_cmp places who new)) is ∙ lookup_put account_total who new places))
  at false e =
      differ (λ is. true≢false (sym (ap is_eq (ap (account_cmp other) (sym is) ∙ tied_itself account_total other)) ∙ e))
      (sym (lookup_other account_total who new other places e) ∙ there)

-- accounts after one more came
pub slice_left : {A : Type 0} (xs : List A) (y : A) (i : ℕ) (x : A) → slice_get xs i ≡ Some x → slice_get (xs ++ y ∷ []) i ≡ Some x
slice_left [] y i x e = absurd (none-some x e)
slice_left (z ∷ xs) y zero x e = e
slice_left (z ∷ xs) y (suc i) x e = slice_left xs y i x e

pub slice_last : {A : Type 0} (xs : List A) (y : A) → slice_get (xs ++ y ∷ []) (length xs) ≡ Some y
slice_last [] y = refl
slice_last (x ∷ xs) y = slice_last xs y

pub slice_cases : {A : Type 0} (xs : List A) (y : A) (i : ℕ) (x : A) → slice_get (xs ++ y ∷ []) i ≡ Some x → (P : Type 0) → (slice_get xs i ≡ Some x → P) → (x ≡ y → i ≡ length xs → P) → P
slice_cases [] y zero x e P before last = last (same_Some x y (sym e)) refl
slice_cases [] y (suc i) x e P before last = absurd (none-some x e)
slice_cases (z ∷ xs) y zero x e P before last = before e
slice_cases (z ∷ xs) y (suc i) x e P before last = slice_cases xs y i x e P before (λ same is. last same (ap suc is))

stand_put : (accounts : List AccountId) (places : List (AccountId × ℕ)) (who : AccountId) → Stand accounts places → place_in places who ≡ None
    → Stand (accounts ++ who ∷ []) (insert_entry account_cmp places who (length accounts))
stand_put accounts places who stand nowhere = record {
  count = one_longer places who (length accounts) nowhere ∙ ap (λ n. n + 1) stand.count ∙ sym (length-append accounts (who ∷ []));
  standing = λ other place there. put_cases places who other (length accounts) place there (slice_get (accounts ++ who ∷ []) place ≡ Some other)
      (λ same is. ap (slice_get (accounts ++ who ∷ [])) is ∙ slice_last accounts who ∙ ap (λ a. Some a) (sym same))
      (λ differ before. slice_left accounts who place other (stand.standing other place before));
  placed = λ other place there. slice_cases accounts who place other there (place_in (insert_entry account_cmp places who (length accounts)) other ≡ Some place)
      (λ before.
      let had : place_in places other ≡ Some place = stand.placed other place before in
      lookup_other account_total who (length accounts) other places (account_apart other who (different places who other place nowhere had)) ∙ had)
      (λ same is. ap (place_in (insert_entry account_cmp places who (length accounts))) same ∙ lookup_put account_total who (length accounts) places ∙ ap (λ n. Some n) (sym is));
}

joined_last : (places : List (AccountId × ℕ)) (next : ℕ) (accounts : List AccountId) (who : AccountId)
    → join_from places next (accounts ++ who ∷ []) ≡ insert_entry account_cmp (join_from places next accounts) who (next + length accounts)
joined_last places next [] who = ap (insert_entry account_cmp places who) (omega arith)
joined_last places next (account ∷ accounts) who =
    joined_last (insert_entry account_cmp places account next) (next + 1) accounts who
    ∙ ap (insert_entry account_cmp (join_from (insert_entry account_cmp places account next) (next + 1) accounts) who) (omega arith)

-- who comes is put among those that have places
pub by_account_more : (accounts : List AccountId) (who : AccountId) → by_account (accounts ++ who ∷ []) ≡ insert_entry account_cmp (by_account accounts) who (length accounts)
by_account_more accounts who =
    joined_last [] 0 accounts who ∙ ap (insert_entry account_cmp (by_account accounts) who) (omega arith)

pub place_last : (accounts : List AccountId) (who : AccountId) → place_in (by_account (accounts ++ who ∷ [])) who ≡ Some (length accounts)
place_last accounts who = ap (λ places. place_in places who) (by_account_more accounts who) ∙ lookup_put account_total who (length accounts) (by_account accounts)

pub stand_more : (accounts : List AccountId) (who : AccountId) → Stand accounts (by_account accounts) → place_in (by_account accounts) who ≡ None
    → Stand (accounts ++ who ∷ []) (by_account (accounts ++ who ∷ []))
stand_more accounts who stand nowhere = rw (by_account_more accounts who) (stand_put accounts (by_account accounts) who stand nowhere)

-- accounts that each have a place of their own are apart
pub stand_apart : (accounts : List AccountId) (places : List (AccountId × ℕ)) → Stand accounts places → StandOnce accounts
stand_apart accounts places stand who one other here there = same_Some one other (sym (stand.placed who one here) ∙ stand.placed who other there)

-- the place of an account is where it is found, and who is not found has none
pub place_found : (accounts : List AccountId) (who : AccountId) (found : Option ℕ) → Stand accounts (by_account accounts)
    → Rattle.std.specs.Prelude.IfSome found (λ place. slice_get accounts place ≡ Some who)
    → Rattle.std.specs.Prelude.IfNone found ((place : ℕ) → slice_get accounts place ≢ Some who) → found ≡ place_in (by_account accounts) who
place_found accounts who (Some place) stand found absent = sym (stand.placed who place found)
place_found accounts who None stand found absent = at (place_in (by_account accounts) who) refl where
  at : (o : Option ℕ) → place_in (by_account accounts) who ≡ o → None ≡ o
  at None e = refl
  at (Some place) e = absurd (absent place (stand.standing who place e))
