-- The place of an account among all by rising account is how many of them are below it.
use Rattle.std.proofs.Common.{◌≡◌, ◌≢◌, ◌∙◌, ℕ, zero, suc, ◌+◌, ◌<◌, Bool, true, false, cond, List, [], ◌∷◌, length, take}
use Rattle.std.proofs.Common.{get_or, slice_get, Some, None, refl, ap, sym, subst, arith, count_by, option_map, nat_lt}
use Rattle.std.proofs.lemmas.Grind.{common_steps}
use Rattle.std.specs.BTreeMap.{insert_entry}
use Rattle.std.specs.List.{AllByRecursion}
use Rattle.std.specs.List.Sorted.{IsStrictlySortedBy}
use Rattle.std.specs.Map.{keys_of}
use Rattle.std.specs.Ordering.{match_ordering, is_eq, is_lt, ordering_reverse}
use Rattle.std.specs.declared.cmp.Ordering.{Ordering}
use Rattle.std.specs.declared.cmp.Ordering.TheVariants.{Less, Equal, Greater}
use Rattle.std.proofs.lemmas.List.{take_more, length-take-le}
use Rattle.std.proofs.lemmas.List.Sums.{sum_by-cons}
use Rattle.std.proofs.lemmas.Option.{none-some, same_Some, slice_get_within, slice_get-get_or, slice_get-map, get_or_from_slice_get}
use Rattle.std.proofs.lemmas.Map.Keys.{sorted_head, sorted_tail}
use Rattle.std.proofs.lemmas.Cmp.{tied_itself}
use Rattle.npos_base.specs.declared.account.AccountId.{AccountId}
use Rattle.npos_base.specs.Account.{account_cmp}
use Rattle.npos_base.proofs.AccountOrder.{account_total, account_apart}
use Rattle.npos_base.proofs.EntryLemmas.{lookup_other}
use Rattle.account_places.specs.Places.{place_in, join_from, by_account, Stand}
use Rattle.account_places.specs.Index.{StandOnce}
use Rattle.account_places.proofs.StandLemmas.{tied, not_again, by_account_more, by_account_ordered, stand_apart}

-- so many accounts have their places, and the next one gets its own
pub by_account_next : (places : List (AccountId × ℕ)) (accounts : List AccountId) (i : ℕ) (d : AccountId) → i < length accounts
    → places ≡ by_account (take i accounts) → insert_entry account_cmp places (get_or accounts i d) i ≡ by_account (take (i + 1) accounts)
by_account_next places accounts i d within is =
    ap (λ entries. insert_entry account_cmp entries (get_or accounts i d) i) is
    ∙ (ap (insert_entry account_cmp (by_account (take i accounts)) (get_or accounts i d)) (sym (length-take-le i accounts (omega (arith, within))))
    ∙ (sym (by_account_more (take i accounts) (get_or accounts i d)) ∙ ap by_account (sym (take_more accounts i d within))))

abbrev below : AccountId → AccountId → Bool
below who account = is_lt (account_cmp account who)

count_cons : (test : AccountId → Bool) (k : AccountId) (ks : List AccountId) → count_by test (k ∷ ks) ≡ cond (test k) 1 0 + count_by test ks
count_cons test k ks = sum_by-cons (λ x. cond (test x) 1 0) k ks

none_below : (who : AccountId) (keys : List AccountId) → AllByRecursion (λ y. account_cmp who y ≡ Less) keys → count_by (below who) keys ≡ 0
none_below who [] all = refl
none_below who (k ∷ ks) all =
    let over : below who k ≡ false = ap is_lt (account_total.antisymm k who ∙ ap ordering_reverse all.0) in
    count_cons (below who) k ks ∙ rw over (omega (arith, none_below who ks all.1))

all_at : (P : AccountId → Type 0) (ks : List AccountId) (i : ℕ) (who : AccountId) → AllByRecursion P ks → slice_get ks i ≡ Some who → P who
all_at P [] i who all there = absurd (none-some who there)
all_at P (k ∷ ks) zero who all there = subst P (same_Some k who there) all.0
all_at P (k ∷ ks) (suc i) who all there = all_at P ks i who all.1 there

-- among accounts that rise, so many are below the one at a place
pub ranked_at : (keys : List AccountId) (i : ℕ) (who : AccountId) → IsStrictlySortedBy account_cmp keys → slice_get keys i ≡ Some who → count_by (below who) keys ≡ i
ranked_at [] i who ordered there = absurd (none-some who there)
ranked_at (k ∷ ks) zero who ordered there =
    let same : k ≡ who = same_Some k who there in
    let over : below who k ≡ false = ap is_lt (ap (account_cmp k) (sym same) ∙ tied_itself account_total k) in
    count_cons (below who) k ks
    ∙ rw over (omega (arith, none_below who ks (subst (λ x. AllByRecursion (λ y. account_cmp x y ≡ Less) ks) same (sorted_head account_cmp k ks ordered))))
ranked_at (k ∷ ks) (suc i) who ordered there =
    let under : below who k ≡ true = ap is_lt (all_at (λ y. account_cmp k y ≡ Less) ks i who (sorted_head account_cmp k ks ordered) there) in
    count_cons (below who) k ks ∙ rw under (omega (arith, ranked_at ks i who (sorted_tail account_cmp k ks ordered) there))

-- a test counts an account that is put among others once more
counted_put : (test : AccountId → Bool) (places : List (AccountId × ℕ)) (who : AccountId) (place : ℕ) → place_in places who ≡ None
    → count_by test (keys_of (insert_entry account_cmp places who place)) ≡ count_by test (who ∷ keys_of places)
counted_put test [] who place nowhere = refl
counted_put test (first ∷ later) who place nowhere = at (account_cmp who first.0) nowhere (counted_put test later who place) where
  at : (r : Ordering) → cond (is_eq r) (Some first.1) (place_in later who) ≡ None
      → (place_in later who ≡ None → count_by test (keys_of (insert_entry account_cmp later who place)) ≡ count_by test (who ∷ keys_of later))
      → count_by test (keys_of (match_ordering r ((who, place) ∷ first ∷ later) ((first.0, place) ∷ later) (first ∷ insert_entry account_cmp later who place)))
      ≡ count_by test (who ∷ first.0 ∷ keys_of later)
  at Less e more = refl
  at Equal e more = absurd (none-some first.1 (sym e))
  at Greater e more =
      omega (
        arith,
        count_cons test first.0 (keys_of (insert_entry account_cmp later who place)),
        more e,
        count_cons test who (keys_of later),
        count_cons test who (first.0 ∷ keys_of later),
        count_cons test first.0 (keys_of later),
      )

counted_joined : (test : AccountId → Bool) (places : List (AccountId × ℕ)) (next : ℕ) (accounts : List AccountId) → StandOnce accounts
    → ((who : AccountId) (i : ℕ) → slice_get accounts i ≡ Some who → place_in places who ≡ None)
    → count_by test (keys_of (join_from places next accounts)) ≡ count_by test accounts + count_by test (keys_of places)
counted_joined test places next [] once new = omega arith
counted_joined test places next (account ∷ accounts) once new =
    counted_joined test (insert_entry account_cmp places account next) (next + 1) accounts
    (λ who one other here there. suc_same (once who (suc one) (suc other) here there))
    (λ who i there. lookup_other account_total account next who places (account_apart who account (λ same. zero_no_suc (once who zero (suc i) (ap Some (sym same)) there))) ∙ new who (suc i) there)
    ∙ omega (arith, counted_put test places account next (new account zero refl), count_cons test account (keys_of places), count_cons test account accounts) where
      suc_same : {m n : ℕ} → suc m ≡ suc n → m ≡ n
      suc_same e = omega (arith, e)

      zero_no_suc : {n : ℕ} → zero ≡ suc n → ⊥
      zero_no_suc e = omega (arith, e)

-- all accounts, in whatever order, are counted alike
pub counted_by_account : (test : AccountId → Bool) (accounts : List AccountId) → Stand accounts (by_account accounts)
    → count_by test (keys_of (by_account accounts)) ≡ count_by test accounts
counted_by_account test accounts stand =
    counted_joined test [] 0 accounts (stand_apart accounts (by_account accounts) stand) (λ who i there. refl) ∙ omega arith

key_at : (who : AccountId) (places : List (AccountId × ℕ)) (place : ℕ) → place_in places who ≡ Some place → (i : ℕ) × (slice_get (keys_of places) i ≡ Some who)
key_at who [] place there = absurd (none-some place there)
key_at who (first ∷ later) place there = at (is_eq (account_cmp who first.0)) refl there (λ behind. key_at who later place behind) where
  at : (b : Bool) → is_eq (account_cmp who first.0) ≡ b → cond b (Some first.1) (place_in later who) ≡ Some place
      → (place_in later who ≡ Some place → (i : ℕ) × (slice_get (keys_of later) i ≡ Some who))
      → (i : ℕ) × (slice_get (first.0 ∷ keys_of later) i ≡ Some who)
  at true e there rest = (zero, ap (λ (a : AccountId). Some a) (sym (tied who first.0 e)))
  at false e there rest = (suc (rest there).0, (rest there).1)

-- the account with so many below it stands at that place among all by rising account
pub at_rank : (accounts : List AccountId) (who : AccountId) (place rank : ℕ) → Stand accounts (by_account accounts) → slice_get accounts place ≡ Some who
    → count_by (below who) accounts ≡ rank → slice_get (keys_of (by_account accounts)) rank ≡ Some who
at_rank accounts who place rank stand there counted =
    let key = key_at who (by_account accounts) place (stand.placed who place there) in
    let same : key.0 ≡ rank =
    sym (ranked_at (keys_of (by_account accounts)) key.0 who (by_account_ordered accounts) key.1) ∙ (counted_by_account (below who) accounts stand ∙ counted) in
    subst (λ i. slice_get (keys_of (by_account accounts)) i ≡ Some who) same key.1

-- who has a place behind the first has it among all
pub place_behind : (first : AccountId × ℕ) (later : List (AccountId × ℕ)) (who : AccountId) (place : ℕ) → IsStrictlySortedBy account_cmp (keys_of (first ∷ later))
    → place_in later who ≡ Some place → place_in (first ∷ later) who ≡ Some place
place_behind first later who place ordered there = at (is_eq (account_cmp who first.0)) refl where
  at : (b : Bool) → is_eq (account_cmp who first.0) ≡ b → cond b (Some first.1) (place_in later who) ≡ Some place
  at true e = absurd (none-some place (sym (not_again first later ordered) ∙ (ap (place_in later) (sym (tied who first.0 e)) ∙ there)))
  at false e = there

pub place_first : (first : AccountId × ℕ) (later : List (AccountId × ℕ)) → place_in (first ∷ later) first.0 ≡ Some first.1
place_first first later = rw (tied_itself account_total first.0) refl

-- each entry tells the place of its account
pub entry_placed : (places : List (AccountId × ℕ)) (i : ℕ) (entry : AccountId × ℕ) → IsStrictlySortedBy account_cmp (keys_of places)
    → slice_get places i ≡ Some entry → place_in places entry.0 ≡ Some entry.1
entry_placed [] i entry ordered there = absurd (none-some entry there)
entry_placed (first ∷ later) zero entry ordered there =
    subst (λ (e : AccountId × ℕ). place_in (first ∷ later) e.0 ≡ Some e.1) (same_Some first entry there) (place_first first later)
entry_placed (first ∷ later) (suc i) entry ordered there =
    place_behind first later entry.0 entry.1 ordered (entry_placed later i entry (sorted_tail account_cmp first.0 (keys_of later) ordered) there)

key_of_entry : (places : List (AccountId × ℕ)) (i : ℕ) (entry : AccountId × ℕ) → slice_get places i ≡ Some entry → slice_get (keys_of places) i ≡ Some entry.0
key_of_entry places i entry there = slice_get-map (λ (e : AccountId × ℕ). e.0) places i ∙ ap (option_map (λ (e : AccountId × ℕ). e.0)) there

-- at each place among all by rising account somebody stands who has so many below it
pub somebody_at : (accounts : List AccountId) (rank : ℕ) → Stand accounts (by_account accounts) → rank < length accounts
    → (who : AccountId) × (place : ℕ) × (place < length accounts) × (slice_get accounts place ≡ Some who) × (count_by (below who) accounts ≡ rank)
somebody_at accounts rank stand within =
    let entry = get_or (by_account accounts) rank (record { hi = 0; lo = 0 }, 0) in
    let there : slice_get (by_account accounts) rank ≡ Some entry = slice_get-get_or (by_account accounts) rank (record { hi = 0; lo = 0 }, 0) (omega (arith, within, stand.count)) in
    let stands : slice_get accounts entry.1 ≡ Some entry.0 = stand.standing entry.0 entry.1 (entry_placed (by_account accounts) rank entry (by_account_ordered accounts) there) in (
      entry.0,
      entry.1,
      slice_get_within accounts entry.1 entry.0 stands,
      stands,
      sym (counted_by_account (below entry.0) accounts stand)
          ∙ ranked_at (keys_of (by_account accounts)) rank entry.0 (by_account_ordered accounts) (key_of_entry (by_account accounts) rank entry there),
    )

-- of accounts of which none up to a place has so many below it, the next one that has not is none either
pub still_none : (accounts : List AccountId) (index rank : ℕ) (d : AccountId) → index < length accounts
    → ((who : AccountId) (place : ℕ) → place < index → slice_get accounts place ≡ Some who → count_by (below who) accounts ≢ rank)
    → count_by (below (get_or accounts index d)) accounts ≢ rank
    → (who : AccountId) (place : ℕ) → place < index + 1 → slice_get accounts place ≡ Some who → count_by (below who) accounts ≢ rank
still_none accounts index rank d within before here who place upto there = at (nat_lt place index) refl where
  at : (b : Bool) → nat_lt place index ≡ b → count_by (below who) accounts ≢ rank
  at true e = before who place (grind (arith, common_steps, e)) there
  at false e =
      let same : place ≡ index = grind (arith, common_steps, e, upto) in
      let is : get_or accounts index d ≡ who = get_or_from_slice_get accounts index who d (ap (slice_get accounts) (sym same) ∙ there) in
      subst (λ (a : AccountId). count_by (below a) accounts ≢ rank) is here
