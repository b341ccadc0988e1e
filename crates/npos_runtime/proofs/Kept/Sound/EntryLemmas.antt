-- Entries by rising account, and what each account has.
use Rattle.std.proofs.Common.{◌≡◌, Bool, true, false, cond, All, List, [], ◌∷◌, Option, Some, None, refl, sym, subst}
use Rattle.std.specs.BTreeMap.{is_at}
use Rattle.std.specs.Cmp.{Equal-is}
use Rattle.std.specs.List.{AllByRecursion}
use Rattle.std.specs.List.Sorted.{IsStrictlySortedBy}
use Rattle.std.specs.Map.{keys_of, lookup}
use Rattle.std.specs.declared.cmp.Ordering.TheVariants.{Less}
use Rattle.std.proofs.lemmas.List.Elements.{All-nil, All-cons, All-head, All-tail}
use Rattle.npos_base.specs.declared.account.AccountId.{AccountId}
use Rattle.npos_base.specs.Account.{account_cmp}
use Rattle.npos_base.proofs.AccountOrder.{account_exact, account_total}
use Rattle.npos_base.proofs.EntryLemmas.{lookup_put}

pub tied : (who other : AccountId) → is_at (account_cmp who) other ≡ true → who ≡ other
tied who other e = account_exact who other ((Equal-is (account_cmp who other)).0 e)

module _ {V : Type 0} where
  abbrev value_of : List (AccountId × V) → AccountId → Option V
  value_of entries who = lookup (is_at (account_cmp who)) entries

  -- an account that is below all others is none of them
  absent : (who : AccountId) (entries : List (AccountId × V)) → AllByRecursion (λ y. account_cmp who y ≡ Less) (keys_of entries)
      → value_of entries who ≡ None
  absent who [] below = refl
  absent who (entry ∷ more) below = rw below.0 (absent who more below.1)

  -- the first entry is found
  first_found : (entry : AccountId × V) (more : List (AccountId × V)) → value_of (entry ∷ more) entry.0 ≡ Some entry.1
  first_found entry more = at (is_at (account_cmp entry.0) entry.0) itself where
    itself : is_at (account_cmp entry.0) entry.0 ≡ true
    itself = one (is_at (account_cmp entry.0) entry.0) (lookup_put account_total entry.0 entry.1 []) where
      one : (b : Bool) → cond b (Some entry.1) None ≡ Some entry.1 → b ≡ true
      one true e = refl
      one false e = cc

    at : (b : Bool) → b ≡ true → cond b (Some entry.1) (value_of more entry.0) ≡ Some entry.1
    at true e = refl
    at false e = cc

  -- what is found later, is found
  later_found : (entry : AccountId × V) (more : List (AccountId × V)) → IsStrictlySortedBy account_cmp (keys_of (entry ∷ more))
      → (who : AccountId) (value : V) → value_of more who ≡ Some value → value_of (entry ∷ more) who ≡ Some value
  unfolding IsStrictlySortedBy
  later_found entry more sorted who value found = at (is_at (account_cmp who) entry.0) refl where
    at : (b : Bool) → is_at (account_cmp who) entry.0 ≡ b → cond b (Some entry.1) (value_of more who) ≡ Some value
    at true e =
        let none : value_of more who ≡ None =
        absent who more (subst (λ (a : AccountId). AllByRecursion (λ y. account_cmp a y ≡ Less) (keys_of more)) (sym (tied who entry.0 e)) sorted.0) in
        cc
    at false e = found

  module _ (P : AccountId × V → Type 0) where
    -- what holds of what each account has holds of each entry
    pub every_entry : (entries : List (AccountId × V)) → IsStrictlySortedBy account_cmp (keys_of entries)
        → ((who : AccountId) (value : V) → value_of entries who ≡ Some value → P (who, value)) → All P entries
    unfolding IsStrictlySortedBy
    every_entry [] sorted each = All-nil P
    every_entry (entry ∷ more) sorted each =
        All-cons P entry more (each entry.0 entry.1 (first_found entry more))
        (every_entry more sorted.1 (λ who value found. each who value (later_found entry more sorted who value found)))

    -- and the other way round
    pub each_found : (entries : List (AccountId × V)) → All P entries → (who : AccountId) (value : V) → value_of entries who ≡ Some value → P (who, value)
    each_found [] all who value found = absurd (cc)
    each_found (entry ∷ more) all who value found =
        at (is_at (account_cmp who) entry.0) refl found (λ is. each_found more (All-tail P entry more all) who value is) where
          at : (b : Bool) → is_at (account_cmp who) entry.0 ≡ b → cond b (Some entry.1) (value_of more who) ≡ Some value
              → (value_of more who ≡ Some value → P (who, value)) → P (who, value)
          at true e is rest =
              let same : entry.1 ≡ value = cc in
              subst (λ (v : V). P (who, v)) same (subst (λ (a : AccountId). P (a, entry.1)) (sym (tied who entry.0 e)) (All-head P entry more all))
          at false e is rest = rest is
