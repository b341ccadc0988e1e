-- What a change leaves as it was.
use Rattle.std.proofs.Common.{◌≡◌, ◌≢◌, ℕ, ◌+◌, Bool, true, false, cond, nat_eq, List, [], ◌∷◌, map, get_or, fold, All, Option, Some, None, refl, ap, sym, subst, ◌∙◌, true≢false}
use Rattle.std.specs.BTreeMap.{is_at}
use Rattle.std.specs.List.{IsDistinct, AllByRecursion}
use Rattle.std.specs.Map.{set_value}
use Rattle.std.specs.Ordering.{is_eq}
use Rattle.std.specs.declared.cmp.Ordering.{Ordering}
use Rattle.std.specs.declared.cmp.Ordering.TheVariants.{Less, Equal, Greater}
use Rattle.std.proofs.lemmas.List.Elements.{All-nil, All-cons, All-head, All-tail}
use Rattle.npos_base.specs.declared.account.AccountId.{AccountId}
use Rattle.npos_base.specs.Account.{account_cmp, same_account}
use Rattle.npos_base.proofs.AccountOrder.{account_total, account_exact, account_apart, same_itself}
use Rattle.npos_base.proofs.EntryLemmas.{lookup_put, lookup_other}
use Rattle.era_book.specs.declared.exposure.Exposure.{Exposure}
use Rattle.era_book.specs.Members.{Member, Members, member_of, newcomer, with_exposure, put_member, changed, with_member}
use Rattle.era_book.specs.Eras.{Eras, started, is_unknown, members_in, member_in, with_member_in, OthersStay, EarlierStay, HasExposures, HasNoOther, AreKept}
use Rattle.npos_base.proofs.NumberTests.{number_tie}
use Rattle.era_book.proofs.HistoryLemmas.{known_numbers, members_set, members_stay, members_enter}

-- another account has what it had
set_other : (rows : Members) (who account : AccountId) (member : Member) → account ≢ who
    → member_of (set_value (is_at (account_cmp who)) rows member) account ≡ member_of rows account
set_other [] who account member apart = refl
set_other (row ∷ rows) who account member apart = at (account_cmp who row.0) refl (set_other rows who account member apart) where
  here : account_cmp who row.0 ≡ Equal → cond (is_at (account_cmp account) row.0) (Some member)
      (member_of rows account) ≡ cond (is_at (account_cmp account) row.0) (Some row.1) (member_of rows account)
  here is =
      let other : is_at (account_cmp account) row.0 ≡ false = account_apart account row.0 (λ same. apart (same ∙ sym (account_exact who row.0 is))) in
      ap (λ b. cond b (Some member) (member_of rows account)) other ∙ sym (ap (λ b. cond b (Some row.1) (member_of rows account)) other)

  at : (r : Ordering) → account_cmp who row.0 ≡ r → member_of (set_value (is_at (account_cmp who)) rows member) account ≡ member_of rows account
      → member_of (cond (is_eq r) ((row.0, member) ∷ rows) (row ∷ set_value (is_at (account_cmp who)) rows member)) account ≡ member_of (row ∷ rows) account
  at Less is rest = ap (λ found. cond (is_at (account_cmp account) row.0) (Some row.1) found) rest
  at Equal is rest = here is
  at Greater is rest = ap (λ found. cond (is_at (account_cmp account) row.0) (Some row.1) found) rest

member_other : (who account : AccountId) (change : Member → Member) (members : Members) → account ≢ who
    → member_of (with_member who change members) account ≡ member_of members account
member_other who account change members apart = at (member_of members who) where
  at : (found : Option Member) → member_of (put_member (changed change found) who members) account ≡ member_of members account
  at None = refl
  at (Some member) = set_other members who account (change member) apart

pub others_stay : (eras : Eras) (era : ℕ) (who : AccountId) (change : Member → Member) → AreKept eras → is_unknown eras era ≡ false
    → OthersStay era who eras (with_member_in era who change eras)
others_stay eras era who change kept known = λ other account apart.
    ap (λ (members : Members). member_of members account) (members_set eras era other (with_member who change (members_in eras era)) kept known)
    ∙ at other account apart (nat_eq era other) refl where
      at : (other : ℕ) (account : AccountId) → (other ≡ era → account ≢ who) → (b : Bool) → nat_eq era other ≡ b
          → member_of (cond b (with_member who change (members_in eras era)) (members_in eras other)) account ≡ member_in eras other account
      at other account apart true e =
          let same : era ≡ other = number_tie era other e in
          member_other who account change (members_in eras era) (apart (sym same)) ∙ ap (λ n. member_in eras n account) same
      at other account apart false e = refl

-- ---- the era that begins
kept_by_others : (members : Members) (exposures : List Exposure) (who : AccountId) → All (λ exposure. exposure.validator ≢ who) exposures
    → member_of (fold with_exposure members exposures) who ≡ member_of members who
kept_by_others members [] who apart = refl
kept_by_others members (exposure ∷ exposures) who apart =
    kept_by_others (with_exposure members exposure) exposures who (All-tail (λ (e : Exposure). e.validator ≢ who) exposure exposures apart)
    ∙ lookup_other account_total exposure.validator (newcomer exposure) who members
    (account_apart who exposure.validator (λ same. All-head (λ (e : Exposure). e.validator ≢ who) exposure exposures apart (sym same)))

apart_all : (who : AccountId) (exposures : List Exposure) → AllByRecursion (λ other. same_account who other ≡ false) (map (λ exposure. exposure.validator) exposures)
    → All (λ (exposure : Exposure). exposure.validator ≢ who) exposures
apart_all who [] all = All-nil (λ (exposure : Exposure). exposure.validator ≢ who)
apart_all who (exposure ∷ exposures) all =
    All-cons (λ (e : Exposure). e.validator ≢ who) exposure exposures
    (λ same. true≢false (sym (same_itself who) ∙ ap (λ other. same_account who other) (sym same) ∙ all.0))
    (apart_all who exposures all.1)

each_enters : (members : Members) (exposures : List Exposure) → IsDistinct same_account (map (λ exposure. exposure.validator) exposures)
    → All (λ exposure. member_of (fold with_exposure members exposures) exposure.validator ≡ Some (newcomer exposure)) exposures
unfolding IsDistinct
each_enters members [] distinct = All-nil (λ (exposure : Exposure). member_of members exposure.validator ≡ Some (newcomer exposure))
each_enters members (exposure ∷ exposures) distinct =
    All-cons (λ (e : Exposure). member_of (fold with_exposure (with_exposure members exposure) exposures) e.validator ≡ Some (newcomer e)) exposure exposures
    (kept_by_others (with_exposure members exposure) exposures exposure.validator (apart_all exposure.validator exposures distinct.0)
    ∙ lookup_put account_total exposure.validator (newcomer exposure) members)
    (each_enters (with_exposure members exposure) exposures distinct.1)

pub exposures_enter : (eras : Eras) (exposures : List Exposure) → IsDistinct same_account (map (λ exposure. exposure.validator) exposures)
    → HasExposures (started exposures eras) (eras.current + 1) exposures
exposures_enter eras exposures distinct = λ k d within.
    ap (λ (members : Members). member_of members (get_or exposures k d).validator) (members_enter eras exposures) ∙ each_enters [] exposures distinct k d within

pub none_else : (eras : Eras) (exposures : List Exposure) → HasNoOther (started exposures eras) (eras.current + 1) exposures
none_else eras exposures = λ who apart.
    ap (λ (members : Members). member_of members who) (members_enter eras exposures) ∙ kept_by_others [] exposures who apart

pub earlier_stay : (eras : Eras) (exposures : List Exposure) → EarlierStay eras (started exposures eras)
earlier_stay eras exposures = λ era begun known. members_stay eras era exposures begun (known_numbers (started exposures eras) era known).1

-- the same of the eras that are kept once an era has begun
pub exposures_begun : (old new : Eras) (exposures : List Exposure) → IsDistinct same_account (map (λ exposure. exposure.validator) exposures)
    → new ≡ started exposures old → HasExposures new new.current exposures
exposures_begun old new exposures distinct is =
    subst (λ (eras : Eras). HasExposures eras eras.current exposures) (sym is) (exposures_enter old exposures distinct)

pub no_other_begun : (old new : Eras) (exposures : List Exposure) → new ≡ started exposures old → HasNoOther new new.current exposures
no_other_begun old new exposures is = subst (λ (eras : Eras). HasNoOther eras eras.current exposures) (sym is) (none_else old exposures)

pub earlier_begun : (old new : Eras) (exposures : List Exposure) → new ≡ started exposures old → EarlierStay old new
earlier_begun old new exposures is = subst (λ (eras : Eras). EarlierStay old eras) (sym is) (earlier_stay old exposures)
