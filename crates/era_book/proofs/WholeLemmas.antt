-- The members of each era stay whole.
use Rattle.std.proofs.Common.{◌≡◌, ◌≢◌, ◌∙◌, ℕ, zero, suc, ◌+◌, ◌<◌, ◌≤◌, Bool, true, false, cond, nat_eq, nat_lt, List, [], ◌∷◌, fold, All, Option, Some, None, refl, ap, sym, subst, arith}
use Rattle.std.specs.BTreeMap.{is_at}
use Rattle.std.specs.List.Sorted.{IsStrictlySortedBy}
use Rattle.std.specs.Map.{keys_of, lookup, set_value}
use Rattle.std.proofs.lemmas.Option.{same_Some}
use Rattle.std.specs.Ordering.{match_ordering}
use Rattle.std.specs.declared.cmp.Ordering.{Ordering}
use Rattle.std.specs.declared.cmp.Ordering.TheVariants.{Less, Equal, Greater}
use Rattle.std.proofs.lemmas.Bool.Decides.{nat_tests}
use Rattle.std.proofs.lemmas.List.Elements.{All-nil, All-cons, All-head, All-tail}
use Rattle.npos_base.specs.declared.account.AccountId.{AccountId}
use Rattle.npos_base.specs.declared.limits.TheConstants.{WHOLE_FRACTION}
use Rattle.npos_base.specs.Account.{account_cmp}
use Rattle.npos_base.proofs.AccountOrder.{account_total, account_exact}
use Rattle.npos_base.proofs.EntryLemmas.{sorted_put}
use Rattle.npos_base.proofs.NumberTests.{number_tie, other_number}
use Rattle.era_book.specs.declared.exposure.Exposure.{Exposure}
use Rattle.era_book.specs.Members.{Member, Members, member_of, newcomer, with_exposure, members_with, put_member, changed, with_member, gaining, with_points}
use Rattle.era_book.specs.Eras.{Eras, first_era, started, is_unknown, members_in, with_members, AreKept}
use Rattle.era_book.specs.Calls.{claiming, keeping}
use Rattle.era_book.specs.Events.{Event, Started, Pointed, Paid, Reported, Queued, Cancelled, Taken, IsAccepted, after}
use Rattle.era_book.specs.Records.{IsBacked, IsWhole, AreWhole, AreEras}
use Rattle.era_book.specs.Laws.{BringsBacked, WholeLaw}
use Rattle.era_book.proofs.HistoryLemmas.{known_numbers, numbers_known, none_unknown, none_before, members_set, members_stay, members_enter, paid_facts, reported_facts}

-- ---- one member changes

-- a change leaves the exposure, and a fraction that is at most the whole
abbrev Leaves : (Member → Member) → Type 0
Leaves change = (member : Member) → ((change member).exposure ≡ member.exposure) × (member.fraction ≤ WHOLE_FRACTION → (change member).fraction ≤ WHOLE_FRACTION)

whole_changed : (change : Member → Member) → Leaves change → (entry : AccountId × Member) → IsWhole entry → IsWhole (entry.0, change entry.1)
whole_changed change leaves entry whole = record {
  account = whole.account ∙ ap (λ (e : Exposure). e.validator) (sym (leaves entry.1).0);
  backed = subst IsBacked (sym (leaves entry.1).0) whole.backed;
  fraction = (leaves entry.1).1 whole.fraction;
}

keys_set : (test : AccountId → Bool) (members : Members) (member : Member) → keys_of (set_value test members member) ≡ keys_of members
keys_set test [] member = refl
keys_set test (entry ∷ members) member = at (test entry.0) (keys_set test members member) where
  at : (b : Bool) → keys_of (set_value test members member) ≡ keys_of members
      → keys_of (cond b ((entry.0, member) ∷ members) (entry ∷ set_value test members member)) ≡ entry.0 ∷ keys_of members
  at true rest = refl
  at false rest = ap (λ keys. entry.0 ∷ keys) rest

-- where the first entry that passes is changed, each entry stays whole
set_whole : (test : AccountId → Bool) (change : Member → Member) → Leaves change → (members : Members) (member : Member) → lookup test members ≡ Some member
    → All IsWhole members → All IsWhole (set_value test members (change member))
set_whole test change leaves [] member there all = all
set_whole test change leaves (entry ∷ members) member there all =
    at (test entry.0) there (λ behind. set_whole test change leaves members member behind (All-tail IsWhole entry members all)) where
      at : (b : Bool) → cond b (Some entry.1) (lookup test members) ≡ Some member
          → (lookup test members ≡ Some member → All IsWhole (set_value test members (change member)))
          → All IsWhole (cond b ((entry.0, change member) ∷ members) (entry ∷ set_value test members (change member)))
      at true there rest =
          let same : entry.1 ≡ member = same_Some entry.1 member there in
          All-cons IsWhole (entry.0, change member) members
          (subst (λ (m : Member). IsWhole (entry.0, change m)) same (whole_changed change leaves entry (All-head IsWhole entry members all)))
          (All-tail IsWhole entry members all)
      at false there rest = All-cons IsWhole entry (set_value test members (change member)) (All-head IsWhole entry members all) (rest there)

member_whole : (who : AccountId) (change : Member → Member) → Leaves change → (members : Members) → AreWhole members → AreWhole (with_member who change members)
member_whole who change leaves members whole = at (member_of members who) refl where
  at : (found : Option Member) → member_of members who ≡ found → AreWhole (put_member (changed change found) who members)
  at None is = whole
  at (Some member) is = record {
    rising = rw (keys_set (is_at (account_cmp who)) members (change member)) whole.rising;
    each = set_whole (is_at (account_cmp who)) change leaves members member is whole.each;
  }

points_leave : (points : ℕ) → Leaves (gaining points)
points_leave points member = (refl, λ within. within)

pointed_whole : (members : Members) (items : List (AccountId × ℕ)) → AreWhole members → AreWhole (fold with_points members items)
pointed_whole members [] whole = whole
pointed_whole members (item ∷ items) whole = pointed_whole (with_points members item) items (member_whole item.0 (gaining item.1) (points_leave item.1) members whole)

pointed_none : (items : List (AccountId × ℕ)) → fold with_points [] items ≡ []
pointed_none [] = refl
pointed_none (item ∷ items) = pointed_none items

-- ---- members enter

none_whole : AreWhole []
unfolding IsStrictlySortedBy
none_whole = record { rising = tt; each = All-nil IsWhole }

newcomer_whole : (exposure : Exposure) → IsBacked exposure → IsWhole (exposure.validator, newcomer exposure)
newcomer_whole exposure backed = record { account = refl; backed = backed; fraction = omega arith }

each_enters : (exposure : Exposure) (members : Members) → IsBacked exposure → All IsWhole members → All IsWhole (with_exposure members exposure)
each_enters exposure [] backed all = All-cons IsWhole (exposure.validator, newcomer exposure) [] (newcomer_whole exposure backed) (All-nil IsWhole)
each_enters exposure (entry ∷ members) backed all =
    at (account_cmp exposure.validator entry.0) refl (each_enters exposure members backed (All-tail IsWhole entry members all)) where
      at : (r : Ordering) → account_cmp exposure.validator entry.0 ≡ r → All IsWhole (with_exposure members exposure)
          → All IsWhole (match_ordering r ((exposure.validator, newcomer exposure) ∷ entry ∷ members) ((entry.0, newcomer exposure) ∷ members) (entry ∷ with_exposure members exposure))
      at Less is rest = All-cons IsWhole (exposure.validator, newcomer exposure) (entry ∷ members) (newcomer_whole exposure backed) all
      at Equal is rest =
          All-cons IsWhole (entry.0, newcomer exposure) members
          (subst (λ (a : AccountId). IsWhole (a, newcomer exposure)) (account_exact exposure.validator entry.0 is) (newcomer_whole exposure backed))
          (All-tail IsWhole entry members all)
      at Greater is rest = All-cons IsWhole entry (with_exposure members exposure) (All-head IsWhole entry members all) rest

newcomers_whole : (members : Members) (exposures : List Exposure) → All IsBacked exposures → AreWhole members → AreWhole (fold with_exposure members exposures)
newcomers_whole members [] backed whole = whole
newcomers_whole members (exposure ∷ exposures) backed whole =
    newcomers_whole (with_exposure members exposure) exposures (All-tail IsBacked exposure exposures backed) record {
      rising = sorted_put account_total exposure.validator (newcomer exposure) members whole.rising;
      each = each_enters exposure members (All-head IsBacked exposure exposures backed) whole.each;
    }

-- ---- what holds of an era's members, after the next era began and after one era has others

started_cases : (eras : Eras) (exposures : List Exposure) (era : ℕ) (P : Members → Type 0) → P [] → (era ≡ eras.current + 1 → P (members_with exposures))
    → P (members_in eras era) → P (members_in (started exposures eras) era)
started_cases eras exposures era P none next here = at (nat_lt eras.current era) refl where
  later : (b : Bool) → nat_eq era (eras.current + 1) ≡ b → eras.current < era → P (members_in (started exposures eras) era)
  later true e before =
      let same : era ≡ eras.current + 1 = number_tie era (eras.current + 1) e in
      subst P (sym (ap (λ n. members_in (started exposures eras) n) same ∙ members_enter eras exposures)) (next same)
  later false e before = subst P (sym (none_before (started exposures eras) era (past (other_number era (eras.current + 1) e) before))) none where
    past : era ≢ eras.current + 1 → eras.current < era → eras.current + 1 < era
    past apart h = omega arith

  stay : era ≤ eras.current → (b : Bool) → is_unknown (started exposures eras) era ≡ b → P (members_in (started exposures eras) era)
  stay begun true e = subst P (sym (none_unknown (started exposures eras) era e)) none
  stay begun false e = subst P (sym (members_stay eras era exposures begun (known_numbers (started exposures eras) era e).1)) here

  at : (b : Bool) → nat_lt eras.current era ≡ b → P (members_in (started exposures eras) era)
  at true e = later (nat_eq era (eras.current + 1)) refl (grind (arith, nat_tests))
  at false e = stay (grind (arith, nat_tests)) (is_unknown (started exposures eras) era) refl

set_cases : (eras : Eras) (other era : ℕ) (members : Members) (P : Members → Type 0) → AreKept eras → is_unknown eras other ≡ false → (other ≡ era → P members)
    → P (members_in eras era) → P (members_in (with_members other members eras) era)
set_cases eras other era members P kept known new here = subst P (sym (members_set eras other era members kept known)) (at (nat_eq other era) refl) where
  at : (b : Bool) → nat_eq other era ≡ b → P (cond b members (members_in eras era))
  at true e = new (number_tie other era e)
  at false e = here

current_known : (eras : Eras) → is_unknown eras eras.current ≡ false
current_known eras = numbers_known eras eras.current (omega arith) (omega arith)

-- ---- whatever happens

set_eras : (eras : Eras) (other : ℕ) (members : Members) → AreKept eras → is_unknown eras other ≡ false → (AreWhole (members_in eras other) → AreWhole members)
    → (members_in eras other ≡ [] → members ≡ []) → AreEras eras → AreEras (with_members other members eras)
set_eras eras other members kept known whole none old = record {
  whole = λ era. set_cases eras other era members AreWhole kept known (λ same. whole (old.whole other)) (old.whole era);
  first = set_cases eras other 0 members (λ ms. ms ≡ []) kept known (λ same. none (ap (members_in eras) same ∙ old.first)) old.first;
}

changed_none : (who : AccountId) (change : Member → Member) (members : Members) → members ≡ [] → with_member who change members ≡ []
changed_none who change members none = ap (with_member who change) none

whole_after : (event : Event) (eras : Eras) → IsAccepted event eras → BringsBacked event → AreKept eras → AreEras eras → AreEras (after event eras)
whole_after (Started exposures) eras ok backed kept old = record {
  whole = λ era. started_cases eras exposures era AreWhole none_whole (λ same. newcomers_whole [] exposures backed none_whole) (old.whole era);
  first = started_cases eras exposures 0 (λ ms. ms ≡ []) refl (λ same. absurd (omega (arith, same))) old.first;
}
whole_after (Pointed items) eras ok backed kept old =
    set_eras eras eras.current (fold with_points (members_in eras eras.current) items) kept (current_known eras)
    (pointed_whole (members_in eras eras.current) items) (λ none. ap (λ ms. fold with_points ms items) none ∙ pointed_none items) old
whole_after (Paid era who) eras ok backed kept old =
    set_eras eras era (with_member who claiming (members_in eras era)) kept (paid_facts eras era who ok).0
    (member_whole who claiming (λ member. (refl, λ within. within)) (members_in eras era)) (changed_none who claiming (members_in eras era)) old
whole_after (Reported era who fraction) eras ok backed kept old =
    let facts = reported_facts eras era who fraction ok in
    set_eras eras era (with_member who (keeping fraction) (members_in eras era)) kept facts.1
    (member_whole who (keeping fraction) (λ member. (refl, λ within. facts.0)) (members_in eras era)) (changed_none who (keeping fraction) (members_in eras era)) old
whole_after (Queued due lines) eras ok backed kept old = record { whole = old.whole; first = old.first }
whole_after (Cancelled number) eras ok backed kept old = record { whole = old.whole; first = old.first }
whole_after Taken eras ok backed kept old = record { whole = old.whole; first = old.first }

none_at_first : (era : ℕ) → members_in first_era era ≡ []
none_at_first zero = refl
none_at_first (suc era) = none_before first_era (suc era) (omega arith)

pub whole_law : WholeLaw
whole_law = (record { whole = λ era. subst AreWhole (sym (none_at_first era)) none_whole; first = refl }, whole_after)
