-- The eras that are kept stay sound and as many as they have to be, and what is found in them.
use Rattle.std.proofs.Common.{◌≡◌, ℕ, zero, suc, ◌+◌, ◌-◌, ◌<◌, ◌≤◌, Bool, true, false, cond, Bor, List, [], ◌∷◌, length, get_or, slice_get}
use Rattle.std.proofs.Common.{slice_set, unwrap_or, fold, All, IfSome, IsSomeAnd, Option, Some, None, refl, ap, sym, subst, ◌∙◌, length-set, arith}
use Rattle.std.specs.BTreeMap.{is_at}
use Rattle.std.specs.Option.{option_copied}
use Rattle.std.proofs.lemmas.Bool.Decides.{nat_tests}
use Rattle.std.proofs.lemmas.Option.{slice_get_past, slice_get-get_or}
use Rattle.std.proofs.lemmas.List.{length-take}
use Rattle.std.proofs.lemmas.List.Elements.{All-nil, All-cons, All-head, All-tail, All-take, All-set, All-get_or}
use Rattle.std.proofs.lemmas.Map.Views.{IfSome-lookup_from_All}
use Rattle.npos_base.specs.declared.account.AccountId.{AccountId}
use Rattle.npos_base.specs.declared.limits.TheConstants.{MOST_PAST_ERAS}
use Rattle.npos_base.specs.Account.{account_cmp}
use Rattle.era_book.specs.declared.deferred.DeferredSlash.{DeferredSlash}
use Rattle.era_book.specs.declared.exposure.Exposure.{Exposure}
use Rattle.era_book.specs.Exposures.{IsSoundExposure}
use Rattle.era_book.specs.Members.{Member, Members, member_of, members_with, with_member, gaining, with_points}
use Rattle.era_book.specs.Eras.{Eras, started, begun_with, is_unknown, era_of, members_in, member_in, with_member_in, AreMembers, AreKept}
use Rattle.era_book.proofs.MemberLemmas.{all_changed, all_with}

-- a member of sound members is sound
pub member_sound : (members : Members) (who : AccountId) (member : Member) → AreMembers members → member_of members who ≡ Some member → IsSoundExposure member.exposure
member_sound members who member sound is =
    subst (λ (found : Option Member). IfSome found (λ m. IsSoundExposure m.exposure)) is (IfSome-lookup_from_All (λ (m : Member). IsSoundExposure m.exposure) (is_at (account_cmp who)) members sound)

-- changes that leave the exposures leave them sound
pub sound_changed : (who : AccountId) (change : Member → Member) → ((member : Member) → (change member).exposure ≡ member.exposure)
    → (members : Members) → AreMembers members → AreMembers (with_member who change members)
sound_changed who change same members sound =
    all_changed (λ member. IsSoundExposure member.exposure) who change (λ member s. subst IsSoundExposure (sym (same member)) s) members sound

pub sound_pointed : (members : Members) (items : List (AccountId × ℕ)) → AreMembers members → AreMembers (fold with_points members items)
sound_pointed members [] sound = sound
sound_pointed members (item ∷ items) sound =
    sound_pointed (with_points members item) items (sound_changed item.0 (gaining item.1) (λ member. refl) members sound)

pub sound_newcomers : (exposures : List Exposure) → All IsSoundExposure exposures → AreMembers (members_with exposures)
sound_newcomers exposures sound = all_with (λ member. IsSoundExposure member.exposure) [] exposures sound (All-nil (λ (member : Member). IsSoundExposure member.exposure))

-- the latest era, or an earlier one, has other members
pub kept_first : {queue : List DeferredSlash} {next : ℕ} (current : ℕ) (first other : Members) (later : List Members)
    → AreKept (record { current = current; kept = first ∷ later; queue = queue; next_slash = next })
    → AreMembers other
    → AreKept (record { current = current; kept = other ∷ later; queue = queue; next_slash = next })
kept_first {queue} {next} current first other later kept sound =
    record { count = kept.count; sound = All-cons AreMembers other later sound (All-tail AreMembers first later kept.sound) }

pub kept_later : {queue : List DeferredSlash} {next : ℕ} (current : ℕ) (first other : Members) (later : List Members)
    (n : ℕ) → AreKept (record { current = current; kept = first ∷ later; queue = queue; next_slash = next })
    → AreMembers other
    → AreKept (record { current = current; kept = first ∷ slice_set later n other; queue = queue; next_slash = next })
kept_later {queue} {next} current first other later n kept sound =
    record {
      count = omega (arith, kept.count, length-set later n other);
      sound =
          All-cons AreMembers first (slice_set later n other) (All-head AreMembers first later kept.sound)
          (All-set AreMembers later n other sound (All-tail AreMembers first later kept.sound));
    }

-- the next era begins
pub kept_begun : (eras : Eras) (members : Members) → AreKept eras → AreMembers members → AreKept (begun_with members eras)
kept_begun eras members kept sound =
    record {
      count = omega (arith, kept.count, length-take (MOST_PAST_ERAS + 1) (members ∷ eras.kept));
      sound = All-take AreMembers (MOST_PAST_ERAS + 1) (members ∷ eras.kept) (All-cons AreMembers members eras.kept sound kept.sound);
    }

pub kept_started : (eras : Eras) (exposures : List Exposure) → AreKept eras → All IsSoundExposure exposures → AreKept (started exposures eras)
kept_started eras exposures kept sound = kept_begun eras (members_with exposures) kept (sound_newcomers exposures sound)

-- ---- what is found at a place
pub all_at : {X : Type 0} (P : X → Type 0) (xs : List X) (n : ℕ) → All P xs → IfSome (slice_get xs n) P
all_at P [] n all = tt
all_at P (x ∷ xs) zero all = All-head P x xs all
all_at P (x ∷ xs) (suc n) all = all_at P xs n (All-tail P x xs all)

pub found_sound : (found : Option (Bor Members)) (later : List Members) (n : ℕ) → option_copied found ≡ slice_get later n → All AreMembers later
    → IfSome found (λ members. AreMembers members.now)
found_sound None later n is all = tt
found_sound (Some members) later n is all = subst (λ (o : Option Members). IfSome o AreMembers) (sym is) (all_at AreMembers later n all)

-- an earlier era stands behind the latest one
pub earlier_era : {queue : List DeferredSlash} {next : ℕ} (current era : ℕ) (first : Members) (later : List Members)
    → AreKept (record { current = current; kept = first ∷ later; queue = queue; next_slash = next })
    → era ≤ current → (current - era ≡ 0 → ⊥) → slice_get later (current - era - 1) ≡ era_of (record { current = current; kept = first ∷ later; queue = queue; next_slash = next }) era
earlier_era {queue} {next} current era first later kept begun behind = at (is_unknown (record { current = current; kept = first ∷ later; queue = queue; next_slash = next }) era) refl where
  behind_first : (n : ℕ) → (n ≡ 0 → ⊥) → slice_get later (n - 1) ≡ slice_get (first ∷ later) n
  behind_first zero some = absurd (some refl)
  behind_first (suc n) some = ap (λ k. slice_get later k) (omega arith)

  at : (b : Bool) → is_unknown (record { current = current; kept = first ∷ later; queue = queue; next_slash = next }) era ≡ b
      → slice_get later (current - era - 1) ≡ cond b None (slice_get (first ∷ later) (current - era))
  at true old =
      let past : era + MOST_PAST_ERAS < current = grind (arith, nat_tests) in
      slice_get_past later (current - era - 1) (omega (arith, kept.count, past))
  at false known = behind_first (current - era) behind

-- an exposed account stands in an era that is kept
pub known_exposed : (eras : Eras) (era : ℕ) (who : AccountId) (P : Member → Type 0) → IsSomeAnd (member_in eras era who) P → is_unknown eras era ≡ false
known_exposed eras era who P exposed = at (is_unknown eras era) refl where
  at : (b : Bool) → is_unknown eras era ≡ b → b ≡ false
  at false is = refl
  at true is =
      absurd (subst (λ b. IsSomeAnd (member_of (unwrap_or (cond b None (slice_get eras.kept (eras.current - era))) []) who) P) is exposed)

pub known_within : (eras : Eras) (era : ℕ) → AreKept eras → is_unknown eras era ≡ false → (era ≤ eras.current) × (eras.current - era < length eras.kept)
known_within eras era kept known =
    let begun : era ≤ eras.current = grind (arith, nat_tests) in
    let late : eras.current ≤ era + MOST_PAST_ERAS = grind (arith, nat_tests) in
    (begun, omega (arith, begun, late, kept.count))

-- a change of a member of an earlier era
pub earlier_changed : {queue : List DeferredSlash} {next : ℕ} (current era : ℕ) (who : AccountId) (change : Member → Member) (first old d : Members) (later : List Members)
    → AreKept (record { current = current; kept = first ∷ later; queue = queue; next_slash = next })
    → is_unknown (record { current = current; kept = first ∷ later; queue = queue; next_slash = next }) era
    ≡ false
    → (current - era ≡ 0 → ⊥) → old ≡ get_or later (current - era - 1) d
    → record { current = current; kept = first ∷ slice_set later (current - era - 1) (with_member who change old); queue = queue; next_slash = next }
    ≡ with_member_in era who change (record { current = current; kept = first ∷ later; queue = queue; next_slash = next })
earlier_changed {queue} {next} current era who change first old d later kept known behind is =
    ap (λ (members : List Members). record { current = current; kept = members; queue = queue; next_slash = next })
    (at (current - era) behind (omega arith)
    ∙ ap (λ (members : Members). slice_set (first ∷ later) (current - era) (with_member who change members)) found) where
      eras : Eras
      eras = record { current = current; kept = first ∷ later; queue = queue; next_slash = next }

      within : (era ≤ current) × (current - era < length (first ∷ later))
      within = known_within eras era kept known

      found : old ≡ members_in eras era
      found =
          is ∙ ap (λ (o : Option Members). unwrap_or o [])
          (sym (slice_get-get_or later (current - era - 1) d (omega (arith, within.1, behind)))
          ∙ earlier_era current era first later kept within.0 behind)

      at : (n : ℕ) → (n ≡ 0 → ⊥) → current - era ≡ n → first ∷ slice_set later (n - 1) (with_member who change old) ≡ slice_set (first ∷ later) n (with_member who change old)
      at zero some e = absurd (some refl)
      at (suc n) some e = ap (λ k. first ∷ slice_set later k (with_member who change old)) (omega arith)

-- and its era stays sound
pub earlier_sound : {queue : List DeferredSlash} {next : ℕ} (current era : ℕ) (who : AccountId) (change : Member → Member) (first old d : Members) (later : List Members)
    → ((member : Member) → (change member).exposure ≡ member.exposure)
    → AreKept (record { current = current; kept = first ∷ later; queue = queue; next_slash = next })
    → is_unknown (record { current = current; kept = first ∷ later; queue = queue; next_slash = next }) era
    ≡ false
    → (current - era ≡ 0 → ⊥) → old ≡ get_or later (current - era - 1) d
    → AreKept (record { current = current; kept = first ∷ slice_set later (current - era - 1) (with_member who change old); queue = queue; next_slash = next })
earlier_sound {queue} {next} current era who change first old d later same kept known behind is =
    let within = known_within (record { current = current; kept = first ∷ later; queue = queue; next_slash = next }) era kept known in
    kept_later current first (with_member who change old) later (current - era - 1) kept
    (sound_changed who change same old
    (subst AreMembers (sym is) (All-get_or AreMembers later (current - era - 1) d (omega (arith, within.1, behind)) (All-tail AreMembers first later kept.sound))))
