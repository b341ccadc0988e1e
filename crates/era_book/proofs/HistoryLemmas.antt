-- What one event makes of the members of one era.
use Rattle.std.proofs.Common.{◌≡◌, ◌≢◌, ℕ, zero, suc, ◌+◌, ◌-◌, ◌<◌, ◌≤◌, Bool, true, false, cond, ◌||◌, nat_eq}
use Rattle.std.proofs.Common.{nat_lt, nat_le, List, [], ◌∷◌, length, get_or, slice_get, unwrap_or, fold, All}
use Rattle.std.proofs.Common.{IfSome, IsSomeAnd, Option, Some, None, refl, ap, sym, subst, ◌∙◌, length-set, arith}
use Rattle.std.specs.Map.{values_of}
use Rattle.std.proofs.lemmas.Option.{unwrap_or-slice_get}
use Rattle.std.proofs.lemmas.Bool.Decides.{nat_tests}
use Rattle.std.proofs.lemmas.List.{get_or-take, get_or-set_same, get_or-set_other}
use Rattle.std.proofs.lemmas.List.Elements.{All-nil, All-set}
use Rattle.npos_base.specs.declared.account.AccountId.{AccountId}
use Rattle.npos_base.specs.declared.limits.TheConstants.{MOST_PAST_ERAS, WHOLE_FRACTION}
use Rattle.npos_base.proofs.NumberTests.{number_tie, other_number}
use Rattle.era_book.specs.declared.exposure.Exposure.{Exposure}
use Rattle.era_book.specs.declared.refusal.EraRefusal.TheVariants.{BadFraction, UnknownEra, EraNotOver, AlreadyClaimed, NoPoints, NotGreater}
use Rattle.era_book.specs.Exposures.{IsSoundExposure}
use Rattle.era_book.specs.Members.{Member, Members, members_with, with_member, gaining, with_points}
use Rattle.era_book.specs.Eras.{Eras, started, is_unknown, members_in, member_in, with_members, AreMembers, AreKept}
use Rattle.era_book.specs.Calls.{payout_refusal, claim_refusal, claiming, slash_refusal, fraction_refusal, keeping}
use Rattle.era_book.specs.Events.{Event, Started, Pointed, Paid, Reported, Queued, Cancelled, Taken, IsAccepted, after}
use Rattle.era_book.specs.Course.{IsFine, AreFine}
use Rattle.era_book.proofs.MemberLemmas.{all_changed, all_with}
use Rattle.era_book.proofs.EraLemmas.{sound_changed, sound_pointed, kept_started, known_within, all_at}

-- ---- which eras are known
pub known_numbers : (eras : Eras) (era : ℕ) → is_unknown eras era ≡ false → (era ≤ eras.current) × (eras.current ≤ era + MOST_PAST_ERAS)
known_numbers eras era known = let begun : era ≤ eras.current = grind (arith, nat_tests) in let late : eras.current ≤ era + MOST_PAST_ERAS = grind (arith, nat_tests) in (begun, late)

pub numbers_known : (eras : Eras) (era : ℕ) → era ≤ eras.current → eras.current ≤ era + MOST_PAST_ERAS → is_unknown eras era ≡ false
numbers_known eras era begun late = at (nat_lt eras.current era) refl where
  at : (b : Bool) → nat_lt eras.current era ≡ b → (b || nat_lt (era + MOST_PAST_ERAS) eras.current) ≡ false
  at true e = absurd (grind (arith, nat_tests))
  at false e = grind (arith, nat_tests)

pub none_unknown : (eras : Eras) (era : ℕ) → is_unknown eras era ≡ true → members_in eras era ≡ []
none_unknown eras era unknown = ap (λ b. unwrap_or (cond b None (slice_get eras.kept (eras.current - era))) []) unknown

pub none_before : (eras : Eras) (era : ℕ) → eras.current < era → members_in eras era ≡ []
none_before eras era before = none_unknown eras era (at (nat_lt eras.current era) refl) where
  at : (b : Bool) → nat_lt eras.current era ≡ b → (b || nat_lt (era + MOST_PAST_ERAS) eras.current) ≡ true
  at true e = refl
  at false e = absurd (grind (arith, nat_tests))

place_known : (eras : Eras) (era : ℕ) → is_unknown eras era ≡ false → members_in eras era ≡ get_or eras.kept (eras.current - era) []
place_known eras era known =
    ap (λ b. unwrap_or (cond b None (slice_get eras.kept (eras.current - era))) []) known ∙ unwrap_or-slice_get eras.kept (eras.current - era) []

-- ---- the members of an era after one era has others
pub members_set : (eras : Eras) (other era : ℕ) (members : Members) → AreKept eras → is_unknown eras other ≡ false
    → members_in (with_members other members eras) era ≡ cond (nat_eq other era) members (members_in eras era)
members_set eras other era members kept known = at (nat_eq other era) refl where
  after : Eras
  after = with_members other members eras

  within : (other ≤ eras.current) × (eras.current - other < length eras.kept)
  within = known_within eras other kept known

  apart : nat_eq other era ≡ false → (b : Bool) → is_unknown eras era ≡ b → members_in after era ≡ members_in eras era
  apart e true unknown = none_unknown after era unknown ∙ sym (none_unknown eras era unknown)
  apart e false here =
      let begun = known_numbers eras era here in
      place_known after era here
      ∙ get_or-set_other eras.kept (eras.current - other) (eras.current - era) members [] (λ same. other_number other era e (omega (arith, begun.0, within.0, same)))
      ∙ sym (place_known eras era here)

  at : (b : Bool) → nat_eq other era ≡ b → members_in after era ≡ cond b members (members_in eras era)
  at true e =
      let same : other ≡ era = number_tie other era e in
      ap (λ n. members_in after n) (sym same)
      ∙ place_known after other known
      ∙ get_or-set_same eras.kept (eras.current - other) members [] within.1
  at false e = apart e (is_unknown eras era) refl

-- an era that stays known has the same members after the next one began
pub members_stay : (eras : Eras) (era : ℕ) (exposures : List Exposure) → era ≤ eras.current → eras.current + 1 ≤ era + MOST_PAST_ERAS
    → members_in (started exposures eras) era ≡ members_in eras era
members_stay eras era exposures begun late =
    place_known (started exposures eras) era (numbers_known (started exposures eras) era (omega (arith, begun)) (omega (arith, late)))
    ∙ get_or-take (MOST_PAST_ERAS + 1) (members_with exposures ∷ eras.kept) (eras.current + 1 - era) [] (omega (arith, begun, late))
    ∙ ap (λ n. get_or (members_with exposures ∷ eras.kept) n []) next
    ∙ sym (place_known eras era (numbers_known eras era begun (omega (arith, late)))) where
      next : eras.current + 1 - era ≡ suc (eras.current - era)
      next = omega (arith, begun)

-- the era that begins has the newcomers
pub members_enter : (eras : Eras) (exposures : List Exposure) → members_in (started exposures eras) (eras.current + 1) ≡ members_with exposures
members_enter eras exposures =
    place_known (started exposures eras) (eras.current + 1) (numbers_known (started exposures eras) (eras.current + 1) (omega arith) (omega arith))
    ∙ get_or-take (MOST_PAST_ERAS + 1) (members_with exposures ∷ eras.kept) (eras.current + 1 - (eras.current + 1)) [] (omega arith)
    ∙ ap (λ n. get_or (members_with exposures ∷ eras.kept) n []) first where
      first : eras.current + 1 - (eras.current + 1) ≡ zero
      first = omega arith

-- ---- what an accepted event tells
pub paid_facts : (eras : Eras) (era : ℕ) (who : AccountId) → payout_refusal eras era who ≡ None
    → (is_unknown eras era ≡ false) × (era ≢ eras.current) × IsSomeAnd (member_in eras era who) (λ member. member.claimed ≡ false)
paid_facts eras era who ok = at (is_unknown eras era) refl ok where
  claim : (found : Option Member) → claim_refusal found ≡ None → IsSomeAnd found (λ member. member.claimed ≡ false)
  claim None e = absurd (cc)
  claim (Some member) e = of (member.claimed) refl e where
    of : (b : Bool) → member.claimed ≡ b → cond b (Some AlreadyClaimed) (cond (nat_eq member.points 0) (Some NoPoints) None) ≡ None → member.claimed ≡ false
    of true is e = absurd (cc)
    of false is e = is

  over : is_unknown eras era ≡ false → (b : Bool) → nat_eq era eras.current ≡ b → cond b (Some EraNotOver) (claim_refusal (member_in eras era who)) ≡ None
      → (is_unknown eras era ≡ false) × (era ≢ eras.current) × IsSomeAnd (member_in eras era who) (λ member. member.claimed ≡ false)
  over known true is e = absurd (cc)
  over known false is e = (known, other_number era eras.current is, claim (member_in eras era who) e)

  at : (b : Bool) → is_unknown eras era ≡ b → cond b (Some UnknownEra) (cond (nat_eq era eras.current) (Some EraNotOver) (claim_refusal (member_in eras era who))) ≡ None
      → (is_unknown eras era ≡ false) × (era ≢ eras.current) × IsSomeAnd (member_in eras era who) (λ member. member.claimed ≡ false)
  at true is e = absurd (cc)
  at false is e = over is (nat_eq era eras.current) refl e

pub reported_facts : (eras : Eras) (era : ℕ) (who : AccountId) (fraction : ℕ) → slash_refusal eras era who fraction ≡ None
    → (fraction ≤ WHOLE_FRACTION) × (is_unknown eras era ≡ false) × IsSomeAnd (member_in eras era who) (λ member. member.fraction < fraction)
reported_facts eras era who fraction ok = at (nat_eq fraction 0 || nat_lt WHOLE_FRACTION fraction) refl ok where
  greater : (found : Option Member) → fraction_refusal fraction found ≡ None → IsSomeAnd found (λ member. member.fraction < fraction)
  greater None e = absurd (cc)
  greater (Some member) e = of (nat_le fraction member.fraction) refl e where
    of : (b : Bool) → nat_le fraction member.fraction ≡ b → cond b (Some NotGreater) None ≡ None → member.fraction < fraction
    of true is e = absurd (cc)
    of false is e = grind (arith, nat_tests)

  known : fraction ≤ WHOLE_FRACTION → (b : Bool) → is_unknown eras era ≡ b → cond b (Some UnknownEra) (fraction_refusal fraction (member_in eras era who)) ≡ None
      → (fraction ≤ WHOLE_FRACTION) × (is_unknown eras era ≡ false) × IsSomeAnd (member_in eras era who) (λ member. member.fraction < fraction)
  known most true is e = absurd (cc)
  known most false is e = (most, is, greater (member_in eras era who) e)

  within : (nat_eq fraction 0 || nat_lt WHOLE_FRACTION fraction) ≡ false → fraction ≤ WHOLE_FRACTION
  within e = grind (arith, nat_tests)

  at : (b : Bool) → (nat_eq fraction 0 || nat_lt WHOLE_FRACTION fraction) ≡ b
      → cond b (Some BadFraction) (cond (is_unknown eras era) (Some UnknownEra) (fraction_refusal fraction (member_in eras era who))) ≡ None
      → (fraction ≤ WHOLE_FRACTION) × (is_unknown eras era ≡ false) × IsSomeAnd (member_in eras era who) (λ member. member.fraction < fraction)
  at true is e = absurd (cc)
  at false is e = known (within is) (is_unknown eras era) refl e

pub current_known : (eras : Eras) → is_unknown eras eras.current ≡ false
current_known eras = numbers_known eras eras.current (omega arith) (omega arith)

-- ---- what holds of every era book holds after each event
pub members_sound : (eras : Eras) (era : ℕ) → AreKept eras → AreMembers (members_in eras era)
members_sound eras era kept = at (is_unknown eras era) where
  found : (o : Option Members) → IfSome o AreMembers → AreMembers (unwrap_or o [])
  found None all = All-nil (λ (member : Member). IsSoundExposure member.exposure)
  found (Some members) all = all

  at : (b : Bool) → AreMembers (unwrap_or (cond b None (slice_get eras.kept (eras.current - era))) [])
  at true = All-nil (λ (member : Member). IsSoundExposure member.exposure)
  at false = found (slice_get eras.kept (eras.current - era)) (all_at AreMembers eras.kept (eras.current - era) kept.sound)

kept_set : (eras : Eras) (era : ℕ) (members : Members) → AreKept eras → AreMembers members → AreKept (with_members era members eras)
kept_set eras era members kept sound =
    record {
      count = omega (arith, kept.count, length-set eras.kept (eras.current - era) members);
      sound = All-set AreMembers eras.kept (eras.current - era) members sound kept.sound;
    }

pub kept_after : (event : Event) (eras : Eras) → IsAccepted event eras → AreKept eras → AreKept (after event eras)
kept_after (Started exposures) eras ok kept = kept_started eras exposures kept ok.each
kept_after (Pointed items) eras ok kept =
    kept_set eras eras.current (fold with_points (members_in eras eras.current) items) kept (sound_pointed (members_in eras eras.current) items (members_sound eras eras.current kept))
kept_after (Paid era who) eras ok kept =
    kept_set eras era (with_member who claiming (members_in eras era)) kept (sound_changed who claiming (λ member. refl) (members_in eras era) (members_sound eras era kept))
kept_after (Reported era who fraction) eras ok kept =
    kept_set eras era (with_member who (keeping fraction) (members_in eras era)) kept
    (sound_changed who (keeping fraction) (λ member. refl) (members_in eras era) (members_sound eras era kept))
kept_after (Queued due lines) eras ok kept = record { count = kept.count; sound = kept.sound }
kept_after (Cancelled number) eras ok kept = record { count = kept.count; sound = kept.sound }
kept_after Taken eras ok kept = record { count = kept.count; sound = kept.sound }

pub all_pointed : (P : Member → Type 0) → ((member : Member) (points : ℕ) → P member → P (gaining points member))
    → (members : Members) (items : List (AccountId × ℕ)) → All P (values_of members) → All P (values_of (fold with_points members items))
all_pointed P keeps members [] all = all
all_pointed P keeps members (item ∷ items) all =
    all_pointed P keeps (with_points members item) items (all_changed P item.0 (gaining item.1) (λ member p. keeps member item.1 p) members all)

-- members that are replaced or stay
either : (era current : ℕ) (b : Bool) (some others : Members) → (b ≡ true → All (IsFine era current) (values_of some)) → All (IsFine era current) (values_of others)
    → All (IsFine era current) (values_of (cond b some others))
either era current true some others first second = first refl
either era current false some others first second = second

pub fine_after : (era : ℕ) (event : Event) (eras : Eras) → IsAccepted event eras → AreKept eras → AreFine era eras → AreFine era (after event eras)
fine_after era (Started exposures) eras ok kept fine = at (nat_lt eras.current era) refl where
  P : Member → Type 0
  P = IsFine era (eras.current + 1)

  none : members_in (started exposures eras) era ≡ [] → All P (values_of (members_in (started exposures eras) era))
  none e = subst (λ (members : Members). All P (values_of members)) (sym e) (All-nil P)

  later : (b : Bool) → nat_eq era (eras.current + 1) ≡ b → eras.current < era → All P (values_of (members_in (started exposures eras) era))
  later true e before =
      let same : era ≡ eras.current + 1 = number_tie era (eras.current + 1) e in
      subst (λ (members : Members). All P (values_of members)) (sym (ap (λ n. members_in (started exposures eras) n) same ∙ members_enter eras exposures))
      (all_with P [] exposures (λ k d within. record { fraction = omega arith; unclaimed = λ _. refl }) (All-nil P))
  later false e before = none (none_before (started exposures eras) era (past (other_number era (eras.current + 1) e) before)) where
    past : era ≢ eras.current + 1 → eras.current < era → eras.current + 1 < era
    past apart h = omega arith

  stay : era ≤ eras.current → (b : Bool) → nat_lt (era + MOST_PAST_ERAS) (eras.current + 1) ≡ b → All P (values_of (members_in (started exposures eras) era))
  stay begun true e = none (none_unknown (started exposures eras) era (gone (nat_lt (eras.current + 1) era) e)) where
    gone : (b : Bool) → nat_lt (era + MOST_PAST_ERAS) (eras.current + 1) ≡ true → (b || nat_lt (era + MOST_PAST_ERAS) (eras.current + 1)) ≡ true
    gone true e = refl
    gone false e = e
  stay begun false e =
      let late : eras.current + 1 ≤ era + MOST_PAST_ERAS = grind (arith, nat_tests) in
      subst (λ (members : Members). All P (values_of members)) (sym (members_stay eras era exposures begun late))
      (λ k d within. record { fraction = (fine k d within).fraction; unclaimed = λ more. (fine k d within).unclaimed (omega (arith, more)) })

  at : (b : Bool) → nat_lt eras.current era ≡ b → All P (values_of (members_in (started exposures eras) era))
  at true e = later (nat_eq era (eras.current + 1)) refl (grind (arith, nat_tests))
  at false e = stay (grind (arith, nat_tests)) (nat_lt (era + MOST_PAST_ERAS) (eras.current + 1)) refl
fine_after era (Pointed items) eras ok kept fine =
    subst (λ (members : Members). All (IsFine era eras.current) (values_of members))
    (sym (members_set eras eras.current era (fold with_points (members_in eras eras.current) items) kept (current_known eras)))
    (either era eras.current (nat_eq eras.current era) (fold with_points (members_in eras eras.current) items) (members_in eras era)
    (λ e. all_pointed (IsFine era eras.current) (λ member points p. record { fraction = p.fraction; unclaimed = p.unclaimed }) (members_in eras eras.current) items
    (subst (λ n. All (IsFine era eras.current) (values_of (members_in eras n))) (sym (number_tie eras.current era e)) fine))
    fine)
fine_after era (Paid other who) eras ok kept fine =
    let facts = paid_facts eras other who ok in
    subst (λ (members : Members). All (IsFine era eras.current) (values_of members))
    (sym (members_set eras other era (with_member who claiming (members_in eras other)) kept facts.0))
    (either era eras.current (nat_eq other era) (with_member who claiming (members_in eras other)) (members_in eras era)
    (λ e. all_changed (IsFine era eras.current) who claiming
    (λ member p. record { fraction = p.fraction; unclaimed = λ more. absurd (facts.1 (over (number_tie other era e) more (known_numbers eras other facts.0).0)) }) (members_in eras other)
    (subst (λ n. All (IsFine era eras.current) (values_of (members_in eras n))) (sym (number_tie other era e)) fine))
    fine) where
      over : other ≡ era → eras.current ≤ era → other ≤ eras.current → other ≡ eras.current
      over same more begun = omega arith
fine_after era (Reported other who fraction) eras ok kept fine =
    let facts = reported_facts eras other who fraction ok in
    subst (λ (members : Members). All (IsFine era eras.current) (values_of members))
    (sym (members_set eras other era (with_member who (keeping fraction) (members_in eras other)) kept facts.1))
    (either era eras.current (nat_eq other era) (with_member who (keeping fraction) (members_in eras other)) (members_in eras era)
    (λ e. all_changed (IsFine era eras.current) who (keeping fraction) (λ member p. record { fraction = facts.0; unclaimed = p.unclaimed }) (members_in eras other)
    (subst (λ n. All (IsFine era eras.current) (values_of (members_in eras n))) (sym (number_tie other era e)) fine))
    fine)
fine_after era (Queued due lines) eras ok kept fine = fine
fine_after era (Cancelled number) eras ok kept fine = fine
fine_after era Taken eras ok kept fine = fine
