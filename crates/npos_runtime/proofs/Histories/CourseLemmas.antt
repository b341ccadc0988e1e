-- What holds of the eras of a chain holds after each event.
use Rattle.std.proofs.Common.{◌≡◌, ◌≢◌, ℕ, ◌+◌, ◌-◌, ◌<◌, ◌≤◌, Bool, true, false, cond, nat_eq, nat_lt, List, [], ◌∷◌, fold, All}
use Rattle.std.proofs.Common.{IfSome, Option, Some, None, slice_get, slice_set, unwrap_or, refl, sym, ap, subst, ◌∙◌, arith}
use Rattle.std.specs.Map.{values_of}
use Rattle.std.proofs.lemmas.Bool.Decides.{nat_tests}
use Rattle.std.proofs.lemmas.List.Elements.{All-nil, All-cons, All-take, All-set}
use Rattle.npos_base.specs.declared.account.AccountId.{AccountId}
use Rattle.npos_base.specs.declared.limits.TheConstants.{MOST_PAST_ERAS, WHOLE_FRACTION}
use Rattle.npos_base.proofs.NumberTests.{number_tie, other_number}
use Rattle.era_book.specs.Exposures.{exposed_for}
use Rattle.era_book.specs.Members.{Member, Members, members_with, with_member, with_points}
use Rattle.era_book.specs.Eras.{Eras, first_era, is_unknown, members_in}
use Rattle.era_book.specs.Calls.{claiming, keeping, payout_in}
use Rattle.era_book.specs.Events.{Event, Started, Pointed, Paid, Reported, Queued, Cancelled, Taken, IsAccepted, after, AreAccepted, given_by, pays, makes_due, begun}
use Rattle.era_book.specs.Course.{IsFine, AreFine}
use Rattle.era_book.proofs.MemberLemmas.{all_changed, all_with}
use Rattle.era_book.proofs.EraLemmas.{all_at}
use Rattle.era_book.proofs.HistoryLemmas.{all_pointed, none_before, kept_after, paid_facts, reported_facts}
use Rattle.era_book.proofs.DeferredLemmas.{queued_after}
use Rattle.era_book.proofs.LawLemmas.{in_order_law, paid_within, due_later}
use Rattle.npos_runtime.specs.Live.{HaveFractions, AreInCourse}

abbrev IsFraction : Member → Type 0
IsFraction member = member.fraction ≤ WHOLE_FRACTION

fractions_in : (eras : Eras) (era : ℕ) → All HaveFractions eras.kept → HaveFractions (members_in eras era)
fractions_in eras era all = at (is_unknown eras era) where
  found : (o : Option Members) → IfSome o HaveFractions → HaveFractions (unwrap_or o [])
  found None all = All-nil IsFraction
  found (Some members) all = all

  at : (b : Bool) → HaveFractions (unwrap_or (cond b None (slice_get eras.kept (eras.current - era))) [])
  at true = All-nil IsFraction
  at false = found (slice_get eras.kept (eras.current - era)) (all_at HaveFractions eras.kept (eras.current - era) all)

fractions_set : (eras : Eras) (era : ℕ) (members : Members) → HaveFractions members → All HaveFractions eras.kept
    → All HaveFractions (slice_set eras.kept (eras.current - era) members)
fractions_set eras era members new all = All-set HaveFractions eras.kept (eras.current - era) members new all

fractions_after : (event : Event) (eras : Eras) → IsAccepted event eras → All HaveFractions eras.kept → All HaveFractions (after event eras).kept
fractions_after (Started exposures) eras ok all =
    All-take HaveFractions (MOST_PAST_ERAS + 1) (members_with exposures ∷ eras.kept)
    (All-cons HaveFractions (members_with exposures) eras.kept (all_with IsFraction [] exposures (λ k d few. omega arith) (All-nil IsFraction)) all)
fractions_after (Pointed items) eras ok all =
    fractions_set eras eras.current (fold with_points (members_in eras eras.current) items)
    (all_pointed IsFraction (λ member points within. within) (members_in eras eras.current) items (fractions_in eras eras.current all)) all
fractions_after (Paid era who) eras ok all =
    fractions_set eras era (with_member who claiming (members_in eras era))
    (all_changed IsFraction who claiming (λ member within. within) (members_in eras era) (fractions_in eras era all)) all
fractions_after (Reported era who fraction) eras ok all =
    fractions_set eras era (with_member who (keeping fraction) (members_in eras era))
    (all_changed IsFraction who (keeping fraction) (λ member within. (reported_facts eras era who fraction ok).0) (members_in eras era) (fractions_in eras era all)) all
fractions_after (Queued due lines) eras ok all = all
fractions_after (Cancelled number) eras ok all = all
fractions_after Taken eras ok all = all

pub course_after : (event : Event) (eras : Eras) → IsAccepted event eras → AreInCourse eras → AreInCourse (after event eras)
course_after event eras ok course = record {
  kept = kept_after event eras ok course.kept;
  fractions = fractions_after event eras ok course.fractions;
  queued = queued_after event eras ok course.queued;
}

pub first_course : AreInCourse first_era
first_course = record {
  kept = in_order_law.0.kept;
  fractions = All-cons HaveFractions [] [] (All-nil IsFraction) (All-nil HaveFractions);
  queued = in_order_law.0.queued;
}

-- ## What the eras give from here on

-- what is asked of the members of an era holds but for the current one, of which nobody knows who has claimed
fine_otherwise : (era : ℕ) (eras : Eras) → AreInCourse eras → era ≢ eras.current → AreFine era eras
fine_otherwise era eras course other = at (nat_lt eras.current era) refl where
  at : (b : Bool) → nat_lt eras.current era ≡ b → AreFine era eras
  at true is =
      let none : members_in eras era ≡ [] = none_before eras era (grind (arith, nat_tests)) in
      subst (λ (members : Members). All (IsFine era eras.current) (values_of members)) (sym none) (All-nil (IsFine era eras.current))
  at false is =
      let over : era < eras.current = (let begun : era ≤ eras.current = grind (arith, nat_tests) in omega (arith, begun, other)) in
      λ k d within. record {
        fraction = fractions_in eras era course.fractions k d within;
        unclaimed = λ late. absurd (omega (arith, late, over));
      }

-- the current era pays nothing yet
none_yet : (reward : ℕ) (event : Event) (eras : Eras) → IsAccepted event eras → pays eras.current reward event eras ≡ 0
none_yet reward (Started exposures) eras ok = refl
none_yet reward (Pointed items) eras ok = refl
none_yet reward (Paid era who) eras ok = at (nat_eq era eras.current) refl where
  at : (b : Bool) → nat_eq era eras.current ≡ b → cond b (payout_in eras era who reward).total 0 ≡ 0
  at true is = absurd ((paid_facts eras era who ok).1 (number_tie era eras.current is))
  at false is = refl
none_yet reward (Reported era who fraction) eras ok = refl
none_yet reward (Queued due lines) eras ok = refl
none_yet reward (Cancelled number) eras ok = refl
none_yet reward Taken eras ok = refl

-- whatever was claimed before, all later payouts of an era are within its reward
pub paid_on : (era reward : ℕ) (events : List Event) (eras : Eras) → AreAccepted events eras → AreInCourse eras
    → given_by (pays era reward) events eras ≤ reward
paid_on era reward [] eras ok course = omega arith
paid_on era reward (event ∷ more) eras ok course =
    at (nat_eq era eras.current) refl (paid_on era reward more (after event eras) ok.1 (course_after event eras ok.0 course)) where
      at : (b : Bool) → nat_eq era eras.current ≡ b → given_by (pays era reward) more (after event eras) ≤ reward
          → given_by (pays era reward) (event ∷ more) eras ≤ reward
      at true is rest =
          let none : pays era reward event eras ≡ 0 =
          ap (λ n. pays n reward event eras) (number_tie era eras.current is) ∙ none_yet reward event eras ok.0 in
          omega (arith, none, rest)
      at false is rest =
          omega (
            arith,
            paid_within era reward (event ∷ more) eras ok course.kept
                (fine_otherwise era eras course (other_number era eras.current is)),
          )

-- what is due for an era that is to begin is within what is exposed then
pub due_on : (era : ℕ) (who : AccountId) (events : List Event) (eras : Eras) → AreAccepted events eras → AreInCourse eras → eras.current < era
    → given_by (makes_due era who) events eras ≤ exposed_for who (unwrap_or (slice_get (begun events) (era - (eras.current + 1))) [])
due_on era who events eras ok course ahead =
    due_later era who events eras ok course.kept (fine_otherwise era eras course (λ same. omega (arith, same, ahead))) ahead
