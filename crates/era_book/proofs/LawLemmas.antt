-- What all payouts of one era are together, and all that is due from one account.
use Rattle.std.proofs.Common.{◌≡◌, ◌≢◌, ℕ, zero, suc, ◌+◌, ◌-◌, ◌<◌, ◌≤◌, Bool, true, false, cond, ◌||◌, nat_eq}
use Rattle.std.proofs.Common.{nat_lt, nat_le, List, [], ◌∷◌, map, filter, fold, slice_get, unwrap_or, sum_by, All}
use Rattle.std.proofs.Common.{IsSomeAnd, Option, Some, None, refl, ap, sym, subst, ◌∙◌, true≢false, lit≤, arith}
use Rattle.std.specs.Map.{values_of}
use Rattle.std.proofs.lemmas.Bool.Decides.{nat_tests}
use Rattle.std.proofs.lemmas.List.Elements.{All-nil, All-cons, All-head, All-tail}
use Rattle.std.proofs.lemmas.List.Sums.{sum_by-cons}
use Rattle.npos_base.specs.declared.account.AccountId.{AccountId}
use Rattle.npos_base.specs.declared.limits.TheConstants.{MOST_PAST_ERAS, WHOLE_FRACTION}
use Rattle.npos_base.specs.Account.{same_account}
use Rattle.era_book.specs.declared.deferred.DeferredSlash.{DeferredSlash}
use Rattle.era_book.specs.declared.exposure.Backer.{Backer}
use Rattle.era_book.specs.declared.exposure.Exposure.{Exposure}
use Rattle.era_book.specs.Exposures.{amount_sum, amount_for, exposed_for, AreApart, IsSoundExposure}
use Rattle.era_book.specs.Payouts.{part, line, payout_lines}
use Rattle.era_book.specs.Slashes.{due, slash_lines}
use Rattle.era_book.specs.Members.{Member, Members, member_of, members_with, total_points, with_member, gaining, with_points}
use Rattle.era_book.specs.Eras.{Eras, first_era, started, is_unknown, members_in, member_in, AreMembers, AreKept}
use Rattle.era_book.specs.Calls.{claiming, keeping, paid_to, payout_in, due_behind, slash_in}
use Rattle.era_book.specs.Events.{Event, Started, Pointed, Paid, Reported, Queued, Cancelled, Taken, IsAccepted, after, AreAccepted, given_by, pays, makes_due, begun, exposures_in}
use Rattle.era_book.specs.Course.{IsFine, AreFine, AreInOrder, pay_of, all_pay, part_for, due_from, all_due, held_for, all_held, held_in}
use Rattle.era_book.specs.Laws.{RewardLaw, DueLaw, InOrderLaw, RewardOnLaw, DueOnLaw}
use Rattle.era_book.proofs.PartLemmas.{part_whole, part_within, parts_within, due_after}
use Rattle.era_book.proofs.LineLemmas.{kept_sum, payout_within}
use Rattle.era_book.proofs.MemberLemmas.{sum_changed, sum_stays, sum_with, nothing_with, all_with}
use Rattle.npos_base.proofs.NumberTests.{number_tie, other_number}
use Rattle.era_book.proofs.HistoryLemmas.{none_before, members_set, members_stay, members_enter, paid_facts, reported_facts, current_known, members_sound, kept_after, fine_after, all_pointed}
use Rattle.era_book.proofs.DeferredLemmas.{queued_after}

-- ---- sums over members
sum_under : (P : Member → Type 0) (f g : Member → ℕ) → ((member : Member) → P member → f member ≤ g member) → (members : List Member) → All P members
    → sum_by f members ≤ sum_by g members
sum_under P f g below [] all = omega arith
sum_under P f g below (m ∷ ms) all =
    omega (arith, sum_by-cons f m ms, sum_by-cons g m ms, below m (All-head P m ms all), sum_under P f g below ms (All-tail P m ms all))

sum_none : (P : Member → Type 0) (f : Member → ℕ) → ((member : Member) → P member → f member ≡ 0) → (members : List Member) → All P members → sum_by f members ≡ 0
sum_none P f none [] all = refl
sum_none P f none (m ∷ ms) all = omega (arith, sum_by-cons f m ms, none m (All-head P m ms all), sum_none P f none ms (All-tail P m ms all))

sum_pointed : (f : Member → ℕ) → ((member : Member) (points : ℕ) → f (gaining points member) ≡ f member)
    → (members : Members) (items : List (AccountId × ℕ)) → sum_by f (values_of (fold with_points members items)) ≡ sum_by f (values_of members)
sum_pointed f same members [] = refl
sum_pointed f same members (item ∷ items) =
    sum_pointed f same (with_points members item) items ∙ sum_stays f item.0 (gaining item.1) (λ member. same member item.1) members

-- ---- an era that has gone, or has not begun, gives nothing
module _ (era : ℕ) (gives : Event → Eras → ℕ) (begins : (exposures : List Exposure) (eras : Eras) → gives (Started exposures) eras ≡ 0)
    (silent : (event : Event) (eras : Eras) → IsAccepted event eras → is_unknown eras era ≡ true → gives event eras ≡ 0) where
  gone_unknown : (eras : Eras) → era + MOST_PAST_ERAS < eras.current → is_unknown eras era ≡ true
  gone_unknown eras gone = at (nat_lt eras.current era) where
    at : (b : Bool) → (b || nat_lt (era + MOST_PAST_ERAS) eras.current) ≡ true
    at true = refl
    at false = grind (arith, nat_tests)

  pub gone_now : (event : Event) (eras : Eras) → IsAccepted event eras → era + MOST_PAST_ERAS < (after event eras).current → gives event eras ≡ 0
  gone_now (Started exposures) eras ok gone = begins exposures eras
  gone_now (Pointed items) eras ok gone = silent (Pointed items) eras ok (gone_unknown eras gone)
  gone_now (Paid other who) eras ok gone = silent (Paid other who) eras ok (gone_unknown eras gone)
  gone_now (Reported other who fraction) eras ok gone = silent (Reported other who fraction) eras ok (gone_unknown eras gone)
  gone_now (Queued due lines) eras ok gone = silent (Queued due lines) eras ok (gone_unknown eras gone)
  gone_now (Cancelled number) eras ok gone = silent (Cancelled number) eras ok (gone_unknown eras gone)
  gone_now Taken eras ok gone = silent Taken eras ok (gone_unknown eras gone)

  pub gone_given : (events : List Event) (eras : Eras) → AreAccepted events eras → era + MOST_PAST_ERAS < eras.current → given_by gives events eras ≡ 0
  gone_given [] eras ok gone = refl
  gone_given (event ∷ more) eras ok gone =
      omega (arith, silent event eras ok.0 (gone_unknown eras gone), gone_given more (after event eras) ok.1 (later event)) where
        later : (event : Event) → era + MOST_PAST_ERAS < (after event eras).current
        later (Started exposures) = omega (arith, gone)
        later (Pointed items) = gone
        later (Paid other who) = gone
        later (Reported other who fraction) = gone
        later (Queued due lines) = gone
        later (Cancelled number) = gone
        later Taken = gone

-- what newcomers and nobody have not stays at the start of an era
started_step : (f : Members → ℕ) → f [] ≡ 0 → ((exposures : List Exposure) → f (members_with exposures) ≡ 0)
    → (era : ℕ) (eras : Eras) (exposures : List Exposure) → eras.current + 1 ≤ era + MOST_PAST_ERAS → f (members_in (started exposures eras) era) ≡ f (members_in eras era)
started_step f none new era eras exposures late = at (nat_lt eras.current era) refl where
  enter : (b : Bool) → nat_eq era (eras.current + 1) ≡ b → eras.current < era → f (members_in (started exposures eras) era) ≡ 0
  enter true e before =
      ap (λ n. f (members_in (started exposures eras) n)) (number_tie era (eras.current + 1) e) ∙ ap f (members_enter eras exposures) ∙ new exposures
  enter false e before = ap f (none_before (started exposures eras) era (past (other_number era (eras.current + 1) e))) ∙ none where
    past : era ≢ eras.current + 1 → eras.current + 1 < era
    past apart = omega (arith, before)

  at : (b : Bool) → nat_lt eras.current era ≡ b → f (members_in (started exposures eras) era) ≡ f (members_in eras era)
  at true e =
      let before : eras.current < era = grind (arith, nat_tests) in
      enter (nat_eq era (eras.current + 1)) refl before ∙ sym (ap f (none_before eras era before) ∙ none)
  at false e = let begun : era ≤ eras.current = grind (arith, nat_tests) in ap f (members_stay eras era exposures begun late)

-- ---- payouts
got_within : (reward : ℕ) (members : Members) → AreMembers members → all_pay reward members ≤ reward
got_within reward members sound =
    let points : ℕ = total_points members in
    omega (
      arith,
      sum_under (λ member. IsSoundExposure member.exposure) (pay_of reward points)
          (λ member. part reward member.points points) (λ member s. one points member s member.claimed)
          (values_of members) sound,
      parts_within (λ (member : Member). member.points) reward points (values_of members),
      part_whole reward points,
    ) where
      one : (points : ℕ) (member : Member) → IsSoundExposure member.exposure → (b : Bool)
          → cond b (amount_sum (payout_lines member.exposure (part reward member.points points))) 0 ≤ part reward
          member.points points
      one points member s true = payout_within member.exposure (part reward member.points points) s
      one points member s false = omega arith

nothing_got : (reward : ℕ) (members : Members) → All (λ member. member.claimed ≡ false) (values_of members) → all_pay reward members ≡ 0
nothing_got reward members unclaimed =
    sum_none (λ member. member.claimed ≡ false) (pay_of reward (total_points members))
    (λ member is. ap (λ b. cond b (amount_sum (payout_lines member.exposure (part reward member.points (total_points members)))) 0) is) (values_of members) unclaimed

-- a claim adds what is paid for it
claim_adds : (reward : ℕ) (members : Members) (who : AccountId) → IsSomeAnd (member_of members who) (λ member. member.claimed ≡ false)
    → all_pay reward (with_member who claiming members) ≡ all_pay reward members + (paid_to members reward (member_of members who)).total
claim_adds reward members who unclaimed = at (member_of members who) refl unclaimed where
  points : ℕ
  points = total_points members

  same : total_points (with_member who claiming members) ≡ points
  same = sum_stays (λ member. member.points) who claiming (λ member. refl) members

  at : (found : Option Member) → member_of members who ≡ found → IsSomeAnd found (λ member. member.claimed ≡ false)
      → sum_by (pay_of reward (total_points (with_member who claiming members)))
      (values_of (with_member who claiming members)) ≡ sum_by (pay_of reward points) (values_of members) +
      (paid_to members reward found).total
  at None is unclaimed_yet = absurd unclaimed_yet
  at (Some member) is unclaimed_yet =
      let none : pay_of reward points member ≡ 0 = ap (λ b. cond b (amount_sum (payout_lines member.exposure (part reward member.points points))) 0) unclaimed_yet in
      ap (λ n. sum_by (pay_of reward n) (values_of (with_member who claiming members))) same
      ∙ omega (arith, sum_changed (pay_of reward points) who claiming members member is, none)

report_keeps : (reward : ℕ) (members : Members) (who : AccountId) (fraction : ℕ) → all_pay reward (with_member who (keeping fraction) members) ≡ all_pay reward members
report_keeps reward members who fraction =
    ap (λ n. sum_by (pay_of reward n) (values_of (with_member who (keeping fraction) members))) (sum_stays (λ member. member.points) who (keeping fraction) (λ member. refl) members)
    ∙ sum_stays (pay_of reward (total_points members)) who (keeping fraction) (λ member. refl) members

got_after : (era reward : ℕ) (event : Event) (eras : Eras) → IsAccepted event eras → AreKept eras → AreFine era eras
    → (after event eras).current ≤ era + MOST_PAST_ERAS → all_pay reward (members_in (after event eras) era) ≡ all_pay reward (members_in eras era) + pays era reward event eras
got_after era reward (Started exposures) eras ok kept fine late =
    started_step (all_pay reward) nobody newcomers era eras exposures late ∙ omega arith where
      nobody : all_pay reward [] ≡ 0
      nobody = nothing_got reward [] (All-nil (λ (member : Member). member.claimed ≡ false))

      newcomers : (es : List Exposure) → all_pay reward (members_with es) ≡ 0
      newcomers es = nothing_got reward (members_with es) (all_with (λ member. member.claimed ≡ false) [] es (λ k d within. refl) (All-nil (λ (member : Member). member.claimed ≡ false)))
got_after era reward (Pointed items) eras ok kept fine late =
    ap (all_pay reward) (members_set eras eras.current era (fold with_points (members_in eras eras.current) items) kept (current_known eras))
    ∙ at (nat_eq eras.current era) refl where
      at : (b : Bool) → nat_eq eras.current era ≡ b → all_pay reward (cond b (fold with_points (members_in eras eras.current) items) (members_in eras era)) ≡ all_pay reward (members_in eras era) + 0
      at true e =
          let same : eras.current ≡ era = number_tie eras.current era e in
          let unclaimed : All (λ (member : Member). member.claimed ≡ false) (values_of (members_in eras era)) = λ k d within. (fine k d within).unclaimed (omega (arith, same)) in
          let here : All (λ (member : Member). member.claimed ≡ false) (values_of (members_in eras eras.current)) =
          subst (λ n. All (λ (member : Member). member.claimed ≡ false) (values_of (members_in eras n))) (sym same) unclaimed in
          let now : all_pay reward (fold with_points (members_in eras eras.current) items) ≡ 0 =
          nothing_got reward (fold with_points (members_in eras eras.current) items)
          (all_pointed (λ member. member.claimed ≡ false) (λ member points is. is) (members_in eras eras.current)
          items here) in
          let before : all_pay reward (members_in eras era) ≡ 0 = nothing_got reward (members_in eras era) unclaimed in
          omega (arith, now, before)
      at false e = omega arith
got_after era reward (Paid other who) eras ok kept fine late =
    let facts = paid_facts eras other who ok in
    ap (all_pay reward) (members_set eras other era (with_member who claiming (members_in eras other)) kept facts.0)
    ∙ at (nat_eq other era) refl facts.2 where
      at : (b : Bool) → nat_eq other era ≡ b → IsSomeAnd (member_in eras other who) (λ member. member.claimed ≡ false)
          → all_pay reward (cond b (with_member who claiming (members_in eras other)) (members_in eras era)) ≡ all_pay reward (members_in eras era) + cond b (payout_in eras other who reward).total 0
      at true e unclaimed_yet =
          claim_adds reward (members_in eras other) who unclaimed_yet
          ∙ ap (λ n. all_pay reward (members_in eras n) + (payout_in eras other who reward).total) (number_tie other era e)
      at false e unclaimed_yet = omega arith
got_after era reward (Reported other who fraction) eras ok kept fine late =
    let facts = reported_facts eras other who fraction ok in
    ap (all_pay reward) (members_set eras other era (with_member who (keeping fraction) (members_in eras other)) kept facts.1)
    ∙ at (nat_eq other era) refl where
      at : (b : Bool) → nat_eq other era ≡ b → all_pay reward (cond b (with_member who (keeping fraction) (members_in eras other)) (members_in eras era)) ≡ all_pay reward (members_in eras era) + 0
      at true e =
          report_keeps reward (members_in eras other) who fraction ∙ ap (λ n. all_pay reward (members_in eras n)) (number_tie other era e) ∙ omega arith
      at false e = omega arith
got_after era reward (Queued due lines) eras ok kept fine late = omega arith
got_after era reward (Cancelled number) eras ok kept fine late = omega arith
got_after era reward Taken eras ok kept fine late = omega arith

pays_silent : (era reward : ℕ) (event : Event) (eras : Eras) → IsAccepted event eras → is_unknown eras era ≡ true → pays era reward event eras ≡ 0
pays_silent era reward (Started exposures) eras ok unknown = refl
pays_silent era reward (Pointed items) eras ok unknown = refl
pays_silent era reward (Paid other who) eras ok unknown = at (nat_eq other era) refl where
  at : (b : Bool) → nat_eq other era ≡ b → cond b (payout_in eras other who reward).total 0 ≡ 0
  at true e = absurd (true≢false (sym unknown ∙ ap (λ n. is_unknown eras n) (sym (number_tie other era e)) ∙ (paid_facts eras other who ok).0))
  at false e = refl
pays_silent era reward (Reported other who fraction) eras ok unknown = refl
pays_silent era reward (Queued due lines) eras ok unknown = refl
pays_silent era reward (Cancelled number) eras ok unknown = refl
pays_silent era reward Taken eras ok unknown = refl

pub paid_within : (era reward : ℕ) (events : List Event) (eras : Eras) → AreAccepted events eras → AreKept eras → AreFine era eras
    → all_pay reward (members_in eras era) + given_by (pays era reward) events eras ≤ reward
paid_within era reward [] eras ok kept fine = omega (arith, got_within reward (members_in eras era) (members_sound eras era kept))
paid_within era reward (event ∷ more) eras ok kept fine =
    at (nat_lt (era + MOST_PAST_ERAS) (after event eras).current) refl
    (paid_within era reward more (after event eras) ok.1 (kept_after event eras ok.0 kept) (fine_after era event eras ok.0 kept fine)) where
      at : (b : Bool) → nat_lt (era + MOST_PAST_ERAS) (after event eras).current ≡ b
          → all_pay reward (members_in (after event eras) era) + given_by (pays era reward) more (after event eras) ≤ reward
          → all_pay reward (members_in eras era) + (pays era reward event eras + given_by (pays era reward) more (after event eras)) ≤ reward
      at true e rest =
          let gone : era + MOST_PAST_ERAS < (after event eras).current = grind (arith, nat_tests) in
          omega (
            arith,
            got_within reward (members_in eras era) (members_sound eras era kept),
            gone_now era (pays era reward) (λ exposures eras. refl) (pays_silent era reward) event eras ok.0 gone,
            gone_given era (pays era reward) (λ exposures eras. refl) (pays_silent era reward) more (after event eras) ok.1 gone,
          )
      at false e rest =
          let late : (after event eras).current ≤ era + MOST_PAST_ERAS = grind (arith, nat_tests) in
          omega (arith, got_after era reward event eras ok.0 kept fine late, rest)

first_kept : AreKept first_era
first_kept = record { count = refl; sound = All-cons AreMembers [] [] (All-nil (λ (member : Member). IsSoundExposure member.exposure)) (All-nil AreMembers) }

first_members : (era : ℕ) → members_in first_era era ≡ []
first_members zero = refl
first_members (suc era) = none_before first_era (suc era) (omega arith)

first_fine : (era : ℕ) → AreFine era first_era
first_fine era = subst (λ (members : Members). All (IsFine era 0) (values_of members)) (sym (first_members era)) (All-nil (IsFine era 0))

-- ---- eras in order
first_order : AreInOrder first_era
first_order =
    record {
      kept = first_kept;
      fine = first_fine;
      queued = record {
        numbers = λ i j d less within. absurd (omega (arith, within));
        given = All-nil (λ (slash : DeferredSlash). slash.number < 1);
        dues = λ i j d less within. absurd (omega (arith, within));
        most = lit≤ tt;
        distinct = All-nil (λ (slash : DeferredSlash). AreApart slash.lines);
      };
    }

pub in_order_law : InOrderLaw
in_order_law = (
  first_order,
  λ event eras ok order.
      record {
        kept = kept_after event eras ok order.kept;
        fine = λ era. fine_after era event eras ok order.kept (order.fine era);
        queued = queued_after event eras ok order.queued;
      },
)

pub reward_on_law : RewardOnLaw
reward_on_law era reward events eras order ok = paid_within era reward events eras ok order.kept (order.fine era)

pub reward_law : RewardLaw
reward_law era reward events ok = omega (arith, reward_on_law era reward events first_era first_order ok)

-- ---- dues
pub for_sum : (who : AccountId) (ls : List Backer) → amount_for who ls ≡ sum_by (λ l. cond (same_account l.who who) l.amount 0) ls
for_sum who [] = refl
for_sum who (l ∷ ls) = at (same_account l.who who) refl (for_sum who ls) where
  at : (b : Bool) → same_account l.who who ≡ b → amount_for who ls ≡ sum_by (λ l. cond (same_account l.who who) l.amount 0) ls
      → amount_sum (cond b (l ∷ filter (λ line. same_account line.who who) ls) (filter (λ line. same_account line.who who) ls))
      ≡ sum_by (λ l. cond (same_account l.who who) l.amount 0) (l ∷ ls)
  at true is rest =
      let here : cond (same_account l.who who) l.amount 0 ≡ l.amount = ap (λ b. cond b l.amount 0) is in
      omega (
        arith,
        rest,
        here,
        sum_by-cons (λ (x : Backer). x.amount) l (filter (λ (line : Backer). same_account line.who who) ls),
        sum_by-cons (λ (x : Backer). cond (same_account x.who who) x.amount 0) l ls,
      )
  at false is rest =
      let here : cond (same_account l.who who) l.amount 0 ≡ 0 = ap (λ b. cond b l.amount 0) is in
      omega (arith, rest, here, sum_by-cons (λ (x : Backer). cond (same_account x.who who) x.amount 0) l ls)

taken_within : (who : AccountId) (member : Member) → member.fraction ≤ WHOLE_FRACTION → due_from who member ≤ held_for who member
taken_within who member most = omega (arith, for_sum who member.exposure.backers, below member.exposure.backers) where
  one : (b : Bool) (amount : ℕ) → cond b (part amount member.fraction WHOLE_FRACTION) 0 ≤ cond b amount 0
  one true amount = part_within amount member.fraction WHOLE_FRACTION most
  one false amount = omega arith

  below : (bs : List Backer) → sum_by (part_for who member.fraction) bs ≤ sum_by (λ l. cond (same_account l.who who) l.amount 0) bs
  below [] = omega arith
  below (b ∷ bs) =
      omega (
        arith,
        one (same_account b.who who) b.amount,
        below bs,
        sum_by-cons (part_for who member.fraction) b bs,
        sum_by-cons (λ (x : Backer). cond (same_account x.who who) x.amount 0) b bs,
      )

-- a report adds its lines
lines_add : (who : AccountId) (bs : List Backer) (kept fraction : ℕ) → kept ≤ fraction
    → amount_for who (slash_lines bs kept fraction) + sum_by (part_for who kept) bs ≡ sum_by (part_for who fraction) bs
lines_add who bs kept fraction less =
    ap (λ n. n + sum_by (part_for who kept) bs)
    (for_sum who (slash_lines bs kept fraction) ∙ kept_sum f (λ l none. of (same_account l.who who) l.amount none) (map due_line bs))
    ∙ each bs where
      f : Backer → ℕ
      f = λ l. cond (same_account l.who who) l.amount 0

      due_line : Backer → Backer
      due_line = λ b. line b.who (due b.amount kept fraction)

      of : (b : Bool) (n : ℕ) → n ≡ 0 → cond b n 0 ≡ 0
      of true n e = e
      of false n e = refl

      one : (b : Bool) (amount : ℕ) → cond b (due amount kept fraction) 0 + cond b (part amount kept WHOLE_FRACTION) 0 ≡ cond b (part amount fraction WHOLE_FRACTION) 0
      one true amount = due_after amount kept fraction less
      one false amount = refl

      each : (xs : List Backer) → sum_by f (map due_line xs) + sum_by (part_for who kept) xs ≡ sum_by (part_for who fraction) xs
      each [] = refl
      each (x ∷ xs) =
          omega (
            arith,
            one (same_account x.who who) x.amount,
            each xs,
            sum_by-cons f (due_line x) (map due_line xs),
            sum_by-cons (part_for who kept) x xs,
            sum_by-cons (part_for who fraction) x xs,
          )

report_adds : (who : AccountId) (members : Members) (validator : AccountId) (fraction : ℕ) → IsSomeAnd (member_of members validator) (λ member. member.fraction < fraction)
    → all_due who (with_member validator (keeping fraction) members) ≡ all_due who members + amount_for who (due_behind fraction (member_of members validator))
report_adds who members validator fraction below = at (member_of members validator) refl below where
  at : (found : Option Member) → member_of members validator ≡ found → IsSomeAnd found (λ member. member.fraction < fraction)
      → all_due who (with_member validator (keeping fraction) members) ≡ all_due who members + amount_for who (due_behind fraction found)
  at None is less = absurd less
  at (Some member) is less =
      omega (
        arith,
        sum_changed (due_from who) validator (keeping fraction) members member is,
        lines_add who member.exposure.backers member.fraction fraction (omega (arith, less)),
      )

newcomers_untaken : (who : AccountId) (exposures : List Exposure) → all_due who (members_with exposures) ≡ 0
newcomers_untaken who exposures = nothing_with (due_from who) (λ exposure. none exposure.backers) exposures where
  one : (b : Bool) (amount : ℕ) → cond b (part amount 0 WHOLE_FRACTION) 0 ≡ 0
  one true amount = omega (arith, part_nothing amount) where
    part_nothing : (amount : ℕ) → part amount 0 WHOLE_FRACTION ≡ 0
    part_nothing amount = omega arith
  one false amount = refl

  none : (bs : List Backer) → sum_by (part_for who 0) bs ≡ 0
  none [] = refl
  none (b ∷ bs) = omega (arith, sum_by-cons (part_for who 0) b bs, one (same_account b.who who) b.amount, none bs)

taken_after : (era : ℕ) (who : AccountId) (event : Event) (eras : Eras) → IsAccepted event eras → AreKept eras
    → (after event eras).current ≤ era + MOST_PAST_ERAS → all_due who (members_in (after event eras) era) ≡ all_due who (members_in eras era) + makes_due era who event eras
taken_after era who (Started exposures) eras ok kept late =
    started_step (all_due who) refl (newcomers_untaken who) era eras exposures late ∙ omega arith
taken_after era who (Pointed items) eras ok kept late =
    ap (all_due who) (members_set eras eras.current era (fold with_points (members_in eras eras.current) items) kept (current_known eras))
    ∙ at (nat_eq eras.current era) refl where
      at : (b : Bool) → nat_eq eras.current era ≡ b → all_due who (cond b (fold with_points (members_in eras eras.current) items) (members_in eras era)) ≡ all_due who (members_in eras era) + 0
      at true e =
          sum_pointed (due_from who) (λ member points. refl) (members_in eras eras.current) items
          ∙ ap (λ n. all_due who (members_in eras n)) (number_tie eras.current era e) ∙ omega arith
      at false e = omega arith
taken_after era who (Paid other validator) eras ok kept late =
    ap (all_due who) (members_set eras other era (with_member validator claiming (members_in eras other)) kept (paid_facts eras other validator ok).0)
    ∙ at (nat_eq other era) refl where
      at : (b : Bool) → nat_eq other era ≡ b → all_due who (cond b (with_member validator claiming (members_in eras other)) (members_in eras era)) ≡ all_due who (members_in eras era) + 0
      at true e =
          sum_stays (due_from who) validator claiming (λ member. refl) (members_in eras other) ∙ ap (λ n. all_due who (members_in eras n)) (number_tie other era e) ∙ omega arith
      at false e = omega arith
taken_after era who (Reported other validator fraction) eras ok kept late =
    let facts = reported_facts eras other validator fraction ok in
    ap (all_due who) (members_set eras other era (with_member validator (keeping fraction) (members_in eras other)) kept facts.1)
    ∙ at (nat_eq other era) refl facts.2 where
      at : (b : Bool) → nat_eq other era ≡ b → IsSomeAnd (member_in eras other validator) (λ member. member.fraction < fraction)
          → all_due who (cond b (with_member validator (keeping fraction) (members_in eras other)) (members_in eras era))
          ≡ all_due who (members_in eras era) + cond b (amount_for who (slash_in eras other validator fraction)) 0
      at true e below =
          report_adds who (members_in eras other) validator fraction below
          ∙ ap (λ n. all_due who (members_in eras n) + amount_for who (slash_in eras other validator fraction)) (number_tie other era e)
      at false e below = omega arith
taken_after era who (Queued due lines) eras ok kept late = omega arith
taken_after era who (Cancelled number) eras ok kept late = omega arith
taken_after era who Taken eras ok kept late = omega arith

-- what the exposures of an era hold stays
held_after : (era : ℕ) (who : AccountId) (event : Event) (eras : Eras) → IsAccepted event eras → AreKept eras → era ≤ eras.current
    → (after event eras).current ≤ era + MOST_PAST_ERAS → all_held who (members_in (after event eras) era) ≡ all_held who (members_in eras era)
held_after era who (Started exposures) eras ok kept started_yet late = ap (all_held who) (members_stay eras era exposures started_yet late)
held_after era who (Pointed items) eras ok kept started_yet late =
    ap (all_held who) (members_set eras eras.current era (fold with_points (members_in eras eras.current) items) kept (current_known eras))
    ∙ at (nat_eq eras.current era) refl where
      at : (b : Bool) → nat_eq eras.current era ≡ b → all_held who (cond b (fold with_points (members_in eras eras.current) items) (members_in eras era)) ≡ all_held who (members_in eras era)
      at true e =
          sum_pointed (held_for who) (λ member points. refl) (members_in eras eras.current) items ∙ ap (λ n. all_held who (members_in eras n)) (number_tie eras.current era e)
      at false e = refl
held_after era who (Paid other validator) eras ok kept started_yet late =
    ap (all_held who) (members_set eras other era (with_member validator claiming (members_in eras other)) kept (paid_facts eras other validator ok).0)
    ∙ at (nat_eq other era) refl where
      at : (b : Bool) → nat_eq other era ≡ b → all_held who (cond b (with_member validator claiming (members_in eras other)) (members_in eras era)) ≡ all_held who (members_in eras era)
      at true e = sum_stays (held_for who) validator claiming (λ member. refl) (members_in eras other) ∙ ap (λ n. all_held who (members_in eras n)) (number_tie other era e)
      at false e = refl
held_after era who (Reported other validator fraction) eras ok kept started_yet late =
    ap (all_held who) (members_set eras other era (with_member validator (keeping fraction) (members_in eras other)) kept (reported_facts eras other validator fraction ok).1)
    ∙ at (nat_eq other era) refl where
      at : (b : Bool) → nat_eq other era ≡ b → all_held who (cond b (with_member validator (keeping fraction) (members_in eras other)) (members_in eras era)) ≡ all_held who (members_in eras era)
      at true e = sum_stays (held_for who) validator (keeping fraction) (λ member. refl) (members_in eras other) ∙ ap (λ n. all_held who (members_in eras n)) (number_tie other era e)
      at false e = refl
held_after era who (Queued due lines) eras ok kept started_yet late = refl
held_after era who (Cancelled number) eras ok kept started_yet late = refl
held_after era who Taken eras ok kept started_yet late = refl

dues_silent : (era : ℕ) (who : AccountId) (event : Event) (eras : Eras) → IsAccepted event eras → is_unknown eras era ≡ true → makes_due era who event eras ≡ 0
dues_silent era who (Started exposures) eras ok unknown = refl
dues_silent era who (Pointed items) eras ok unknown = refl
dues_silent era who (Paid other validator) eras ok unknown = refl
dues_silent era who (Reported other validator fraction) eras ok unknown = at (nat_eq other era) refl where
  at : (b : Bool) → nat_eq other era ≡ b → cond b (amount_for who (slash_in eras other validator fraction)) 0 ≡ 0
  at true e = absurd (true≢false (sym unknown ∙ ap (λ n. is_unknown eras n) (sym (number_tie other era e)) ∙ (reported_facts eras other validator fraction ok).1))
  at false e = refl
dues_silent era who (Queued due lines) eras ok unknown = refl
dues_silent era who (Cancelled number) eras ok unknown = refl
dues_silent era who Taken eras ok unknown = refl

all_taken_within : (era : ℕ) (who : AccountId) (eras : Eras) → AreFine era eras → all_due who (members_in eras era) ≤ all_held who (members_in eras era)
all_taken_within era who eras fine =
    sum_under (IsFine era eras.current) (due_from who) (held_for who) (λ member p. taken_within who member p.fraction) (values_of (members_in eras era)) fine

never_back : (event : Event) (eras : Eras) (era : ℕ) → era ≤ eras.current → era ≤ (after event eras).current
never_back (Started exposures) eras era h = omega (arith, h)
never_back (Pointed items) eras era h = h
never_back (Paid other who) eras era h = h
never_back (Reported other who fraction) eras era h = h
never_back (Queued due lines) eras era h = h
never_back (Cancelled number) eras era h = h
never_back Taken eras era h = h

-- once an era has begun
pub due_within : (era : ℕ) (who : AccountId) (events : List Event) (eras : Eras) → AreAccepted events eras → AreKept eras → AreFine era eras → era ≤ eras.current
    → all_due who (members_in eras era) + given_by (makes_due era who) events eras ≤ all_held who (members_in eras era)
due_within era who [] eras ok kept fine has_begun = omega (arith, all_taken_within era who eras fine)
due_within era who (event ∷ more) eras ok kept fine has_begun =
    at (nat_lt (era + MOST_PAST_ERAS) (after event eras).current) refl
    (due_within era who more (after event eras) ok.1 (kept_after event eras ok.0 kept) (fine_after era event eras ok.0 kept fine) (never_back event eras era has_begun)) where
      at : (b : Bool) → nat_lt (era + MOST_PAST_ERAS) (after event eras).current ≡ b
          → all_due who (members_in (after event eras) era) + given_by (makes_due era who) more (after event eras) ≤ all_held who (members_in (after event eras) era)
          → all_due who (members_in eras era) + (makes_due era who event eras + given_by (makes_due era who) more (after event eras)) ≤ all_held who (members_in eras era)
      at true e rest =
          let gone : era + MOST_PAST_ERAS < (after event eras).current = grind (arith, nat_tests) in
          omega (
            arith,
            all_taken_within era who eras fine,
            gone_now era (makes_due era who) (λ exposures eras. refl) (dues_silent era who) event eras ok.0 gone,
            gone_given era (makes_due era who) (λ exposures eras. refl) (dues_silent era who) more (after event eras) ok.1 gone,
          )
      at false e rest =
          let late : (after event eras).current ≤ era + MOST_PAST_ERAS = grind (arith, nat_tests) in
          omega (arith, taken_after era who event eras ok.0 kept late, held_after era who event eras ok.0 kept has_begun late, rest)

newcomers_held : (who : AccountId) (exposures : List Exposure) → all_held who (members_with exposures) ≤ exposed_for who exposures
newcomers_held who exposures = omega (arith, sum_with (held_for who) [] exposures)

-- before it has begun
pub due_later : (era : ℕ) (who : AccountId) (events : List Event) (eras : Eras) → AreAccepted events eras → AreKept eras → AreFine era eras → eras.current < era
    → given_by (makes_due era who) events eras ≤ exposed_for who (unwrap_or (slice_get (begun events) (era - (eras.current + 1))) [])
due_later era who [] eras ok kept fine before = omega arith
due_later era who (Started exposures ∷ more) eras ok kept fine before =
    at (nat_eq era (eras.current + 1)) refl
    (due_within era who more (started exposures eras) ok.1 (kept_after (Started exposures) eras ok.0 kept) (fine_after era (Started exposures) eras ok.0 kept fine))
    (due_later era who more (started exposures eras) ok.1 (kept_after (Started exposures) eras ok.0 kept) (fine_after era (Started exposures) eras ok.0 kept fine)) where
      now : Eras
      now = started exposures eras

      at : (b : Bool) → nat_eq era (eras.current + 1) ≡ b
          → (era ≤ now.current → all_due who (members_in now era) + given_by (makes_due era who) more now ≤ all_held who (members_in now era))
          → (now.current < era → given_by (makes_due era who) more now ≤ exposed_for who (unwrap_or (slice_get (begun more) (era - (now.current + 1))) []))
          → 0 + given_by (makes_due era who) more now ≤ exposed_for who (unwrap_or (slice_get (exposures ∷ begun more) (era - (eras.current + 1))) [])
      at true e begins waits =
          let same : era ≡ eras.current + 1 = number_tie era (eras.current + 1) e in
          let place : era - (eras.current + 1) ≡ zero = omega (arith, same) in
          let entered : members_in now era ≡ members_with exposures = ap (λ n. members_in now n) same ∙ members_enter eras exposures in
          omega (
            arith,
            begins (omega (arith, same)),
            ap (all_held who) entered,
            newcomers_held who exposures,
            ap (λ n. exposed_for who (unwrap_or (slice_get (exposures ∷ begun more) n) [])) place,
          )
      at false e begins waits =
          let apart : era ≢ eras.current + 1 = other_number era (eras.current + 1) e in
          let place : era - (eras.current + 1) ≡ suc (era - (eras.current + 1 + 1)) = past apart in
          omega (
            arith,
            waits (further apart),
            ap (λ n. exposed_for who (unwrap_or (slice_get (exposures ∷ begun more) n) [])) place,
          ) where
            past : era ≢ eras.current + 1 → era - (eras.current + 1) ≡ suc (era - (eras.current + 1 + 1))
            past apart = omega (arith, before)

            further : era ≢ eras.current + 1 → eras.current + 1 < era
            further apart = omega (arith, before)
due_later era who (Pointed items ∷ more) eras ok kept fine before =
    omega (arith, due_later era who more (after (Pointed items) eras) ok.1 (kept_after (Pointed items) eras ok.0 kept) (fine_after era (Pointed items) eras ok.0 kept fine) before)
due_later era who (Paid other validator ∷ more) eras ok kept fine before =
    omega (
      arith,
      due_later era who more (after (Paid other validator) eras) ok.1 (kept_after (Paid other validator) eras ok.0 kept) (fine_after era (Paid other validator) eras ok.0 kept fine) before,
    )
due_later era who (Reported other validator fraction ∷ more) eras ok kept fine before =
    omega (
      arith,
      dues_silent era who (Reported other validator fraction) eras ok.0 (not_begun before),
      due_later era who more (after (Reported other validator fraction) eras) ok.1 (kept_after (Reported other validator fraction) eras ok.0 kept)
          (fine_after era (Reported other validator fraction) eras ok.0 kept fine) before,
    ) where
      not_begun : eras.current < era → is_unknown eras era ≡ true
      not_begun h = at (nat_lt eras.current era) refl where
        at : (b : Bool) → nat_lt eras.current era ≡ b → (b || nat_lt (era + MOST_PAST_ERAS) eras.current) ≡ true
        at true e = refl
        at false e = absurd (grind (arith, nat_tests))
due_later era who (Queued due lines ∷ more) eras ok kept fine before =
    omega (arith, due_later era who more (after (Queued due lines) eras) ok.1 (kept_after (Queued due lines) eras ok.0 kept) fine before)
due_later era who (Cancelled number ∷ more) eras ok kept fine before =
    omega (arith, due_later era who more (after (Cancelled number) eras) ok.1 (kept_after (Cancelled number) eras ok.0 kept) fine before)
due_later era who (Taken ∷ more) eras ok kept fine before =
    omega (arith, due_later era who more (after Taken eras) ok.1 (kept_after Taken eras ok.0 kept) fine before)

pub due_on_law : DueOnLaw
due_on_law era who events eras order ok = at (nat_le era eras.current) refl where
  at : (b : Bool) → nat_le era eras.current ≡ b
      → all_due who (members_in eras era) + given_by (makes_due era who) events eras
      ≤ cond b (all_held who (members_in eras era)) (exposed_for who (unwrap_or (slice_get (begun events) (era - (eras.current + 1))) []))
  at true e = due_within era who events eras ok order.kept (order.fine era) (grind (arith, nat_tests))
  at false e =
      let later : eras.current < era = grind (arith, nat_tests) in
      let none : all_due who (members_in eras era) ≡ 0 = ap (all_due who) (none_before eras era later) in
      omega (arith, due_later era who events eras ok order.kept (order.fine era) later, none)

pub due_law : DueLaw
due_law zero who events ok =
    let none : held_in zero who events first_era ≡ 0 = refl in
    omega (arith, due_on_law zero who events first_era first_order ok, none)
due_law (suc era) who events ok =
    let later : nat_le (suc era) 0 ≡ false = grind (arith, nat_tests) in
    let place : suc era - (0 + 1) ≡ era = omega arith in
    let same : held_in (suc era) who events first_era ≡ exposed_for who (exposures_in (suc era) events) =
    ap (λ b. cond b (all_held who (members_in first_era (suc era))) (exposed_for who (unwrap_or (slice_get (begun events) (suc era - (0 + 1))) []))) later
    ∙ ap (λ n. exposed_for who (unwrap_or (slice_get (begun events) n) [])) place in
    omega (arith, due_on_law (suc era) who events first_era first_order ok, same)
