-- Members of eras and slashes that wait stay sound: over what happens to the eras, the phases of a block,
-- and its calls.
use Rattle.std.proofs.Common.{◌≡◌, ◌≢◌, ℕ, zero, suc, ◌+◌, ◌-◌, ◌<◌, ◌≤◌, Bool, true, false, cond, nat_eq, nat_le, nat_lt}
use Rattle.std.proofs.Common.{◌==◌, is_some, if◌then◌else◌, All, IfSome, List, [], ◌∷◌, length, map, filter, find, fold}
use Rattle.std.proofs.Common.{drop, slice_get, unwrap_or, Option, Some, None, refl, ap, sym, subst, ◌∙◌, not, arith}
use Rattle.std.specs.BTreeMap.{is_at}
use Rattle.std.specs.Map.{lookup, set_value}
use Rattle.std.specs.List.Sorted.{IsStrictlySortedBy}
use Rattle.std.proofs.lemmas.Bool.Decides.{nat_tests}
use Rattle.std.proofs.lemmas.Map.{keys-set_value}
use Rattle.std.proofs.lemmas.Map.Entries.{All-lookup}
use Rattle.std.proofs.lemmas.List.Elements.{All-nil, All-cons, All-head, All-tail, All-take, All-set, All-push, All-filter, All-map, All-weaker}
use Rattle.npos_base.specs.declared.account.AccountId.{AccountId}
use Rattle.npos_base.specs.declared.limits.TheConstants.{MOST_PAST_ERAS}
use Rattle.npos_base.specs.Account.{account_cmp}
use Rattle.npos_base.proofs.NumberTests.{number_tie}
use Rattle.block_wire.specs.declared.call.Call.{Call}
use Rattle.block_wire.specs.declared.call.CallKind.{CallKind}
use Rattle.block_wire.specs.declared.call.CallKind.TheVariants as kinds
use Rattle.block_wire.specs.declared.block.Block.{Block}
use Rattle.block_wire.specs.declared.genesis.Genesis.{Genesis}
use Rattle.stake_ledger.specs.Ledger.{Ledger, row_of}
use Rattle.era_book.specs.declared.exposure.Backer.{Backer}
use Rattle.era_book.specs.declared.exposure.Exposure.{Exposure}
use Rattle.era_book.specs.declared.deferred.DeferredSlash.{DeferredSlash}
use Rattle.era_book.specs.Exposures.{amount_sum}
use Rattle.era_book.specs.Payouts.{line}
use Rattle.era_book.specs.Slashes.{due as due_part, slash_lines}
use Rattle.era_book.specs.Members.{Member, Members, member_of, members_with, put_member, changed, with_member, gaining, with_points}
use Rattle.era_book.specs.Eras.{Eras, started, is_unknown, members_in, member_in, with_members, AreKept}
use Rattle.era_book.specs.Calls.{due_behind, slash_in, claiming, keeping}
use Rattle.era_book.specs.Deferred.{has_number, next_due}
use Rattle.era_book.specs.Events.{Event, Started, Pointed, Paid, Reported, Queued, Cancelled, Taken, IsAccepted, AreAccepted, after, after_all, begun}
use Rattle.era_book.proofs.EraLemmas.{all_at}
use Rattle.era_book.proofs.HistoryLemmas.{known_numbers, none_unknown, members_set, members_stay, paid_facts, reported_facts, current_known, kept_after}
use Rattle.block_receipts.specs.declared.refusal.Refusal.{Refusal}
use Rattle.chain_params.specs.Rules.{begun_era}
use Rattle.npos_runtime.specs.declared.chain.Chain.{Chain}
use Rattle.npos_runtime.specs.Rules.Committee.{Committee}
use Rattle.npos_runtime.specs.Rules.Exposed.{exposed}
use Rattle.npos_runtime.specs.Genesis.{genesis_chain}
use Rattle.npos_runtime.specs.Rules.Outcome.{Outcome}
use Rattle.npos_runtime.specs.Rules.Calls.{rule_of, rule_for}
use Rattle.npos_runtime.specs.Rules.Offices.{slashing_rule, deferring_rule, apply_slash, applied}
use Rattle.npos_runtime.specs.Step.{waiting_after, eras_after, applied_in, era_phase, before_calls, call_after, call_outcome, calls_outcome}
use Rattle.npos_runtime.specs.Live.{IsLive, IsNotedCommittee, WasElected, CanDefer}
use Rattle.npos_runtime.specs.Kept.Sound.{AreKnown, IsSoundMember, AreSoundMembers, AreSoundEras, IsSoundWaiting, IsSoundSlash, AreSoundSlashes}
use Rattle.npos_runtime.specs.Kept.Soundness.{CanStep, after_block, ErasStaySound, SlashesStaySound}
use Rattle.npos_runtime.proofs.Kept.KnownRowLemmas.{StayKnown, all_known, known_before, known_call}
use Rattle.npos_runtime.proofs.Kept.NewcomerLemmas.{entry_of, nobody_sound, newcomers_sound, exposures_are_sound}
use Rattle.npos_runtime.proofs.Rules.RuleLemmas.{IsLawful}
use Rattle.npos_runtime.proofs.Rules.CallTable.{lawful_call}
use Rattle.npos_runtime.proofs.Histories.WaitingLemmas.{sound_waiting}
use Rattle.npos_runtime.proofs.Histories.AppliedLemmas.{idle, shorter}
use Rattle.npos_runtime.proofs.Rules.OfficeCallLemmas.{applied_within, applied_keeps, eras_applied}
use Rattle.npos_runtime.proofs.Rules.PhaseTable.{era_state}
use Rattle.npos_runtime.proofs.Rules.LiveLemmas.{can_call, can_before, eras_before, due_step, slash_before, slash_calls}

-- ## What holds of eras over books

pub record AreFitMembers (book : Ledger) (eras : Eras) : Type 0 where
  pub first : members_in eras 0 ≡ []
  pub members : All (AreSoundMembers book) eras.kept

pub record IsFitSlash (book : Ledger) (slash : DeferredSlash) : Type 0 where
  pub numbered : 1 ≤ slash.number
  pub known : AreKnown book (map (λ line. line.who) slash.lines)
  pub given : All (λ line. 0 < line.amount) slash.lines

abbrev pub AreAhead : Eras → Type 0
AreAhead eras = All (λ slash. eras.current < slash.due) eras.queue

pub record AreFitSlashes (book : Ledger) (eras : Eras) : Type 0 where
  pub each : All (IsFitSlash book) eras.queue
  pub ahead : AreAhead eras
  pub first : 1 ≤ eras.next_slash

pub record AreFit (book : Ledger) (eras : Eras) : Type 0 where
  pub members : AreFitMembers book eras
  pub slashes : AreFitSlashes book eras

-- ## Rows that stay

module _ (old new : Ledger) (stay : StayKnown old new) where
  member_later : (entry : AccountId × Member) → IsSoundMember old entry → IsSoundMember new entry
  member_later entry member = record {
    known = stay entry.0 member.known;
    backers = all_known old new (map (λ (backer : Backer). backer.who) entry.1.exposure.backers) stay member.backers;
    given = member.given;
    own_first = member.own_first;
    fits = member.fits;
  }

  members_later : (members : Members) → AreSoundMembers old members → AreSoundMembers new members
  members_later members sound = record {
    rising = sound.rising;
    each = All-weaker (IsSoundMember old) (IsSoundMember new) member_later members sound.each;
  }

  slash_later : (slash : DeferredSlash) → IsFitSlash old slash → IsFitSlash new slash
  slash_later slash fit = record {
    numbered = fit.numbered;
    known = all_known old new (map (λ (line : Backer). line.who) slash.lines) stay fit.known;
    given = fit.given;
  }

  fit_later : (eras : Eras) → AreFit old eras → AreFit new eras
  fit_later eras fit = record {
    members = record {
      first = fit.members.first;
      members = All-weaker (AreSoundMembers old) (AreSoundMembers new) members_later eras.kept fit.members.members;
    };
    slashes = record {
      each = All-weaker (IsFitSlash old) (IsFitSlash new) slash_later eras.queue fit.slashes.each;
      ahead = fit.slashes.ahead;
      first = fit.slashes.first;
    };
  }

-- ## One member changes

-- what holds of each entry still does when the value of one changes, and keeps it
pub set_each : (P : AccountId × Member → Type 0) (test : AccountId → Bool) (change : Member → Member)
    → ((entry : AccountId × Member) → P entry → P (entry.0, change entry.1))
    → (members : Members) (member : Member) → lookup test members ≡ Some member → All P members → All P (set_value test members (change member))
set_each P test change keeps [] member is all = absurd (cc)
set_each P test change keeps (row ∷ rows) member is all =
    at (test row.0) is (λ found. set_each P test change keeps rows member found (All-tail P row rows all)) where
      at : (b : Bool) → cond b (Some row.1) (lookup test rows) ≡ Some member
          → (lookup test rows ≡ Some member → All P (set_value test rows (change member)))
          → All P (cond b ((row.0, change member) ∷ rows) (row ∷ set_value test rows (change member)))
      at true found later =
          let same : row.1 ≡ member = cc in
          All-cons P (row.0, change member) rows
          (subst (λ (m : Member). P (row.0, change m)) same (keeps row (All-head P row rows all))) (All-tail P row rows all)
      at false found later = All-cons P row (set_value test rows (change member)) (All-head P row rows all) (later found)

module _ (book : Ledger) where
  -- a member is sound by its exposure alone
  same_exposure : (who : AccountId) (one other : Member) → other.exposure ≡ one.exposure → IsSoundMember book (who, one) → IsSoundMember book (who, other)
  same_exposure who one other same member = record {
    known = member.known;
    backers = subst (λ (exposure : Exposure). AreKnown book (map (λ (backer : Backer). backer.who) exposure.backers)) (sym same) member.backers;
    given = subst (λ (exposure : Exposure). All (λ (backer : Backer). 0 < backer.amount) exposure.backers) (sym same) member.given;
    own_first = subst (λ (exposure : Exposure). All (λ (backer : Backer). backer.who ≢ who) (drop 1 exposure.backers)) (sym same) member.own_first;
    fits = omega (arith, member.fits, ap (λ (exposure : Exposure). amount_sum exposure.backers) same);
  }

  changed_sound : (who : AccountId) (change : Member → Member) → ((member : Member) → (change member).exposure ≡ member.exposure)
      → (members : Members) → AreSoundMembers book members → AreSoundMembers book (with_member who change members)
  changed_sound who change same members sound = at (member_of members who) refl where
    at : (found : Option Member) → member_of members who ≡ found → AreSoundMembers book (put_member (changed change found) who members)
    at None is = sound
    at (Some member) is = record {
      rising = subst (λ (keys : List AccountId). IsStrictlySortedBy account_cmp keys)
          (sym (keys-set_value (is_at (account_cmp who)) members (change member))) sound.rising;
      each = set_each (IsSoundMember book) (is_at (account_cmp who)) change
          (λ entry fit. same_exposure entry.0 entry.1 (change entry.1) (same entry.1) fit) members member is sound.each;
    }

  pointed_sound : (items : List (AccountId × ℕ)) (members : Members) → AreSoundMembers book members → AreSoundMembers book (fold with_points members items)
  pointed_sound [] members sound = sound
  pointed_sound (item ∷ more) members sound =
      pointed_sound more (with_points members item) (changed_sound item.0 (gaining item.1) (λ member. refl) members sound)

  members_at : (eras : Eras) (era : ℕ) → AreFitMembers book eras → AreSoundMembers book (members_in eras era)
  members_at eras era fit = at (is_unknown eras era) where
    found : (some : Option Members) → IfSome some (AreSoundMembers book) → AreSoundMembers book (unwrap_or some [])
    found None sound = nobody_sound book
    found (Some members) sound = sound

    at : (b : Bool) → AreSoundMembers book (unwrap_or (cond b None (slice_get eras.kept (eras.current - era))) [])
    at true = nobody_sound book
    at false = found (slice_get eras.kept (eras.current - era)) (all_at (AreSoundMembers book) eras.kept (eras.current - era) fit.members)

  -- one era has other members, and still none where it had none
  others_fit : (eras : Eras) (era : ℕ) (change : Members → Members) → AreKept eras → is_unknown eras era ≡ false → change [] ≡ []
      → ((members : Members) → AreSoundMembers book members → AreSoundMembers book (change members))
      → AreFitMembers book eras → AreFitMembers book (with_members era (change (members_in eras era)) eras)
  others_fit eras era change kept known nothing keeps fit = record {
    first = members_set eras era 0 (change (members_in eras era)) kept known ∙ at (nat_eq era 0) refl;
    members = All-set (AreSoundMembers book) eras.kept (eras.current - era) (change (members_in eras era))
        (keeps (members_in eras era) (members_at eras era fit)) fit.members;
  } where
    at : (b : Bool) → nat_eq era 0 ≡ b → cond b (change (members_in eras era)) (members_in eras 0) ≡ []
    at true is = ap (λ n. change (members_in eras n)) (number_tie era 0 is) ∙ (ap change fit.first ∙ nothing)
    at false is = fit.first

-- ## An era begins

started_fit : (book : Ledger) (exposures : List Exposure) (eras : Eras) → All (λ exposure. IsSoundMember book (entry_of exposure)) exposures
    → AreFitMembers book eras → AreFitMembers book (started exposures eras)
started_fit book exposures eras fine fit = record {
  first = at (is_unknown (started exposures eras) 0) refl;
  members = All-take (AreSoundMembers book) (MOST_PAST_ERAS + 1) (members_with exposures ∷ eras.kept)
      (All-cons (AreSoundMembers book) (members_with exposures) eras.kept (newcomers_sound book exposures fine) fit.members);
} where
  at : (b : Bool) → is_unknown (started exposures eras) 0 ≡ b → members_in (started exposures eras) 0 ≡ []
  at true is = none_unknown (started exposures eras) 0 is
  at false is = members_stay eras 0 exposures (omega arith) (known_numbers (started exposures eras) 0 is).1 ∙ fit.first

-- those whom the committee that waits exposes
waiting_fit : (chain : Chain) (waiting : Option Committee) → WasElected waiting → IsNotedCommittee waiting → IsSoundWaiting chain waiting
    → All (λ exposure. IsSoundMember chain.book (entry_of exposure)) (exposed waiting)
waiting_fit chain None elected noted sound = All-nil (λ (exposure : Exposure). IsSoundMember chain.book (entry_of exposure))
waiting_fit chain (Some committee) elected noted sound =
    exposures_are_sound chain.book committee elected.sound sound.passes.feasible noted sound.poll

-- ## What a call does to the eras

-- no era begins, no slash is applied, and one is queued as a report makes it due
abbrev IsByCall : Event → Eras → Type 0
IsByCall (Started exposures) eras = ⊥
IsByCall Taken eras = ⊥
IsByCall (Queued due lines) eras =
    (era : ℕ) × (validator : AccountId) × (fraction : ℕ) × (lines ≡ slash_in eras era validator fraction)
IsByCall event eras = Unit {0}

abbrev AreByCall : List Event → Eras → Type 0
AreByCall [] eras = Unit {0}
AreByCall (event ∷ more) eras = IsByCall event eras × AreByCall more (after event eras)

members_event : (book : Ledger) (event : Event) (eras : Eras) → IsAccepted event eras → IsByCall event eras → AreKept eras
    → AreFitMembers book eras → AreFitMembers book (after event eras)
members_event book (Started exposures) eras ok by kept fit = absurd by
members_event book (Pointed items) eras ok by kept fit =
    others_fit book eras eras.current (λ members. fold with_points members items) kept (current_known eras) (nobody items)
    (λ members sound. pointed_sound book items members sound) fit where
      nobody : (some : List (AccountId × ℕ)) → fold with_points [] some ≡ []
      nobody [] = refl
      nobody (item ∷ more) = nobody more
members_event book (Paid era who) eras ok by kept fit =
    others_fit book eras era (with_member who claiming) kept (paid_facts eras era who ok).0 refl
    (changed_sound book who claiming (λ member. refl)) fit
members_event book (Reported era who fraction) eras ok by kept fit =
    others_fit book eras era (with_member who (keeping fraction)) kept (reported_facts eras era who fraction ok).1 refl
    (changed_sound book who (keeping fraction) (λ member. refl)) fit
members_event book (Queued due lines) eras ok by kept fit = record { first = fit.first; members = fit.members }
members_event book (Cancelled number) eras ok by kept fit = record { first = fit.first; members = fit.members }
members_event book Taken eras ok by kept fit = absurd by

-- who stood behind a member is known, and what is due is something
given_lines : (lines : List Backer) → All (λ line. 0 < line.amount) (filter (λ line. nat_lt 0 line.amount) lines)
given_lines [] = All-nil (λ (line : Backer). 0 < line.amount)
given_lines (first ∷ more) = at (nat_lt 0 first.amount) refl (given_lines more) where
  at : (b : Bool) → nat_lt 0 first.amount ≡ b → All (λ line. 0 < line.amount) (filter (λ line. nat_lt 0 line.amount) more)
      → All (λ line. 0 < line.amount) (cond b (first ∷ filter (λ line. nat_lt 0 line.amount) more) (filter (λ line. nat_lt 0 line.amount) more))
  at true is rest =
      All-cons (λ (line : Backer). 0 < line.amount) first (filter (λ line. nat_lt 0 line.amount) more) (grind (arith, nat_tests)) rest
  at false is rest = rest

pub known_backers : (book : Ledger) (backers : List Backer) → AreKnown book (map (λ backer. backer.who) backers)
    → All (λ backer. is_some (row_of book backer.who) ≡ true) backers
known_backers book [] known = All-nil (λ (backer : Backer). is_some (row_of book backer.who) ≡ true)
known_backers book (first ∷ more) known =
    All-cons (λ (backer : Backer). is_some (row_of book backer.who) ≡ true) first more
    (All-head (λ (who : AccountId). is_some (row_of book who) ≡ true) first.who (map (λ (backer : Backer). backer.who) more) known)
    (known_backers book more
    (All-tail (λ (who : AccountId). is_some (row_of book who) ≡ true) first.who (map (λ (backer : Backer). backer.who) more) known))

known_lines : (book : Ledger) (backers : List Backer) (kept fraction : ℕ) → AreKnown book (map (λ backer. backer.who) backers)
    → AreKnown book (map (λ line. line.who) (slash_lines backers kept fraction))
known_lines book backers kept fraction known =
    let each : Backer → Backer = λ backer. line backer.who (due_part backer.amount kept fraction) in
    All-map (λ (who : AccountId). is_some (row_of book who) ≡ true) (λ (line : Backer). line.who) (slash_lines backers kept fraction)
    (All-filter (λ (line : Backer). nat_lt 0 line.amount) (λ (line : Backer). is_some (row_of book line.who) ≡ true) (map each backers)
    (All-map (λ (line : Backer). is_some (row_of book line.who) ≡ true) each backers (known_backers book backers known)))

-- the lines of a report
record AreFitLines (book : Ledger) (lines : List Backer) : Type 0 where
  pub known : AreKnown book (map (λ line. line.who) lines)
  pub given : All (λ line. 0 < line.amount) lines

report_fit : (book : Ledger) (eras : Eras) (era : ℕ) (validator : AccountId) (fraction : ℕ) → AreFitMembers book eras
    → AreFitLines book (slash_in eras era validator fraction)
report_fit book eras era validator fraction fit =
    behind (member_in eras era validator)
    (All-lookup (λ (member : Member). AreKnown book (map (λ (backer : Backer). backer.who) member.exposure.backers))
    (is_at (account_cmp validator)) (members_in eras era) (λ k d few. ((members_at book eras era fit).each k d few).backers)) where
      behind : (found : Option Member) → IfSome found (λ member. AreKnown book (map (λ backer. backer.who) member.exposure.backers))
          → AreFitLines book (due_behind fraction found)
      behind None known = record {
        known = All-nil (λ (who : AccountId). is_some (row_of book who) ≡ true);
        given = All-nil (λ (line : Backer). 0 < line.amount);
      }
      behind (Some member) known = record {
        known = known_lines book member.exposure.backers member.fraction fraction known;
        given = given_lines (map (λ (backer : Backer). line backer.who (due_part backer.amount member.fraction fraction)) member.exposure.backers);
      }

slashes_event : (book : Ledger) (event : Event) (eras : Eras) → IsAccepted event eras → IsByCall event eras → AreFitMembers book eras
    → AreFitSlashes book eras → AreFitSlashes book (after event eras)
slashes_event book (Started exposures) eras ok by members fit = absurd by
slashes_event book (Pointed items) eras ok by members fit = record { each = fit.each; ahead = fit.ahead; first = fit.first }
slashes_event book (Paid era who) eras ok by members fit = record { each = fit.each; ahead = fit.ahead; first = fit.first }
slashes_event book (Reported era who fraction) eras ok by members fit = record { each = fit.each; ahead = fit.ahead; first = fit.first }
slashes_event book (Queued due lines) eras ok by members fit =
    let slash : DeferredSlash = record { number = eras.next_slash; due = due; lines = lines } in
    let fine : AreFitLines book lines = subst (λ (ls : List Backer). AreFitLines book ls) (sym by.3) (report_fit book eras by.0 by.1 by.2 members) in
    record {
      each = All-push (IsFitSlash book) eras.queue slash fit.each
          (record { numbered = fit.first; known = fine.known; given = fine.given });
      ahead = All-push (λ (other : DeferredSlash). eras.current < other.due) eras.queue slash fit.ahead ok.1.ahead;
      first = omega arith;
    }
slashes_event book (Cancelled number) eras ok by members fit = record {
  each = All-filter (λ (slash : DeferredSlash). not (has_number number slash)) (IsFitSlash book) eras.queue fit.each;
  ahead = All-filter (λ (slash : DeferredSlash). not (has_number number slash)) (λ (slash : DeferredSlash). eras.current < slash.due) eras.queue fit.ahead;
  first = fit.first;
}
slashes_event book Taken eras ok by members fit = absurd by

fit_events : (book : Ledger) (events : List Event) (eras : Eras) → AreAccepted events eras → AreByCall events eras → AreKept eras
    → AreFit book eras → AreFit book (after_all events eras)
fit_events book [] eras ok by kept fit = fit
fit_events book (event ∷ more) eras ok by kept fit =
    fit_events book more (after event eras) ok.1 by.1 (kept_after event eras ok.0 kept)
    (record {
      members = members_event book event eras ok.0 by.0 kept fit.members;
      slashes = slashes_event book event eras ok.0 by.0 fit.members fit.slashes;
    })

report_by : (now : Bool) (chain : Chain) (era : ℕ) (validator : AccountId) (fraction : ℕ)
    → AreByCall (if now then slashing_rule chain era validator fraction else deferring_rule chain era validator fraction).events chain.eras
report_by true chain era validator fraction = (tt, tt)
report_by false chain era validator fraction = ((era, validator, fraction, refl), (tt, tt))

-- a row a kind
by_call : (chain : Chain) (who : AccountId) (kind : CallKind) → AreByCall (rule_of chain who kind).events chain.eras
unfolding rule_of
by_call chain who (kinds.Transfer to value) = tt
by_call chain who (kinds.Bond value) = tt
by_call chain who (kinds.BondExtra value) = tt
by_call chain who (kinds.Unbond value) = tt
by_call chain who (kinds.Rebond value) = tt
by_call chain who kinds.Withdraw = tt
by_call chain who (kinds.Nominate targets) = tt
by_call chain who (kinds.Validate commission) = tt
by_call chain who kinds.Chill = tt
by_call chain who (kinds.Rebag whom) = tt
by_call chain who (kinds.PutInFront lighter) = tt
by_call chain who (kinds.Submit round claim bytes) = tt
by_call chain who (kinds.Points items) = (tt, tt)
by_call chain who (kinds.Payout era validator) = (tt, tt)
by_call chain who (kinds.Offence era validator fraction) = report_by (chain.defer == 0) chain era validator fraction
by_call chain who (kinds.CancelSlash number) = (tt, tt)

fit_after : (refused : Option Refusal) (index : ℕ) (call : Call) (chain : Chain) → (rule_for chain call).refusal ≡ refused → CanDefer chain
    → AreFit chain.book chain.eras → AreFit chain.book (call_after refused index (rule_for chain call) chain).state.eras
fit_after None index call chain free can fit =
    let lawful : IsLawful chain call.who (rule_for chain call) = lawful_call call chain in
    subst (λ (eras : Eras). AreFit chain.book eras) lawful.eras.eras
    (fit_events chain.book (rule_for chain call).events chain.eras (lawful.eras.accepted can free) (by_call chain call.who call.kind) can.order.kept fit)
fit_after (Some refusal) index call chain free can fit = fit

fit_call : (index : ℕ) (call : Call) (chain : Chain) → CanDefer chain → AreFit chain.book chain.eras
    → AreFit (call_outcome index call chain).state.book (call_outcome index call chain).state.eras
fit_call index call chain can fit =
    let next : Chain = (call_outcome index call chain).state in
    fit_later chain.book next.book (known_call index call chain) next.eras
    (fit_after (rule_for chain call).refusal index call chain refl can fit)

fit_calls : (index : ℕ) (calls : List Call) (chain : Chain) → CanDefer chain → AreFit chain.book chain.eras
    → AreFit (calls_outcome index calls chain).state.book (calls_outcome index calls chain).state.eras
fit_calls index [] chain can fit = fit
fit_calls index (call ∷ more) chain can fit =
    fit_calls (index + 1) more (call_outcome index call chain).state (can_call index call chain can) (fit_call index call chain can fit)

-- ## An era begins, and slashes are applied

none_due : (current : ℕ) (slashes : List DeferredSlash) → find (λ slash. nat_le slash.due current) slashes ≡ None → All (λ slash. current < slash.due) slashes
none_due current [] none = All-nil (λ (slash : DeferredSlash). current < slash.due)
none_due current (first ∷ more) none = at (nat_le first.due current) refl none (λ is. none_due current more is) where
  at : (b : Bool) → nat_le first.due current ≡ b → cond b (Some first) (find (λ slash. nat_le slash.due current) more) ≡ None
      → (find (λ slash. nat_le slash.due current) more ≡ None → All (λ slash. current < slash.due) more) → All (λ slash. current < slash.due) (first ∷ more)
  at true is none later = absurd (cc)
  at false is none later =
      All-cons (λ (slash : DeferredSlash). current < slash.due) first more (grind (arith, nat_tests)) (later none)

-- once as many turns are done as slashes wait, none of them is due
ahead_applied : (count : ℕ) (chain : Chain) → length chain.eras.queue ≤ count → AreAhead (applied count chain).state.eras
ahead_applied zero chain few = at chain.eras.queue few where
  at : (slashes : List DeferredSlash) → length slashes ≤ 0 → All (λ slash. chain.eras.current < slash.due) slashes
  at [] none = All-nil (λ (slash : DeferredSlash). chain.eras.current < slash.due)
  at (slash ∷ more) none = absurd (omega (arith, none))
ahead_applied (suc more) chain few = at (next_due chain.eras) refl (λ next less. ahead_applied more next less) where
  at : (found : Option DeferredSlash) → next_due chain.eras ≡ found
      → ((next : Chain) → length next.eras.queue ≤ more → AreAhead (applied more next).state.eras) → AreAhead (applied (suc more) chain).state.eras
  at None none later =
      subst (λ (outcome : Outcome). AreAhead outcome.state.eras) (sym (idle (suc more) chain none))
      (none_due chain.eras.current chain.eras.queue none)
  at (Some slash) found later =
      let next : Chain = (apply_slash (next_due chain.eras) chain).state in
      later next
      (omega (
        arith,
        few,
        shorter chain.eras slash found,
        ap (λ (eras : Eras). length eras.queue) (eras_applied (next_due chain.eras) chain refl),
      ))

-- the chain as the era begins, before slashes are applied
abbrev started_chain : Option ℕ → Chain → Chain
started_chain begun chain = record chain {
  waiting = waiting_after chain.waiting begun;
  eras = eras_after chain.eras chain.waiting begun;
}

slashes_begun : (begun : Option ℕ) (chain : Chain) → AreFitSlashes chain.book chain.eras
    → AreFitSlashes chain.book (applied_in begun (started_chain begun chain)).state.eras
slashes_begun None chain fit = fit
slashes_begun (Some era) chain fit =
    let start : Chain = started_chain (Some era) chain in
    record {
      each = applied_keeps (IsFitSlash chain.book) (length chain.eras.queue) start fit.each;
      ahead = ahead_applied (length chain.eras.queue) start (omega arith);
      first = subst (λ (c : Chain). 1 ≤ c.eras.next_slash) (sym (applied_within (length chain.eras.queue) start)) fit.first;
    }

members_begun : (begun : Option ℕ) (chain : Chain) → All (λ exposure. IsSoundMember chain.book (entry_of exposure)) (exposed chain.waiting)
    → AreFitMembers chain.book chain.eras → AreFitMembers chain.book (eras_after chain.eras chain.waiting begun)
members_begun None chain fine fit = fit
members_begun (Some era) chain fine fit = started_fit chain.book (exposed chain.waiting) chain.eras fine fit

fit_begun : (chain : Chain) → All (λ exposure. IsSoundMember chain.book (entry_of exposure)) (exposed chain.waiting)
    → AreFit chain.book chain.eras → AreFit chain.book (era_phase chain).state.eras
fit_begun chain fine fit =
    let members : AreFitMembers chain.book (eras_after chain.eras chain.waiting (begun_era chain.params chain.due)) =
    members_begun (begun_era chain.params chain.due) chain fine fit.members in
    record {
      members = record { first = members.first; members = members.members };
      slashes = subst (λ (c : Chain). AreFitSlashes chain.book c.eras) (sym (era_state chain))
          (slashes_begun (begun_era chain.params chain.due) chain fit.slashes);
    }

-- ## A block

fit_start : (chain : Chain) → AreSoundEras chain → AreSoundSlashes chain → AreFit chain.book chain.eras
fit_start chain eras slashes = record {
  members = record { first = eras.first; members = eras.members };
  slashes = record {
    each = λ k d few. record {
      numbered = (slashes.each k d few).numbered;
      known = (slashes.each k d few).known;
      given = (slashes.each k d few).given;
    };
    ahead = λ k d few. (slashes.each k d few).ahead;
    first = slashes.first;
  };
}

fit_before : (chain : Chain) → IsLive chain → WasElected chain.waiting → IsSoundWaiting chain chain.waiting → AreFit chain.book chain.eras
    → AreFit (before_calls chain).book (before_calls chain).eras
fit_before chain live elected sound fit =
    fit_later chain.book (before_calls chain).book (known_before chain) (before_calls chain).eras
    (subst (λ (eras : Eras). AreFit chain.book eras) (sym (eras_before chain))
    (fit_begun chain (waiting_fit chain chain.waiting elected live.waiting sound) fit))

fit_block : (chain : Chain) (block : Block) → CanStep chain block → AreFit (after_block chain block).book (after_block chain block).eras
fit_block chain block can =
    let between = can.ready.between in
    fit_calls 0 block.calls (before_calls chain)
    (can_before chain between.live between.era (sound_waiting chain.waiting between.elected between.live.waiting) between.slashes)
    (fit_before chain between.live between.elected can.sound.waiting (fit_start chain can.sound.eras can.sound.slashes))

pub eras_stay : ErasStaySound
eras_stay chain block can =
    let fit : AreFitMembers (after_block chain block).book (after_block chain block).eras = (fit_block chain block can).members in
    record { first = fit.first; members = fit.members }

pub slashes_stay : SlashesStaySound
slashes_stay chain block can =
    let fit : AreFitSlashes (after_block chain block).book (after_block chain block).eras = (fit_block chain block can).slashes in
    record {
      each = λ k d few. record {
        numbered = (fit.each k d few).numbered;
        ahead = fit.ahead k d few;
        known = (fit.each k d few).known;
        given = (fit.each k d few).given;
      };
      first = fit.first;
      few = omega (
        arith,
        slash_calls 0 block.calls (before_calls chain),
        slash_before chain,
        due_step chain block,
        can.sound.slashes.few,
        can.in_range.1.0,
        can.ready.between.live.due.at_least,
      );
    }

-- ## A genesis

pub eras_start : (genesis : Genesis) → AreSoundEras (genesis_chain genesis)
eras_start genesis = record {
  first = refl;
  members = All-cons (AreSoundMembers (genesis_chain genesis).book) [] [] (nobody_sound (genesis_chain genesis).book)
      (All-nil (AreSoundMembers (genesis_chain genesis).book));
}

pub slashes_start : (genesis : Genesis) → AreSoundSlashes (genesis_chain genesis)
slashes_start genesis = record {
  each = All-nil (IsSoundSlash (genesis_chain genesis));
  first = omega arith;
  few = omega arith;
}
