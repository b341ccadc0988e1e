-- The roles of a chain stay sound: who has a role has stake behind it, and what it chose is in form.
use Rattle.std.proofs.Common.{◌≡◌, ◌≢◌, ℕ, zero, suc, ◌+◌, ◌-◌, ◌≤◌, ◌<◌, Bool, true, false, not, ◌&&◌, ◌||◌, ◌==◌, nat_lt, is_some, if◌then◌else◌}
use Rattle.std.proofs.Common.{All, List, [], ◌∷◌, length, Option, Some, None, option_map, refl, sym, ◌∙◌, ap, subst, arith, true≢false}
use Rattle.std.specs.List.{list_any}
use Rattle.std.specs.List.Sorted.{IsStrictlySortedBy}
use Rattle.std.specs.Map.{keys_of}
use Rattle.std.proofs.lemmas.Bool.Decides.{nat_tests}
use Rattle.std.proofs.lemmas.Grind.{common_steps}
use Rattle.std.proofs.lemmas.List.Elements.{All-nil, All-cons}
use Rattle.npos_base.specs.declared.account.AccountId.{AccountId}
use Rattle.npos_base.specs.declared.limits.TheConstants.{WHOLE_FRACTION}
use Rattle.npos_base.specs.Account.{account_cmp, same_account}
use Rattle.npos_base.proofs.AccountOrder.{same_exact}
use Rattle.block_wire.specs.declared.call.Call.{Call}
use Rattle.block_wire.specs.declared.call.CallKind.{CallKind}
use Rattle.block_wire.specs.declared.call.CallKind.TheVariants as kinds
use Rattle.block_wire.specs.declared.genesis.Genesis.{Genesis}
use Rattle.stake_ledger.specs.declared.row.Row.{Row}
use Rattle.stake_ledger.specs.declared.refusal.LedgerRefusal.TheVariants.{NotBonded, BelowMinimum}
use Rattle.stake_ledger.specs.Chunks.{chunk_sum}
use Rattle.stake_ledger.specs.Rows as rows
use Rattle.stake_ledger.specs.Rows.{is_bonded, worth, activated, unbonded, rebonded, withdrawn, gained, paid}
use Rattle.stake_ledger.specs.Ledger.{Ledger, row_at, changed, IsBalanced}
use Rattle.stake_ledger.specs.Calls.{minted_free, slashed, unbond_amount, rebond_amount}
use Rattle.stake_ledger.proofs.AccountLemmas.{row_at-changed, row_at-returned, row_at-burned, row_at-slashed}
use Rattle.stake_ledger.proofs.LedgerLemmas.{part_within}
use Rattle.stake_ledger.proofs.ScheduleLemmas.{sum_with, sum_without}
use Rattle.voter_lists.specs.declared.standing.Standing.{Standing}
use Rattle.voter_lists.specs.declared.standing.Standing.TheVariants.{Nominator, Validator}
use Rattle.voter_lists.specs.Roles.{RoleList, role_of, standing_of, with_standing, without_role, is_validator, is_no_target}
use Rattle.voter_lists.specs.Roles.{nominate_refusal as list_nominate_refusal, validate_refusal as list_validate_refusal}
use Rattle.voter_lists.specs.Bags.{Listing, is_listed, removed, put_in_front_refusal as list_put_in_front_refusal}
use Rattle.voter_lists.proofs.RepeatLemmas.{distinct_from}
use Rattle.submission_queue.specs.declared.submission.Submission.{Submission}
use Rattle.election_snapshot.specs.Snapshot.{Snapshot}
use Rattle.era_book.specs.declared.exposure.Backer.{Backer}
use Rattle.era_book.specs.declared.deferred.DeferredSlash.{DeferredSlash}
use Rattle.era_book.specs.Calls.{slash_in}
use Rattle.era_book.specs.Deferred.{next_due, without_next_due}
use Rattle.block_receipts.specs.declared.refusal.Refusal.{Refusal}
use Rattle.block_receipts.specs.declared.refusal.Refusal.TheVariants.{Ledger as ByLedger, List as ByList}
use Rattle.chain_params.specs.Rules.{begun_era, reward_of, is_decision, least_bond_of}
use Rattle.round_decision.specs.Decision.{losers, others, reward_in, rewarded, paid_out, books_decided}
use Rattle.round_decision.specs.Deposits.{returned, burned, all_returned, all_burned}
use Rattle.npos_runtime.specs.declared.chain.Chain.{Chain}
use Rattle.npos_runtime.specs.declared.round.Round.{Round}
use Rattle.npos_runtime.specs.declared.round.Round.TheVariants as rounds
use Rattle.npos_runtime.specs.Rules.Outcome.{quiet}
use Rattle.npos_runtime.specs.Rules.Ballots.{active_of}
use Rattle.npos_runtime.specs.Rules.Lists.{has_role, is_nominator_role, is_validator_role, placed, with_stake, is_over, retired}
use Rattle.npos_runtime.specs.Rules.BookCalls.{era_now, release_now}
use Rattle.npos_runtime.specs.Rules.ListCalls.{role_refusal, nominate_rule, validate_rule}
use Rattle.npos_runtime.specs.Rules.CallRule.{CallRule}
use Rattle.npos_runtime.specs.Rules.Calls.{rule_of, rule_for}
use Rattle.npos_runtime.specs.Rules.Signed.{ejected, submission_of}
use Rattle.npos_runtime.specs.Rules.Offices.{all_minted, payout_now, slashed_once, slashes, slashing_rule, deferring_rule, apply_slash, applied}
use Rattle.npos_runtime.specs.Rules.Rounds.{round_phase}
use Rattle.npos_runtime.specs.Rules.Deciding.{decision_of, decision_phase}
use Rattle.npos_runtime.specs.Step.{waiting_after, eras_after, applied_in, era_phase, before_calls, call_after, call_outcome, calls_outcome}
use Rattle.npos_runtime.specs.Genesis.{genesis_chain}
use Rattle.npos_runtime.specs.Live.{IsLive, IsNotedCommittee}
use Rattle.npos_runtime.specs.Kept.Sound.{AreSoundTargets, IsSoundStanding, AreSoundRoles}
use Rattle.npos_runtime.specs.Kept.Soundness.{RolesStaySound}
use Rattle.npos_runtime.proofs.Rules.ListLemmas.{by_account}
use Rattle.npos_runtime.proofs.Rules.RoleLemmas.{apart_from, standing_with, standing_other, standing_without, standing_without_other}
use Rattle.npos_runtime.proofs.Rules.PartLemmas.{none_inside, first_none, second_none, live_with, with_eras}
use Rattle.npos_runtime.proofs.Rules.OfficeCallLemmas.{slashed_live, applied_live}
use Rattle.npos_runtime.proofs.Rules.CallTable.{lawful_call}
use Rattle.npos_runtime.proofs.Rules.LiveLemmas.{live_call, live_before, live_calls}
use Rattle.npos_runtime.proofs.Kept.Sound.EntryLemmas.{every_entry, each_found}
use Rattle.npos_runtime.proofs.Kept.Sound.BagsLemmas.{AreSoundBags, IsSmall, sound_removed, sound_moved, sound_followed, sound_front, sound_placed}

-- ## What holds of roles in the midst of a block

-- who has a role has stake behind it
abbrev AreBacked : Ledger → RoleList → Type 0
AreBacked book roles = (who : AccountId) → has_role roles who ≡ true → is_bonded (row_at book who) ≡ true

abbrev HaveSound : RoleList → Type 0
HaveSound roles = (who : AccountId) (standing : Standing) → standing_of roles who ≡ Some standing → IsSoundStanding who standing

record AreSet (book : Ledger) (roles : RoleList) (bags : Listing) : Type 0 where
  backed : AreBacked book roles
  standings : HaveSound roles
  walked : AreSoundBags bags

abbrev AreSetIn : Chain → Type 0
AreSetIn chain = AreSet chain.book chain.roles chain.bags

set_from : (chain : Chain) → AreSoundRoles chain → AreSetIn chain
set_from chain sound = record {
  backed = λ who has. at who (standing_of chain.roles who) refl has;
  standings = λ who standing found.
      each_found (λ (entry : AccountId × Standing). IsSoundStanding entry.0 entry.1) chain.roles sound.standings who standing found;
  walked = record { falling = sound.falling; scores = sound.scores };
} where
  at : (who : AccountId) (o : Option Standing) → standing_of chain.roles who ≡ o → is_some o ≡ true → is_bonded (row_at chain.book who) ≡ true
  at who None found has = absurd (true≢false (sym has))
  at who (Some standing) found has =
      each_found (λ (entry : AccountId × Standing). is_bonded (row_at chain.book entry.0) ≡ true) chain.roles sound.bonded who standing found

sound_from : (chain : Chain) → IsLive chain → AreSetIn chain → AreSoundRoles chain
sound_from chain live set = record {
  bonded = every_entry (λ (entry : AccountId × Standing). is_bonded (row_at chain.book entry.0) ≡ true) chain.roles live.roles.ranked.rising
      (λ who standing found. set.backed who (ap is_some found));
  standings = every_entry (λ (entry : AccountId × Standing). IsSoundStanding entry.0 entry.1) chain.roles live.roles.ranked.rising set.standings;
  falling = set.walked.falling;
  scores = set.walked.scores;
}

-- what is active is a score
small : (book : Ledger) → IsBalanced book → (who : AccountId) → IsSmall (row_at book who).active
small book balanced who =
    omega (arith, part_within worth refl who book balanced.distinct, balanced.equation, balanced.capped)

-- ## The books

-- who was bonded is so still
abbrev StayBonded : Ledger → Ledger → Type 0
StayBonded old new = (who : AccountId) → is_bonded (row_at old who) ≡ true → is_bonded (row_at new who) ≡ true

is_above : (row : Row) → 0 < row.active + chunk_sum row.chunks → is_bonded row ≡ true
is_above row above = grind (arith, nat_tests, above)

pub above_is : (row : Row) → is_bonded row ≡ true → 0 < row.active + chunk_sum row.chunks
above_is row bonded = grind (arith, nat_tests, bonded)

-- one row may change, and stays bonded where it was
bonded_if : (old taken new : Row) (b : Bool) → new ≡ (if b then taken else old) → (is_bonded old ≡ true → is_bonded taken ≡ true)
    → is_bonded old ≡ true → is_bonded new ≡ true
bonded_if old taken new true is stays bonded = ap is_bonded is ∙ stays bonded
bonded_if old taken new false is stays bonded = ap is_bonded is ∙ bonded

bonded_changed : (owner : AccountId) (change : Row → Row) (book : Ledger)
    → (is_bonded (row_at book owner) ≡ true → is_bonded (change (row_at book owner)) ≡ true) → StayBonded book (changed owner change book)
bonded_changed owner change book stays who = at (same_account who owner) refl (row_at-changed owner change book who) where
  at : (b : Bool) → same_account who owner ≡ b → row_at (changed owner change book) who ≡ (if b then change (row_at book who) else row_at book who)
      → is_bonded (row_at book who) ≡ true → is_bonded (row_at (changed owner change book) who) ≡ true
  at true e is bonded =
      ap is_bonded is
      ∙ (subst (λ (a : AccountId). is_bonded (row_at book a) ≡ true → is_bonded (change (row_at book a)) ≡ true) (sym (same_exact who owner e)) stays) bonded
  at false e is bonded = ap is_bonded is ∙ bonded

bonded_returned : (book : Ledger) (item : Submission) → StayBonded book (returned book item)
bonded_returned book item who =
    bonded_if (row_at book who) (rows.returned item.deposit (row_at book who)) (row_at (returned book item) who) (same_account who item.who)
    (row_at-returned item.who item.deposit book who) (λ bonded. bonded)

bonded_burned : (book : Ledger) (item : Submission) → StayBonded book (burned book item)
bonded_burned book item who =
    bonded_if (row_at book who) (rows.forfeited item.deposit (row_at book who)) (row_at (burned book item) who) (same_account who item.who)
    (row_at-burned item.who item.deposit book who) (λ bonded. bonded)

bonded_minted : (book : Ledger) (who : AccountId) (value : ℕ) → StayBonded book (minted_free who value book)
bonded_minted book who value = bonded_changed who (gained value) book (λ bonded. bonded)

bonded_all_returned : (items : List Submission) (book : Ledger) → StayBonded book (all_returned items book)
bonded_all_returned [] book who bonded = bonded
bonded_all_returned (item ∷ more) book who bonded = bonded_all_returned more (returned book item) who (bonded_returned book item who bonded)

bonded_all_burned : (items : List Submission) (book : Ledger) → StayBonded book (all_burned items book)
bonded_all_burned [] book who bonded = bonded
bonded_all_burned (item ∷ more) book who bonded = bonded_all_burned more (burned book item) who (bonded_burned book item who bonded)

bonded_paid : (reward : ℕ) (items : List Submission) (book : Ledger) → StayBonded book (paid_out reward items book)
bonded_paid reward [] book who bonded = bonded
bonded_paid reward (winner ∷ rest) book who bonded =
    let back : Ledger = returned book winner in
    bonded_all_returned rest (rewarded reward back winner) who
    (bonded_minted back winner.who (reward_in reward back) who (bonded_returned book winner who bonded))

bonded_decided : (reward : ℕ) (snapshot : Snapshot) (items : List Submission) (book : Ledger) → StayBonded book (books_decided reward snapshot items book)
bonded_decided reward snapshot items book who bonded =
    bonded_paid reward (others snapshot items) (all_burned (losers snapshot items) book) who
    (bonded_all_burned (losers snapshot items) book who bonded)

bonded_all_minted : (lines : List Backer) (book : Ledger) → StayBonded book (all_minted lines book)
bonded_all_minted [] book who bonded = bonded
bonded_all_minted (line ∷ more) book who bonded =
    bonded_all_minted more (minted_free line.who line.amount book) who (bonded_minted book line.who line.amount who bonded)

bonded_more : (value : ℕ) (row : Row) → is_bonded row ≡ true → is_bonded (activated value row) ≡ true
bonded_more value row bonded = is_above (activated value row) (omega (arith, above_is row bonded))

bonded_unbonded : (value release : ℕ) (row : Row) → is_bonded row ≡ true → is_bonded (unbonded (unbond_amount row value) release row) ≡ true
bonded_unbonded value release row bonded =
    is_above (unbonded (unbond_amount row value) release row)
    (omega (arith, above_is row bonded, sum_with (unbond_amount row value) release row.chunks))

bonded_rebonded : (value : ℕ) (row : Row) → is_bonded row ≡ true → is_bonded (rebonded (rebond_amount row value) row) ≡ true
bonded_rebonded value row bonded =
    is_above (rebonded (rebond_amount row value) row)
    (omega (arith, above_is row bonded, sum_without (rebond_amount row value) row.chunks (omega arith)))

-- ## Books, roles and bags together

-- other books in which each is bonded that was
set_books : (chain : Chain) (book : Ledger) → AreSetIn chain → StayBonded chain.book book → AreSet book chain.roles chain.bags
set_books chain book set stay = record {
  backed = λ who has. stay who (set.backed who has);
  standings = set.standings;
  walked = set.walked;
}

-- and the place of the account follows
set_stake : (chain : Chain) (who : AccountId) (book : Ledger) → IsBalanced book → AreSetIn chain → StayBonded chain.book book
    → AreSetIn (with_stake chain who book)
set_stake chain who book balanced set stay = record {
  backed = λ q has. stay q (set.backed q has);
  standings = set.standings;
  walked = sound_followed chain.bags who set.walked (row_at book who).active (small book balanced who);
}

-- other bags
set_bags : (chain : Chain) (bags : Listing) → AreSetIn chain → AreSoundBags bags → AreSet chain.book chain.roles bags
set_bags chain bags set sound = record { backed = set.backed; standings = set.standings; walked = sound }

-- an account has no role any more
set_without : (chain : Chain) (who : AccountId) (book : Ledger) → IsStrictlySortedBy account_cmp (keys_of chain.roles) → HaveSound chain.roles → AreSoundBags chain.bags
    → ((q : AccountId) → same_account q who ≡ false → has_role chain.roles q ≡ true → is_bonded (row_at book q) ≡ true)
    → AreSet book (without_role chain.roles who) (removed chain.bags who)
set_without chain who book rising standings bags stay = record {
  backed = λ q. by_account q who
      (λ same has. gone q (ap (λ (a : AccountId). standing_of (without_role chain.roles who) a) same ∙ standing_without who chain.roles rising) has)
      (λ apart has. stay q apart (sym (ap is_some (standing_without_other who q chain.roles (differ q apart))) ∙ has));
  standings = λ q standing. by_account q who
      (λ same found. lost q standing (ap (λ (a : AccountId). standing_of (without_role chain.roles who) a) same ∙ standing_without who chain.roles rising) found)
      (λ apart found. standings q standing (sym (standing_without_other who q chain.roles (differ q apart)) ∙ found));
  walked = sound_removed chain.bags who bags;
} where
  differ : (q : AccountId) → same_account q who ≡ false → q ≢ who
  differ q apart same = apart_from q who apart (sym same)

  gone : (q : AccountId) → standing_of (without_role chain.roles who) q ≡ None → has_role (without_role chain.roles who) q ≡ true
      → is_bonded (row_at book q) ≡ true
  gone q none has = absurd (true≢false (sym has ∙ ap is_some none))

  lost : (q : AccountId) (standing : Standing) → standing_of (without_role chain.roles who) q ≡ None
      → standing_of (without_role chain.roles who) q ≡ Some standing → IsSoundStanding q standing
  lost q standing none found = absurd (cc)

-- a role ends where nothing is bonded behind it, and the stake of all others is as it was
set_retired : (chain : Chain) (who : AccountId) → IsStrictlySortedBy account_cmp (keys_of chain.roles) → HaveSound chain.roles → AreSoundBags chain.bags
    → ((q : AccountId) → same_account q who ≡ false → has_role chain.roles q ≡ true → is_bonded (row_at chain.book q) ≡ true)
    → AreSetIn (retired who chain)
set_retired chain who rising standings bags stay = at (is_over chain who) refl where
  itself : (has bonded : Bool) → (has && not bonded) ≡ false → has ≡ true → bonded ≡ true
  itself true true over has = refl
  itself true false over has = absurd (true≢false over)
  itself false bonded over has = absurd (true≢false (sym has))

  at : (b : Bool) → is_over chain who ≡ b
      → AreSet chain.book (if b then without_role chain.roles who else chain.roles) (if b then removed chain.bags who else chain.bags)
  at true over = set_without chain who chain.book rising standings bags stay
  at false over = record {
    backed = λ q. by_account q who
        (λ same. subst (λ (a : AccountId). has_role chain.roles a ≡ true → is_bonded (row_at chain.book a) ≡ true) (sym same)
        (itself (has_role chain.roles who) (is_bonded (row_at chain.book who)) over))
        (λ apart. stay q apart);
    standings = standings;
    walked = bags;
  }

-- an account takes a role
set_placed : (chain : Chain) (who : AccountId) (standing : Standing) (stays : Bool) → IsLive chain → AreSetIn chain
    → is_bonded (row_at chain.book who) ≡ true → IsSoundStanding who standing
    → AreSet chain.book (with_standing chain.roles who standing) (placed stays chain.bags who (active_of chain who))
set_placed chain who standing stays live set bonded sound = record {
  backed = λ q. by_account q who
      (λ same has. subst (λ (a : AccountId). is_bonded (row_at chain.book a) ≡ true) (sym same) bonded)
      (λ apart has. set.backed q (sym (ap is_some (standing_other chain.roles who standing q (differ q apart))) ∙ has));
  standings = λ q other. by_account q who
      (λ same found. here q other same (sym (standing_with chain.roles who standing) ∙ (ap (λ (a : AccountId). standing_of (with_standing chain.roles who standing) a) (sym same) ∙ found)))
      (λ apart found. set.standings q other (sym (standing_other chain.roles who standing q (differ q apart)) ∙ found));
  walked = sound_placed chain.bags who set.walked stays (active_of chain who) (small chain.book live.books.balanced who);
} where
  differ : (q : AccountId) → same_account q who ≡ false → q ≢ who
  differ q apart same = apart_from q who apart (sym same)

  here : (q : AccountId) (other : Standing) → q ≡ who → Some standing ≡ Some other → IsSoundStanding q other
  here q other same is =
      let tie : standing ≡ other = cc in
      subst (λ (a : AccountId). IsSoundStanding a other) (sym same) (subst (λ (s : Standing). IsSoundStanding who s) tie sound)

-- ## The phases of a block

set_slashed : (due : Backer) (chain : Chain) → IsLive chain → AreSetIn chain → AreSetIn (slashed_once due chain)
set_slashed due chain live set =
    set_retired (record chain { book = book }) due.who live.roles.ranked.rising set.standings set.walked
    (λ q apart has. still q (same_account q due.who) apart (row_at-slashed due.who due.amount chain.book q live.books.balanced) (set.backed q has)) where
      book : Ledger
      book = slashed due.who due.amount chain.book

      still : (q : AccountId) (b : Bool) → b ≡ false → row_at book q ≡ (if b then rows.slashed_row due.amount (row_at chain.book q) else row_at chain.book q)
          → is_bonded (row_at chain.book q) ≡ true → is_bonded (row_at book q) ≡ true
      still q true apart is bonded = absurd (true≢false apart)
      still q false apart is bonded = ap is_bonded is ∙ bonded

set_slashes : (dues : List Backer) (chain : Chain) → IsLive chain → AreSetIn chain → AreSetIn (slashes dues chain).state
set_slashes [] chain live set = set
set_slashes (due ∷ more) chain live set = set_slashes more (slashed_once due chain) (slashed_live due chain live) (set_slashed due chain live set)

set_apply : (found : Option DeferredSlash) (chain : Chain) → IsLive chain → AreSetIn chain → AreSetIn (apply_slash found chain).state
set_apply None chain live set = set
set_apply (Some slash) chain live set =
    set_slashes slash.lines (record chain { eras = without_next_due chain.eras }) (with_eras chain (without_next_due chain.eras) live) set

set_applied : (count : ℕ) (chain : Chain) → IsLive chain → AreSetIn chain → AreSetIn (applied count chain).state
set_applied zero chain live set = set
set_applied (suc more) chain live set =
    set_applied more (apply_slash (next_due chain.eras) chain).state (applied_live 1 chain live) (set_apply (next_due chain.eras) chain live set)

live_begun : (begun : Option ℕ) (chain : Chain) → IsLive chain
    → IsLive (record chain { waiting = waiting_after chain.waiting begun; eras = eras_after chain.eras chain.waiting begun })
live_begun begun chain live =
    live_with refl refl refl live live.books live.roles live.bags live.round live.queue (noted begun) where
      noted : (era : Option ℕ) → IsNotedCommittee (waiting_after chain.waiting era)
      noted None = live.waiting
      noted (Some era) = tt

set_applied_in : (begun : Option ℕ) (chain : Chain) → IsLive chain → AreSetIn chain → AreSetIn (applied_in begun chain).state
set_applied_in None chain live set = set
set_applied_in (Some era) chain live set = set_applied (length chain.eras.queue) chain live set

set_era : (chain : Chain) → IsLive chain → AreSetIn chain → AreSetIn (era_phase chain).state
set_era chain live set =
    let begun : Option ℕ = begun_era chain.params chain.due in
    set_applied_in begun (record chain { waiting = waiting_after chain.waiting begun; eras = eras_after chain.eras chain.waiting begun })
    (live_begun begun chain live) set

set_decision_of : (round : Option Round) (chain : Chain) → AreSetIn chain → AreSetIn (decision_of round chain).state
set_decision_of None chain set = set
set_decision_of (Some (rounds.Void number)) chain set = set
set_decision_of (Some (rounds.Open number snapshot commissions)) chain set =
    set_books chain (books_decided (reward_of chain.params) snapshot chain.queue.items chain.book) set
    (bonded_decided (reward_of chain.params) snapshot chain.queue.items chain.book)

set_decision : (chain : Chain) → AreSetIn chain → AreSetIn (decision_phase chain).state
set_decision chain set = at (is_decision chain.params chain.due) where
  at : (b : Bool) → AreSetIn (if b then decision_of chain.round chain else quiet chain).state
  at true = set_decision_of chain.round chain set
  at false = set

set_before : (chain : Chain) → IsLive chain → AreSetIn chain → AreSetIn (before_calls chain)
set_before chain live set = set_decision (round_phase (era_phase chain).state).state (set_era chain live set)

-- ## The calls

-- none of these passes the test
none_of : (test : AccountId → Bool) (targets : List AccountId) → list_any test targets ≡ false → All (λ target. test target ≡ false) targets
none_of test [] none = All-nil (λ (target : AccountId). test target ≡ false)
none_of test (target ∷ more) none = at (test target) refl none (λ rest. none_of test more rest) where
  at : (b : Bool) → test target ≡ b → (b || list_any test more) ≡ false → (list_any test more ≡ false → All (λ t. test t ≡ false) more)
      → All (λ t. test t ≡ false) (target ∷ more)
  at true is some rest = absurd (true≢false some)
  at false is some rest = All-cons (λ (t : AccountId). test t ≡ false) target more is (rest some)

sound_targets : (roles : RoleList) (who : AccountId) (targets : List AccountId) → list_nominate_refusal roles who targets ≡ None → AreSoundTargets who targets
sound_targets roles who targets allowed = record {
  some = grind (arith, common_steps, nat_tests, allowed);
  few = grind (arith, common_steps, nat_tests, allowed);
  distinct = distinct_from targets (grind (arith, common_steps, allowed));
  others = λ k d within. other (is_validator roles _) _ (none_of (λ target. is_no_target roles who target) targets (grind (arith, common_steps, allowed)) k d within);
} where
  other : (valid same : Bool) → (not valid || same) ≡ false → same ≡ false
  other true same e = e
  other false same e = absurd (true≢false e)

role_bonded : (chain : Chain) (who : AccountId) → role_refusal chain who ≡ None → is_bonded (row_at chain.book who) ≡ true
role_bonded chain who allowed = at (is_bonded (row_at chain.book who)) allowed where
  at : (b : Bool)
      → (if not b then Some NotBonded
      else if nat_lt (active_of chain who) (least_bond_of chain.params) then Some BelowMinimum
      else None) ≡ None
      → b ≡ true
  at true e = refl
  at false e = absurd (cc)

set_nominated : (chain : Chain) (who : AccountId) (targets : List AccountId) → IsLive chain → AreSetIn chain
    → (nominate_rule chain who targets).refusal ≡ None → AreSetIn (nominate_rule chain who targets).done
set_nominated chain who targets live set free =
    let first = option_map ByLedger (role_refusal chain who) in
    let second = option_map ByList (list_nominate_refusal chain.roles who targets) in
    set_placed chain who (Nominator targets) (is_nominator_role (role_of chain.roles who)) live set
    (role_bonded chain who (none_inside ByLedger (role_refusal chain who) (first_none first second free)))
    (sound_targets chain.roles who targets (none_inside ByList (list_nominate_refusal chain.roles who targets) (second_none first second free)))

set_validating : (chain : Chain) (who : AccountId) (commission : ℕ) → IsLive chain → AreSetIn chain
    → (validate_rule chain who commission).refusal ≡ None → AreSetIn (validate_rule chain who commission).done
set_validating chain who commission live set free =
    let first = option_map ByLedger (role_refusal chain who) in
    let second = option_map ByList (list_validate_refusal chain.roles who commission) in
    set_placed chain who (Validator commission) (is_validator_role (role_of chain.roles who)) live set
    (role_bonded chain who (none_inside ByLedger (role_refusal chain who) (first_none first second free)))
    (within (none_inside ByList (list_validate_refusal chain.roles who commission) (second_none first second free))) where
      within : list_validate_refusal chain.roles who commission ≡ None → commission ≤ WHOLE_FRACTION
      within allowed = grind (arith, common_steps, nat_tests, allowed)

front_listed : (listing : Listing) (who : AccountId) (score : ℕ) (lighter : AccountId) (lighter_score : ℕ)
    → list_put_in_front_refusal listing who score lighter lighter_score ≡ None → is_listed listing.order who ≡ true
front_listed listing who score lighter lighter_score allowed = at (is_listed listing.order who) refl where
  at : (b : Bool) → is_listed listing.order who ≡ b → b ≡ true
  at true e = refl
  at false e = grind (arith, common_steps, allowed, e)

set_withdrawn : (chain : Chain) (who : AccountId) → IsLive chain → AreSetIn chain
    → AreSetIn (retired who (record chain { book = changed who (withdrawn (era_now chain)) chain.book }))
set_withdrawn chain who live set =
    set_retired (record chain { book = book }) who live.roles.ranked.rising set.standings set.walked
    (λ q apart has. still q (same_account q who) apart (row_at-changed who (withdrawn (era_now chain)) chain.book q) (set.backed q has)) where
      book : Ledger
      book = changed who (withdrawn (era_now chain)) chain.book

      still : (q : AccountId) (b : Bool) → b ≡ false → row_at book q ≡ (if b then withdrawn (era_now chain) (row_at chain.book q) else row_at chain.book q)
          → is_bonded (row_at chain.book q) ≡ true → is_bonded (row_at book q) ≡ true
      still q true apart is bonded = absurd (true≢false apart)
      still q false apart is bonded = ap is_bonded is ∙ bonded

set_report : (now : Bool) (chain : Chain) (era : ℕ) (validator : AccountId) (fraction : ℕ) → IsLive chain → AreSetIn chain
    → AreSetIn (if now then slashing_rule chain era validator fraction else deferring_rule chain era validator fraction).done
set_report true chain era validator fraction live set = set_slashes (slash_in chain.eras era validator fraction) chain live set
set_report false chain era validator fraction live set = set

-- a rule whose call is not refused; what it leaves is live
abbrev KeepsSet : Chain → CallRule → Type 0
KeepsSet chain rule = IsLive chain → AreSetIn chain → rule.refusal ≡ None → IsLive rule.done → AreSetIn rule.done

set_rule : (chain : Chain) (who : AccountId) (kind : CallKind) → KeepsSet chain (rule_of chain who kind)
unfolding rule_of
set_rule chain who (kinds.Transfer to value) = λ live set free still.
    set_books chain (changed to (gained value) (changed who (paid value) chain.book)) set
    (λ q bonded. bonded_changed to (gained value) (changed who (paid value) chain.book) (λ b. b) q
    (bonded_changed who (paid value) chain.book (λ b. b) q bonded))
set_rule chain who (kinds.Bond value) = λ live set free still.
    set_books chain (changed who (activated value) chain.book) set
    (bonded_changed who (activated value) chain.book (bonded_more value (row_at chain.book who)))
set_rule chain who (kinds.BondExtra value) = λ live set free still.
    set_stake chain who (changed who (activated value) chain.book) still.books.balanced set
    (bonded_changed who (activated value) chain.book (bonded_more value (row_at chain.book who)))
set_rule chain who (kinds.Unbond value) = λ live set free still.
    let change : Row → Row = unbonded (unbond_amount (row_at chain.book who) value) (release_now chain) in
    set_stake chain who (changed who change chain.book) still.books.balanced set
    (bonded_changed who change chain.book (bonded_unbonded value (release_now chain) (row_at chain.book who)))
set_rule chain who (kinds.Rebond value) = λ live set free still.
    let change : Row → Row = rebonded (rebond_amount (row_at chain.book who) value) in
    set_stake chain who (changed who change chain.book) still.books.balanced set
    (bonded_changed who change chain.book (bonded_rebonded value (row_at chain.book who)))
set_rule chain who kinds.Withdraw = λ live set free still. set_withdrawn chain who live set
set_rule chain who (kinds.Nominate targets) = λ live set free still. set_nominated chain who targets live set free
set_rule chain who (kinds.Validate commission) = λ live set free still. set_validating chain who commission live set free
set_rule chain who kinds.Chill = λ live set free still.
    set_without chain who chain.book live.roles.ranked.rising set.standings set.walked (λ q apart has. set.backed q has)
set_rule chain who (kinds.Rebag whom) = λ live set free still.
    set_bags chain _ set (sound_moved chain.bags whom set.walked (active_of chain whom) (small chain.book live.books.balanced whom))
set_rule chain who (kinds.PutInFront lighter) = λ live set free still.
    set_bags chain _ set
    (sound_front chain.bags who set.walked lighter
    (front_listed chain.bags who (active_of chain who) lighter (active_of chain lighter)
    (none_inside ByList (list_put_in_front_refusal chain.bags who (active_of chain who) lighter (active_of chain lighter)) free)))
set_rule chain who (kinds.Submit round claim bytes) = λ live set free still.
    let item : Submission = submission_of chain who claim bytes in
    let held : Ledger = changed who (rows.deposited item.deposit) chain.book in
    set_books chain (all_returned (ejected chain.queue item) held) set
    (λ q bonded. bonded_all_returned (ejected chain.queue item) held q
    (bonded_changed who (rows.deposited item.deposit) chain.book (λ b. b) q bonded))
set_rule chain who (kinds.Points items) = λ live set free still. set
set_rule chain who (kinds.Payout era validator) = λ live set free still.
    let lines : List Backer = (payout_now chain era validator).lines in
    set_books chain (all_minted lines chain.book) set (bonded_all_minted lines chain.book)
set_rule chain who (kinds.Offence era validator fraction) = λ live set free still.
    set_report (chain.defer == 0) chain era validator fraction live set
set_rule chain who (kinds.CancelSlash number) = λ live set free still. set

set_after : (due : Option Refusal) (index : ℕ) (rule : CallRule) (chain : Chain) → rule.refusal ≡ due → KeepsSet chain rule → IsLive chain
    → (rule.refusal ≡ None → IsLive rule.done) → AreSetIn chain → AreSetIn (call_after due index rule chain).state
set_after None index rule chain free keeps live still set = keeps live set free (still free)
set_after (Some refusal) index rule chain free keeps live still set = set

set_call : (index : ℕ) (call : Call) (chain : Chain) → IsLive chain → AreSetIn chain → AreSetIn (call_outcome index call chain).state
set_call index call chain live set =
    set_after (rule_for chain call).refusal index (rule_for chain call) chain refl (set_rule chain call.who call.kind) live
    (λ free. (lawful_call call chain).live live free) set

set_calls : (index : ℕ) (calls : List Call) (chain : Chain) → IsLive chain → AreSetIn chain → AreSetIn (calls_outcome index calls chain).state
set_calls index [] chain live set = set
set_calls index (call ∷ calls) chain live set =
    set_calls (index + 1) calls (call_outcome index call chain).state (live_call index call chain live) (set_call index call chain live set)

-- ## Blocks

pub roles_stay : RolesStaySound
roles_stay chain block can =
    let live : IsLive chain = can.ready.between.live in
    let called : Chain = (calls_outcome 0 block.calls (before_calls chain)).state in
    let set : AreSetIn called =
    set_calls 0 block.calls (before_calls chain) (live_before chain live) (set_before chain live (set_from chain can.sound.roles)) in
    let sound : AreSoundRoles called = sound_from called (live_calls 0 block.calls (before_calls chain) (live_before chain live)) set in
    record { bonded = sound.bonded; standings = sound.standings; falling = sound.falling; scores = sound.scores }

-- where a genesis begins nobody has a role
pub roles_start : (genesis : Genesis) → AreSoundRoles (genesis_chain genesis)
roles_start genesis = record {
  bonded = λ k d within. absurd (omega (arith, within));
  standings = λ k d within. absurd (omega (arith, within));
  falling = λ i j d below within. absurd (omega (arith, within));
  scores = λ k d within. absurd (omega (arith, within));
}
