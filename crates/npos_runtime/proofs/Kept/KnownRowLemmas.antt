-- Rows of the books never go: who has a row keeps one, over each phase of a block and each kind of call.
use Rattle.std.proofs.Common.{◌≡◌, ℕ, zero, suc, ◌+◌, Bool, true, false, ◌||◌, ◌==◌, is_some, if◌then◌else◌, List, [], ◌∷◌, length, Option, Some, None, refl, ◌∙◌}
use Rattle.std.proofs.lemmas.List.Elements.{All-weaker}
use Rattle.npos_base.specs.declared.account.AccountId.{AccountId}
use Rattle.npos_base.specs.Account.{same_account}
use Rattle.block_wire.specs.declared.block.Block.{Block}
use Rattle.block_wire.specs.declared.call.Call.{Call}
use Rattle.block_wire.specs.declared.call.CallKind.{CallKind}
use Rattle.block_wire.specs.declared.call.CallKind.TheVariants as kinds
use Rattle.stake_ledger.specs.declared.row.Row.{Row}
use Rattle.stake_ledger.specs.Rows as rows
use Rattle.stake_ledger.specs.Ledger.{Ledger, row_at, row_of, changed}
use Rattle.stake_ledger.specs.Calls.{minted_free, unbond_amount, rebond_amount}
use Rattle.stake_ledger.proofs.AccountLemmas.{known-changed, known-slashed}
use Rattle.submission_queue.specs.declared.submission.Submission.{Submission}
use Rattle.election_snapshot.specs.Snapshot.{Snapshot}
use Rattle.era_book.specs.declared.exposure.Backer.{Backer}
use Rattle.era_book.specs.declared.deferred.DeferredSlash.{DeferredSlash}
use Rattle.era_book.specs.Calls.{slash_in}
use Rattle.era_book.specs.Deferred.{next_due, without_next_due}
use Rattle.block_receipts.specs.declared.refusal.Refusal.{Refusal}
use Rattle.chain_params.specs.Rules.{begun_era, reward_of, is_decision}
use Rattle.round_decision.specs.Decision.{losers, others, reward_in, rewarded, paid_out, books_decided}
use Rattle.round_decision.specs.Deposits.{returned, burned, all_returned, all_burned}
use Rattle.npos_runtime.specs.declared.chain.Chain.{Chain}
use Rattle.npos_runtime.specs.declared.round.Round.{Round}
use Rattle.npos_runtime.specs.declared.round.Round.TheVariants as rounds
use Rattle.npos_runtime.specs.Rules.Outcome.{quiet}
use Rattle.npos_runtime.specs.Rules.BookCalls.{era_now, release_now}
use Rattle.npos_runtime.specs.Rules.CallRule.{CallRule}
use Rattle.npos_runtime.specs.Rules.Calls.{rule_of, rule_for}
use Rattle.npos_runtime.specs.Rules.Signed.{ejected, submission_of}
use Rattle.npos_runtime.specs.Rules.Offices.{all_minted, payout_now, slashed_once, slashes, slashing_rule, deferring_rule, apply_slash, applied}
use Rattle.npos_runtime.specs.Rules.Rounds.{round_phase}
use Rattle.npos_runtime.specs.Rules.Deciding.{decision_of, decision_phase}
use Rattle.npos_runtime.specs.Step.{waiting_after, eras_after, applied_in, era_phase, before_calls, call_after, call_outcome, calls_outcome, step}
use Rattle.npos_runtime.specs.Kept.Sound.{AreKnown}

-- who has a row in the old books has one in the new
abbrev pub StayKnown : Ledger → Ledger → Type 0
StayKnown old new = (who : AccountId) → is_some (row_of old who) ≡ true → is_some (row_of new who) ≡ true

pub all_known : (old new : Ledger) (accounts : List AccountId) → StayKnown old new → AreKnown old accounts → AreKnown new accounts
all_known old new accounts stay known =
    All-weaker (λ (who : AccountId). is_some (row_of old who) ≡ true) (λ who. is_some (row_of new who) ≡ true) stay accounts known

-- ## The books

or_true : (a b : Bool) → b ≡ true → (a || b) ≡ true
or_true true b e = refl
or_true false b e = e

pub known_changed : (owner : AccountId) (change : Row → Row) (book : Ledger) → StayKnown book (changed owner change book)
known_changed owner change book who known =
    known-changed owner change book who ∙ or_true (same_account who owner) (is_some (row_of book who)) known

pub known_returned : (book : Ledger) (item : Submission) → StayKnown book (returned book item)
known_returned book item who known = at (item.deposit == 0) where
  at : (b : Bool) → is_some (row_of (if b then book else changed item.who (rows.returned item.deposit) book) who) ≡ true
  at true = known
  at false = known_changed item.who (rows.returned item.deposit) book who known

pub known_burned : (book : Ledger) (item : Submission) → StayKnown book (burned book item)
known_burned book item who known = at (item.deposit == 0) where
  at : (b : Bool)
      → is_some (row_of (if b then book
      else record (changed item.who (rows.forfeited item.deposit) book) { burned = book.burned + item.deposit }) who) ≡ true
  at true = known
  at false = known_changed item.who (rows.forfeited item.deposit) book who known

pub known_all_returned : (items : List Submission) (book : Ledger) → StayKnown book (all_returned items book)
known_all_returned [] book who known = known
known_all_returned (item ∷ more) book who known =
    known_all_returned more (returned book item) who (known_returned book item who known)

pub known_all_burned : (items : List Submission) (book : Ledger) → StayKnown book (all_burned items book)
known_all_burned [] book who known = known
known_all_burned (item ∷ more) book who known =
    known_all_burned more (burned book item) who (known_burned book item who known)

known_paid : (reward : ℕ) (items : List Submission) (book : Ledger) → StayKnown book (paid_out reward items book)
known_paid reward [] book who known = known
known_paid reward (winner ∷ rest) book who known =
    let back : Ledger = returned book winner in
    known_all_returned rest (rewarded reward back winner) who
    (known_changed winner.who (rows.gained (reward_in reward back)) back who (known_returned book winner who known))

pub known_decided : (reward : ℕ) (snapshot : Snapshot) (items : List Submission) (book : Ledger)
    → StayKnown book (books_decided reward snapshot items book)
known_decided reward snapshot items book who known =
    known_paid reward (others snapshot items) (all_burned (losers snapshot items) book) who
    (known_all_burned (losers snapshot items) book who known)

pub known_all_minted : (lines : List Backer) (book : Ledger) → StayKnown book (all_minted lines book)
known_all_minted [] book who known = known
known_all_minted (line ∷ more) book who known =
    known_all_minted more (minted_free line.who line.amount book) who
    (known_changed line.who (rows.gained line.amount) book who known)

pub known_slashes : (dues : List Backer) (chain : Chain) → StayKnown chain.book (slashes dues chain).state.book
known_slashes [] chain who known = known
known_slashes (due ∷ more) chain who known =
    known_slashes more (slashed_once due chain) who (known-slashed due.who due.amount chain.book who ∙ known)

-- ## The phases of a block

known_apply : (found : Option DeferredSlash) (chain : Chain) → StayKnown chain.book (apply_slash found chain).state.book
known_apply None chain who known = known
known_apply (Some slash) chain who known =
    known_slashes slash.lines (record chain { eras = without_next_due chain.eras }) who known

pub known_applied : (count : ℕ) (chain : Chain) → StayKnown chain.book (applied count chain).state.book
known_applied zero chain who known = known
known_applied (suc more) chain who known =
    known_applied more (apply_slash (next_due chain.eras) chain).state who (known_apply (next_due chain.eras) chain who known)

known_applied_in : (begun : Option ℕ) (chain : Chain) → StayKnown chain.book (applied_in begun chain).state.book
known_applied_in None chain who known = known
known_applied_in (Some era) chain who known = known_applied (length chain.eras.queue) chain who known

pub known_era : (chain : Chain) → StayKnown chain.book (era_phase chain).state.book
known_era chain =
    known_applied_in (begun_era chain.params chain.due) (record chain {
      waiting = waiting_after chain.waiting (begun_era chain.params chain.due);
      eras = eras_after chain.eras chain.waiting (begun_era chain.params chain.due);
    })

pub known_round : (chain : Chain) → StayKnown chain.book (round_phase chain).state.book
known_round chain who known = known

known_decision_of : (round : Option Round) (chain : Chain) → StayKnown chain.book (decision_of round chain).state.book
known_decision_of None chain who known = known
known_decision_of (Some (rounds.Void number)) chain who known = known
known_decision_of (Some (rounds.Open number snapshot commissions)) chain who known =
    known_decided (reward_of chain.params) snapshot chain.queue.items chain.book who known

pub known_decision : (chain : Chain) → StayKnown chain.book (decision_phase chain).state.book
known_decision chain who known = at (is_decision chain.params chain.due) where
  at : (b : Bool)
      → is_some (row_of (if b then decision_of chain.round chain else quiet chain).state.book who) ≡ true
  at true = known_decision_of chain.round chain who known
  at false = known

-- over all phases before the calls
pub known_before : (chain : Chain) → StayKnown chain.book (before_calls chain).book
known_before chain who known =
    let begun : Chain = (era_phase chain).state in
    let polled : Chain = (round_phase begun).state in
    known_decision polled who (known_round begun who (known_era chain who known))

-- ## The calls

known_report : (now : Bool) (chain : Chain) (era : ℕ) (validator : AccountId) (fraction : ℕ)
    → StayKnown chain.book (if now then slashing_rule chain era validator fraction
    else deferring_rule chain era validator fraction).done.book
known_report true chain era validator fraction = known_slashes (slash_in chain.eras era validator fraction) chain
known_report false chain era validator fraction = λ who known. known

pub known_rule : (chain : Chain) (caller : AccountId) (kind : CallKind)
    → StayKnown chain.book (rule_of chain caller kind).done.book
unfolding rule_of
known_rule chain caller (kinds.Transfer to value) = λ who known.
    known_changed to (rows.gained value) (changed caller (rows.paid value) chain.book) who
    (known_changed caller (rows.paid value) chain.book who known)
known_rule chain caller (kinds.Bond value) = known_changed caller (rows.activated value) chain.book
known_rule chain caller (kinds.BondExtra value) = known_changed caller (rows.activated value) chain.book
known_rule chain caller (kinds.Unbond value) =
    known_changed caller (rows.unbonded (unbond_amount (row_at chain.book caller) value) (release_now chain)) chain.book
known_rule chain caller (kinds.Rebond value) =
    known_changed caller (rows.rebonded (rebond_amount (row_at chain.book caller) value)) chain.book
known_rule chain caller kinds.Withdraw = known_changed caller (rows.withdrawn (era_now chain)) chain.book
known_rule chain caller (kinds.Nominate targets) = λ who known. known
known_rule chain caller (kinds.Validate commission) = λ who known. known
known_rule chain caller kinds.Chill = λ who known. known
known_rule chain caller (kinds.Rebag whom) = λ who known. known
known_rule chain caller (kinds.PutInFront lighter) = λ who known. known
known_rule chain caller (kinds.Submit round claim bytes) = λ who known.
    let item : Submission = submission_of chain caller claim bytes in
    known_all_returned (ejected chain.queue item) (changed caller (rows.deposited item.deposit) chain.book) who
    (known_changed caller (rows.deposited item.deposit) chain.book who known)
known_rule chain caller (kinds.Points items) = λ who known. known
known_rule chain caller (kinds.Payout era validator) = known_all_minted (payout_now chain era validator).lines chain.book
known_rule chain caller (kinds.Offence era validator fraction) =
    known_report (chain.defer == 0) chain era validator fraction
known_rule chain caller (kinds.CancelSlash number) = λ who known. known

known_after : (due : Option Refusal) (index : ℕ) (rule : CallRule) (chain : Chain) → StayKnown chain.book rule.done.book
    → StayKnown chain.book (call_after due index rule chain).state.book
known_after None index rule chain stay = stay
known_after (Some refusal) index rule chain stay = λ who known. known

pub known_call : (index : ℕ) (call : Call) (chain : Chain) → StayKnown chain.book (call_outcome index call chain).state.book
known_call index call chain =
    known_after (rule_for chain call).refusal index (rule_for chain call) chain (known_rule chain call.who call.kind)

pub known_calls : (index : ℕ) (calls : List Call) (chain : Chain) → StayKnown chain.book (calls_outcome index calls chain).state.book
known_calls index [] chain who known = known
known_calls index (call ∷ calls) chain who known =
    known_calls (index + 1) calls (call_outcome index call chain).state who (known_call index call chain who known)

-- ## Blocks

-- from the end of the phases to the end of the block
pub known_behind : (chain : Chain) (block : Block) → StayKnown (before_calls chain).book (step chain block).state.book
known_behind chain block = known_calls 0 block.calls (before_calls chain)

pub known_step : (chain : Chain) (block : Block) → StayKnown chain.book (step chain block).state.book
known_step chain block who known = known_behind chain block who (known_before chain who known)
