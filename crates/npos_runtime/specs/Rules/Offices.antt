-- Points, payouts, offences and slashes that wait: when each call is refused, what it makes of the chain,
-- and what it tells.
use Rattle.std.specs.Prelude.{ℕ, zero, suc, ◌+◌, Bool, not, List, [], ◌∷◌, map, Option, Some, None, option_map, ◌==◌, if◌then◌else◌}
use Rattle.std.specs.Option.{option_or}
use Rattle.npos_base.specs.declared.account.AccountId.{AccountId}
use Rattle.npos_base.specs.Account.{same_account}
use Rattle.stake_ledger.specs.Ledger.{Ledger, row_at}
use Rattle.stake_ledger.specs.Calls.{mint_refusal, minted_free, slashed, slash_amount}
use Rattle.era_book.specs.declared.exposure.Backer.{Backer}
use Rattle.era_book.specs.declared.payout.Payout.{Payout}
use Rattle.era_book.specs.Calls.{points_refusal, pointed, payout_refusal, payout_in, paid, slash_refusal, slash_in, reported}
use Rattle.era_book.specs.declared.deferred.DeferredSlash.{DeferredSlash}
use Rattle.era_book.specs.Deferred.{queue_refusal, queueing, cancel_refusal, cancelling, next_due, without_next_due}
use Rattle.era_book.specs.Events.{Pointed, Paid, Reported, Queued, Cancelled}
use Rattle.npos_runtime.specs.declared.chain.Chain.{Chain}
use Rattle.block_receipts.specs.declared.line.Line.{Line}
use Rattle.block_receipts.specs.declared.line.Line.TheVariants as lines
use Rattle.block_receipts.specs.declared.refusal.Refusal.TheVariants.{Ledger as ByLedger, Era as ByEra, NotRoot}
use Rattle.chain_params.specs.Rules.{root_of, era_reward_of}
use Rattle.npos_runtime.specs.Rules.Lists.{retired}
use Rattle.npos_runtime.specs.Rules.Outcome.{Outcome, telling, quiet, after}
use Rattle.npos_runtime.specs.Rules.CallRule.{CallRule}

abbrev pub is_root : Chain → AccountId → Bool
is_root chain who = same_account who (root_of chain.params)

-- ## Points, which the root gives

abbrev pub points_rule : Chain → AccountId → List (AccountId × ℕ) → CallRule
points_rule chain who items = record {
  refusal = if not (is_root chain who) then Some NotRoot
      else option_map ByEra (points_refusal chain.eras items);
  done = record chain { eras = pointed items chain.eras };
  told = [];
  events = Pointed items ∷ [];
  offer = None;
}

-- ## Payouts, which anyone may ask for

-- what an era pays to a validator and those who backed it
abbrev pub payout_now : Chain → ℕ → AccountId → Payout
payout_now chain era validator = payout_in chain.eras era validator (era_reward_of chain.params)

-- each line is minted to its account, in order
abbrev pub all_minted : List Backer → Ledger → Ledger
all_minted [] book = book
all_minted (line ∷ more) book = all_minted more (minted_free line.who line.amount book)

abbrev pub paid_line : Backer → Line
paid_line line = lines.Paid line.who line.amount

-- The whole of it has to fit into what may still be minted.
abbrev pub payout_rule : Chain → ℕ → AccountId → CallRule
payout_rule chain era validator =
    let payout : Payout = payout_now chain era validator in
    record {
      refusal = option_or (option_map ByEra (payout_refusal chain.eras era validator))
          (option_map ByLedger (mint_refusal chain.book payout.total));
      done = record chain {
        book = all_minted payout.lines chain.book;
        eras = paid era validator chain.eras;
      };
      told = map paid_line payout.lines;
      events = Paid era validator ∷ [];
      offer = None;
    }

-- ## Offences, which the root reports

-- what is due from one account is slashed, and its role ends where nothing is bonded then
abbrev pub slashed_once : Backer → Chain → Chain
slashed_once due chain = retired due.who (record chain { book = slashed due.who due.amount chain.book })

-- what is taken is told, unless it is nothing
abbrev pub slash_told : AccountId → ℕ → List Line
slash_told who taken = if taken == 0 then [] else lines.Slashed who taken ∷ []

abbrev pub slash_outcome : Backer → Chain → Outcome
slash_outcome due chain =
    telling (slash_told due.who (slash_amount (row_at chain.book due.who) due.amount))
    (slashed_once due chain)

-- one account after the other
abbrev pub slashes : List Backer → Chain → Outcome
slashes [] chain = quiet chain
slashes (due ∷ more) chain = after (slash_outcome due chain) (slashes more)

-- what a report of this fraction does to those who backed the validator in the era
abbrev pub slashes_now : Chain → ℕ → AccountId → ℕ → Outcome
slashes_now chain era validator fraction = slashes (slash_in chain.eras era validator fraction) chain

-- Slashes do not wait: books, roles and bags change by them, and the fraction is kept.
abbrev pub slashing_rule : Chain → ℕ → AccountId → ℕ → CallRule
slashing_rule chain era validator fraction =
    let left : Outcome = slashes_now chain era validator fraction in
    record {
      refusal = option_map ByEra (slash_refusal chain.eras era validator fraction);
      done = record chain {
        book = left.state.book;
        roles = left.state.roles;
        bags = left.state.bags;
        eras = reported era validator fraction chain.eras;
      };
      told = left.lines;
      events = Reported era validator fraction ∷ [];
      offer = None;
    }

-- ## Slashes that wait

-- the era in which a slash is due that is reported now
abbrev pub due_now : Chain → ℕ
due_now chain = chain.eras.current + chain.defer

-- Slashes wait: what is due is queued under the next number, and the fraction is kept. That too many
-- wait is tried last.
abbrev pub deferring_rule : Chain → ℕ → AccountId → ℕ → CallRule
deferring_rule chain era validator fraction =
    let dues : List Backer = slash_in chain.eras era validator fraction in
    record {
      refusal = option_map ByEra
          (option_or (slash_refusal chain.eras era validator fraction) (queue_refusal chain.eras));
      done = record chain {
        eras = reported era validator fraction (queueing (due_now chain) dues chain.eras);
      };
      told = lines.Deferred chain.eras.next_slash (due_now chain) ∷ [];
      events = Queued (due_now chain) dues ∷ Reported era validator fraction ∷ [];
      offer = None;
    }

-- for the root alone
abbrev pub by_root : Chain → AccountId → CallRule → CallRule
by_root chain who rule =
    record rule { refusal = if not (is_root chain who) then Some NotRoot else rule.refusal }

-- a report slashes at once where slashes do not wait
abbrev pub report_rule : Chain → ℕ → AccountId → ℕ → CallRule
report_rule chain era validator fraction =
    if chain.defer == 0 then slashing_rule chain era validator fraction
    else deferring_rule chain era validator fraction

abbrev pub offence_rule : Chain → AccountId → ℕ → AccountId → ℕ → CallRule
offence_rule chain who era validator fraction =
    by_root chain who (report_rule chain era validator fraction)

-- the slash waits no more; the fraction that was reported is kept
abbrev pub cancel_rule : Chain → AccountId → ℕ → CallRule
cancel_rule chain who number = by_root chain who record {
  refusal = option_map ByEra (cancel_refusal number chain.eras);
  done = record chain { eras = cancelling number chain.eras };
  told = [];
  events = Cancelled number ∷ [];
  offer = None;
}

-- The slash that is due next, if one is, leaves the queue and is told, and what is due by it is
-- slashed, from what the accounts have then.
abbrev pub apply_slash : Option DeferredSlash → Chain → Outcome
apply_slash None chain = quiet chain
apply_slash (Some slash) chain =
    after (telling (lines.Applied slash.number ∷ [])
    (record chain { eras = without_next_due chain.eras }))
    (slashes slash.lines)

-- one after the other, and at most so many
abbrev pub applied : ℕ → Chain → Outcome
applied zero chain = quiet chain
applied (suc more) chain = after (apply_slash (next_due chain.eras) chain) (applied more)
