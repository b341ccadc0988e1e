-- A signed submission: when it is taken, and what it makes of books and queue.
use Rattle.std.specs.Prelude.{ℕ, ◌+◌, Bool, true, false, List, [], length, Option, Some, None, option_to_list, Result, Ok, Err, nat_lt, ◌==◌, ◌&&◌, not, if◌then◌else◌}
use Rattle.std.specs.Option.{option_or}
use Rattle.std.specs.Result.{is_err}
use Rattle.npos_base.specs.declared.account.AccountId.{AccountId}
use Rattle.npos_base.specs.declared.figures.Score.{Score}
use Rattle.stake_ledger.specs.declared.refusal.LedgerRefusal.TheVariants.{LowFunds}
use Rattle.stake_ledger.specs.Ledger.{row_at}
use Rattle.stake_ledger.specs.Calls.{deposit_held}
use Rattle.submission_queue.specs.declared.submission.Submission.{Submission}
use Rattle.submission_queue.specs.declared.submission.NotBetter.{NotBetter as Worse}
use Rattle.submission_queue.specs.Ranking.{Ranking, offered, offer_answer}
use Rattle.npos_runtime.specs.declared.chain.Chain.{Chain}
use Rattle.block_receipts.specs.declared.refusal.Refusal.{Refusal}
use Rattle.block_receipts.specs.declared.refusal.Refusal.TheVariants.{Ledger as ByLedger, NotBetter, WrongPhase, WrongRound, SolutionTooLong}
use Rattle.npos_runtime.specs.declared.round.Round.{Round}
use Rattle.npos_runtime.specs.declared.round.Round.TheVariants as rounds
use Rattle.chain_params.specs.Rules.{deposit_of, era_of, is_signed, solution_max_of}
use Rattle.round_decision.specs.Deposits.{all_returned, return_lines}
use Rattle.npos_runtime.specs.Rules.CallRule.{CallRule}

-- a round stands that is not void
abbrev pub is_open : Option Round → Bool
is_open (Some (rounds.Open number snapshot commissions)) = true
is_open other = false

-- submissions are taken in the signed blocks of a round that is not void
abbrev pub takes_submissions : Chain → Bool
takes_submissions chain = is_signed chain.params chain.due && is_open chain.round

-- the round of an era is one more than the era
abbrev pub current_round : Chain → ℕ
current_round chain = era_of chain.params chain.due + 1

abbrev pub submission_of : Chain → AccountId → Score → List ℕ → Submission
submission_of chain who claim bytes = record {
  number = chain.next;
  who = who;
  deposit = deposit_of chain.params;
  score = claim;
  bytes = bytes;
}

-- why the round takes no such submission, if it takes none
abbrev pub form_refusal : Chain → ℕ → List ℕ → Option Refusal
form_refusal chain round bytes =
    if not (takes_submissions chain) then Some WrongPhase
    else if not (round == current_round chain) then Some WrongRound
    else if nat_lt (solution_max_of chain.params) (length bytes) then Some SolutionTooLong
    else None

-- the account has too little free, or the queue is full of claims that are no worse
abbrev pub offer_refusal : Chain → Submission → Option Refusal
offer_refusal chain item =
    if nat_lt (row_at chain.book item.who).free item.deposit then Some (ByLedger LowFunds)
    else if is_err (offer_answer chain.queue item) then Some NotBetter
    else None

abbrev pub submit_refusal : Chain → AccountId → ℕ → Score → List ℕ → Option Refusal
submit_refusal chain who round claim bytes =
    option_or (form_refusal chain round bytes)
    (offer_refusal chain (submission_of chain who claim bytes))

-- the submission that an offer puts out of the queue, if it puts one out
abbrev pub put_out : Result (Option Submission) (Worse × Submission) → List Submission
put_out (Ok out) = option_to_list out
put_out (Err back) = []

abbrev pub ejected : Ranking → Submission → List Submission
ejected queue item = put_out (offer_answer queue item)

-- The deposit is held, the submission waits under the next number, and the deposit of the one that
-- it ejects is free again.
abbrev pub submitted : Chain → Submission → Chain
submitted chain item = record chain {
  book = all_returned (ejected chain.queue item) (deposit_held item.who item.deposit chain.book);
  queue = offered chain.queue item;
  next = chain.next + 1;
}

-- What the ejected one gets back is told.
abbrev pub submit_rule : Chain → AccountId → ℕ → Score → List ℕ → CallRule
submit_rule chain who round claim bytes =
    let item : Submission = submission_of chain who claim bytes in
    record {
      refusal = submit_refusal chain who round claim bytes;
      done = submitted chain item;
      told = return_lines (ejected chain.queue item);
      events = [];
      offer = Some (round, item);
    }
