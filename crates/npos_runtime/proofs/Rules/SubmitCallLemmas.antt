-- A submission keeps the chain live, and its rule is lawful.
use Rattle.std.proofs.Common.{◌≡◌, inr, ℕ, ◌≤◌, Bool, true, false, List, ◌∷◌, ◌++◌, Some, None, refl, nat_lt, arith, if◌then◌else◌, ◌<◌}
use Rattle.std.specs.Result.{is_err}
use Rattle.std.proofs.lemmas.Bool.{ltb-false}
use Rattle.npos_base.specs.declared.account.AccountId.{AccountId}
use Rattle.npos_base.specs.declared.figures.Score.{Score}
use Rattle.stake_ledger.specs.Ledger.{row_at}
use Rattle.stake_ledger.specs.Calls.{deposit_held}
use Rattle.stake_ledger.specs.declared.refusal.LedgerRefusal.TheVariants.{LowFunds}
use Rattle.submission_queue.specs.declared.submission.Submission.{Submission}
use Rattle.submission_queue.specs.Ranking.{offered, offer_answer}
use Rattle.block_receipts.specs.declared.refusal.Refusal.TheVariants.{Ledger as ByLedger, NotBetter}
use Rattle.npos_runtime.specs.declared.chain.Chain.{Chain}
use Rattle.npos_runtime.specs.Rules.BookCalls.{release_now}
use Rattle.npos_runtime.specs.Rules.Signed.{form_refusal, offer_refusal, submission_of, ejected, submitted, submit_rule}
use Rattle.npos_runtime.specs.Live.{IsLive}
use Rattle.npos_runtime.proofs.Histories.OfferLemmas.{taken}
use Rattle.npos_runtime.proofs.Rules.BookLemmas.{books_held, books_moved, all_books_returned}
use Rattle.std.proofs.lemmas.List.Elements.{All-nil}
use Rattle.npos_runtime.proofs.Rules.PartLemmas.{second_none, live_with}
use Rattle.npos_runtime.proofs.Rules.CodeLemmas.{coding}
use Rattle.npos_runtime.proofs.Rules.RuleLemmas.{IsLawful, no_events}
use Rattle.npos_runtime.proofs.Histories.SumLemmas.{adds_submitted}

pub offer_free : (chain : Chain) (item : Submission) → offer_refusal chain item ≡ None
    → (item.deposit ≤ (row_at chain.book item.who).free) × (is_err (offer_answer chain.queue item) ≡ false)
offer_free chain item none =
    at (nat_lt (row_at chain.book item.who).free item.deposit) (is_err (offer_answer chain.queue item)) refl refl none where
      at : (a b : Bool) → nat_lt (row_at chain.book item.who).free item.deposit ≡ a → is_err (offer_answer chain.queue item) ≡ b
          → (if a then Some (ByLedger LowFunds) else if b then Some NotBetter else None) ≡ None
          → (item.deposit ≤ (row_at chain.book item.who).free) × (is_err (offer_answer chain.queue item) ≡ false)
      at true b little worse none = cc
      at false true little worse none = cc
      at false false little worse none = (ltb-false (row_at chain.book item.who).free item.deposit little, worse)

-- a submission is taken in
submitted_live : (chain : Chain) (item : Submission) → IsLive chain → offer_refusal chain item ≡ None → IsLive (submitted chain item)
submitted_live chain item live none =
    let free = offer_free chain item none in
    let is = taken chain.queue item live.queue free.1 in
    let held = books_held (release_now chain) chain.book item chain.queue.items free.0 live.books in
    let books =
    all_books_returned (release_now chain) (ejected chain.queue item) (offered chain.queue item).items
    (deposit_held item.who item.deposit chain.book)
    (books_moved (release_now chain) (deposit_held item.who item.deposit chain.book) (item ∷ chain.queue.items)
    (ejected chain.queue item ++ (offered chain.queue item).items) is.moved held) in
    live_with refl refl refl live books live.roles live.bags live.round is.ordered live.waiting

pub submit_lawful : (chain : Chain) (who : AccountId) (round : ℕ) (claim : Score) (bytes : List ℕ)
    → IsLawful chain who (submit_rule chain who round claim bytes)
submit_lawful chain who round claim bytes = record {
  live = λ live free. submitted_live chain (submission_of chain who claim bytes) live
      (second_none (form_refusal chain round bytes) (offer_refusal chain (submission_of chain who claim bytes)) free);
  fixed = record { params = refl; defer = refl; round = refl; waiting = refl; due = refl; era = refl };
  next = omega arith;
  queue = inr (record { round = round; claim = claim; bytes = bytes; is = refl });
  eras = no_events refl;
  line = record { later = λ later. later; next = omega arith };
  dues = record {
    waits = λ era who index numbers below given. omega arith;
    numbered = λ era index. All-nil (λ n. n < chain.eras.next_slash);
    more = omega arith;
  };
  sums = adds_submitted (submission_of chain who claim bytes) (ejected chain.queue (submission_of chain who claim bytes)) chain.book;
  code = search coding depth 9;
}
