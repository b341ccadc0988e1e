-- A submission that ejects another.
use Rattle.std.proofs.Common.{◌≡◌, ◌≤◌, [], ◌∷◌, ◌++◌, Some, Ok, refl, ap, sym, subst}
use Rattle.std.specs.Result.{is_err}
use Rattle.stake_ledger.specs.Ledger.{Ledger, row_at}
use Rattle.stake_ledger.specs.Calls.{deposit_held}
use Rattle.submission_queue.specs.declared.submission.Submission.{Submission}
use Rattle.submission_queue.specs.Ranking.{offered, offer_answer}
use Rattle.npos_runtime.specs.declared.chain.Chain.{Chain}
use Rattle.round_decision.specs.Deposits.{AreHeld}
use Rattle.npos_runtime.specs.Rules.Signed.{ejected, put_out}
use Rattle.npos_runtime.specs.Live.{IsLive}
use Rattle.round_decision.proofs.DepositLemmas.{held_more, held_within}
use Rattle.npos_runtime.proofs.Histories.OfferLemmas.{taken}
use Rattle.npos_runtime.proofs.Rules.BookLemmas.{held_moved}

-- the deposit of the one that is put out is held
pub ejected_held : (chain : Chain) (item out : Submission) (book : Ledger) → IsLive chain → offer_answer chain.queue item ≡ Ok (Some out)
    → book ≡ deposit_held item.who item.deposit chain.book → out.deposit ≤ (row_at book out.who).held
ejected_held chain item out book live answer is =
    let moved = (taken chain.queue item live.queue (ap is_err answer)).moved in
    let one : ejected chain.queue item ≡ out ∷ [] = ap put_out answer in
    let held : AreHeld (deposit_held item.who item.deposit chain.book) (ejected chain.queue item ++ (offered chain.queue item).items) =
    held_moved (deposit_held item.who item.deposit chain.book) (item ∷ chain.queue.items) (ejected chain.queue item ++ (offered chain.queue item).items) moved
    (held_more chain.book item chain.queue.items live.books.deposits) in
    held_within book (out ∷ (offered chain.queue item).items) out (offered chain.queue item).items
    (subst (λ (b : Ledger). AreHeld b (out ∷ (offered chain.queue item).items)) (sym is)
    (subst (λ xs. AreHeld (deposit_held item.who item.deposit chain.book) (xs ++ (offered chain.queue item).items)) one held)) refl
