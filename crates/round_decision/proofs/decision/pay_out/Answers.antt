use Rattle.std.proofs.Common.{◌≡◌, true, ◌∷◌, sym, subst, refl, is_some}
use Rattle.stake_ledger.specs.Ledger.{Ledger, row_of}
use Rattle.round_decision.specs.Deposits.{AreHeld}
use Rattle.round_decision.specs.Decision.{reward_in}
use Rattle.round_decision.proofs.DepositLemmas.{known_returned, held_returned, held_minted}
use Rattle.round_decision.proofs.decision.pay_out.Goals as goal

pub reward-requires-clause-known : goal.reward-requires-clause-known
reward-requires-clause-known c =
    subst (λ (b : Ledger). is_some (row_of b c.args.winner.now.who) ≡ true) (sym c.give_back.ensures.book)
    (known_returned c.args.book.now c.args.winner.now c.args.queue.now.items (record { held = c.requires.held; known = c.requires.known }))

pub return_all-requires-clause-held : goal.return_all-requires-clause-held
return_all-requires-clause-held c =
    let back = c.give_back.new.book in
    subst (λ (b : Ledger). AreHeld b c.args.queue.now.items) (sym c.reward.ensures.book)
    (held_minted c.args.winner.now.who (reward_in c.args.amount back) back c.args.queue.now.items
    (subst (λ (b : Ledger). AreHeld b c.args.queue.now.items) (sym c.give_back.ensures.book)
    (held_returned c.args.book.now (c.args.winner.now ∷ c.args.queue.now.items) c.args.winner.now c.args.queue.now.items
    (record { held = c.requires.held; known = c.requires.known }) refl)))
