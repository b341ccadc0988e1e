use Rattle.std.proofs.Common.{◌∙◌, ◌<◌, ◌≤◌, ap, sym, subst, arith}
use Rattle.std.proofs.lemmas.Grind.{common_steps}
use Rattle.std.proofs.lemmas.Result.{on_ok_weaker}
use Rattle.stake_ledger.specs.Ledger.{Ledger, row_at}
use Rattle.stake_ledger.specs.Calls.{transferred}
use Rattle.stake_pools.proofs.MoveLemmas.{freed_there, paid_out_is}
use Rattle.stake_pools.proofs.moves.pay_out.Goals as goal

pub send-requires-clause-there : goal.send-requires-clause-there
send-requires-clause-there c =
    subst (λ (l : Ledger). c.args.amount ≤ (row_at l c.args.pool).free) (sym c.in_ok-release.ensures) (freed_there c.args.pool c.args.amount c.args.book.now)

pub returns : goal.returns
returns c =
    let some : 0 < c.args.amount = grind (arith, common_steps, c.if-amount-eq0.false) in
    on_ok_weaker c.send.result
    (λ sent. sent ∙ (ap (transferred c.args.pool c.args.who c.args.amount) c.in_ok-release.ensures ∙ paid_out_is c.args.pool c.args.who c.args.amount c.args.book.now some))
    c.send.ensures
