use Rattle.std.proofs.Common.{◌≤◌, arith, ◌∙◌, refl}
use Rattle.stake_ledger.specs.Rows.{gained, paid}
use Rattle.stake_ledger.specs.Ledger.{row_in, with_row}
use Rattle.stake_ledger.proofs.KeepLemmas.{kept_transferred, worth_within}
use Rattle.stake_ledger.proofs.LedgerLemmas.{others_by}
use Rattle.stake_ledger.proofs.book.Book.transfer_from.Goals as goal

pub transfer-requires-clause-fits : goal.transfer-requires-clause-fits
transfer-requires-clause-fits c = omega (arith, worth_within c.args.from _ _ c.self.invariant, worth_within c.args.to _ _ c.self.invariant)

pub invariant_of-self-2 : goal.invariant_of-self-2
invariant_of-self-2 c =
    let enough : c.args.value ≤ (row_in c.self.inside.rows c.args.from).free = c.in_ok-transfer.ensures.accepted in
    rw (c.in_ok-transfer.ensures.ok) (kept_transferred c.args.from c.args.to c.args.value _ _ c.self.invariant enough)

pub returns-clause-others : goal.returns-clause-others
returns-clause-others c = λ other not_from not_to.
    rw (← c.self.view_is)
    (others_by c.args.to (gained c.args.value) _ _ c.in_ok-transfer.ensures.ok other not_to
    ∙ others_by c.args.from (paid c.args.value) c.self.inside.rows (with_row c.args.from (paid c.args.value) c.self.inside.rows) refl other not_from)
