use Rattle.std.proofs.Common.{arith, ap, ◌∙◌}
use Rattle.stake_ledger.specs.Rows.{gained}
use Rattle.stake_ledger.specs.Ledger.{Ledger}
use Rattle.stake_ledger.proofs.KeepLemmas.{kept_endowed}
use Rattle.stake_ledger.proofs.LedgerLemmas.{others_by}
use Rattle.stake_ledger.proofs.book.Book.endow.Goals as goal

pub invariant_of-self-2 : goal.invariant_of-self-2
invariant_of-self-2 c =
    rw c.in_ok-open.ensures.ok
    (kept_endowed c.args.who c.args.value _ _ c.self.invariant (ap (λ (l : Ledger). l.minted) c.self.view_is ∙ c.requires.unminted) (omega arith))

pub returns-clause-others : goal.returns-clause-others
returns-clause-others c = rw (← c.self.view_is) (others_by c.args.who (gained c.args.value) _ _ c.in_ok-open.ensures.ok)
