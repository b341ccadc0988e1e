use Rattle.std.proofs.Common.{arith}
use Rattle.stake_ledger.specs.Rows.{gained}
use Rattle.stake_ledger.proofs.KeepLemmas.{worth_within, kept_opened}
use Rattle.stake_ledger.proofs.LedgerLemmas.{others_by}
use Rattle.stake_ledger.proofs.book.Book.hold_deposit.Goals as goal

pub gain-requires : goal.gain-requires
gain-requires c = omega (arith, worth_within c.args.who _ _ c.self.invariant)

pub invariant_of-self-then-value-eq0 : goal.invariant_of-self-then-value-eq0
invariant_of-self-then-value-eq0 c = rw c.in_ok-gain.ensures.ok (kept_opened c.args.who _ _ c.self.invariant)

pub returns-then-value-eq0-clause-others : goal.returns-then-value-eq0-clause-others
returns-then-value-eq0-clause-others c = rw (← c.self.view_is) (others_by c.args.who (gained 0) _ _ c.in_ok-gain.ensures.ok)
