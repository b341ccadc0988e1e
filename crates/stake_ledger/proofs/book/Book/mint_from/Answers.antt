use Rattle.std.proofs.Common.{arith, ap}
use Rattle.stake_ledger.specs.Rows.{gained}
use Rattle.stake_ledger.specs.Calls.{room_of}
use Rattle.stake_ledger.proofs.KeepLemmas.{totals_within, worth_within, kept_minted}
use Rattle.stake_ledger.proofs.LedgerLemmas.{others_by}
use Rattle.stake_ledger.proofs.book.Book.mint_from.Goals as goal

pub gain-requires : goal.gain-requires
gain-requires c = omega (arith, c.in_ok-check_room.ensures.within, ap room_of c.self.view_is, worth_within c.args.who _ _ c.self.invariant)

pub overflow_add-self : goal.overflow_add-self
overflow_add-self c = omega (arith, c.in_ok-check_room.ensures.within, ap room_of c.self.view_is, totals_within _ _ c.self.invariant)

pub invariant_of-self-2 : goal.invariant_of-self-2
invariant_of-self-2 c = rw c.in_ok-gain.ensures.ok (kept_minted c.args.who c.args.value _ _ c.self.invariant (omega (arith, c.in_ok-check_room.ensures.within, ap room_of c.self.view_is)))

pub returns-clause-others : goal.returns-clause-others
returns-clause-others c = rw (← c.self.view_is) (others_by c.args.who (gained c.args.value) _ _ c.in_ok-gain.ensures.ok)
