use Rattle.std.proofs.Common.{rules, ◌≡◌, arith}
use Rattle.stake_ledger.specs.Ledger.{row_in}
use Rattle.stake_ledger.specs.RowCalls.{row_after, burned_by}
use Rattle.stake_ledger.proofs.CallLemmas.{worth_after}
use Rattle.stake_ledger.proofs.KeepLemmas.{worth_within, totals_within, burned_within, covered, kept_called}
use Rattle.stake_ledger.proofs.LedgerLemmas.{others_by, schedule_in}
use Rattle.stake_ledger.proofs.book.Book.call.Goals as goal

pub call-requires-clause-few : goal.call-requires-clause-few
call-requires-clause-few c = (schedule_in c.args.who c.self.inside.rows c.self.invariant.balanced.schedules).few

pub call-requires-clause-fits : goal.call-requires-clause-fits
call-requires-clause-fits c = omega (arith, worth_within c.args.who _ _ c.self.invariant)

pub replace-requires-clause-covered : goal.replace-requires-clause-covered
replace-requires-clause-covered c = rw c.in_ok-done.ensures.done (covered c.args.who _ _ c.self.invariant)

pub replace-requires-clause-fits : goal.replace-requires-clause-fits
replace-requires-clause-fits c =
    rw c.in_ok-done.ensures.done
    (omega (
      arith,
      totals_within _ _ c.self.invariant,
      worth_within c.args.who _ _ c.self.invariant,
      worth_after c.args.call (row_in c.self.inside.rows c.args.who) c.in_ok-done.ensures.accepted,
    ))

pub overflow_add-self : goal.overflow_add-self
overflow_add-self c =
    let burned : c.burned-burned.result ≡ burned_by c.args.call (row_in c.self.inside.rows c.args.who) = search rules in
    rw c.replace.ensures
    (omega (
      arith,
      burned,
      totals_within _ _ c.self.invariant,
      worth_within c.args.who _ _ c.self.invariant,
      worth_after c.args.call (row_in c.self.inside.rows c.args.who) c.in_ok-done.ensures.accepted,
    ))

pub overflow_sub-self : goal.overflow_sub-self
overflow_sub-self c =
    let burned : c.burned-burned.result ≡ burned_by c.args.call (row_in c.self.inside.rows c.args.who) = search rules in
    rw c.replace.ensures
    (omega (arith, burned, burned_within c.args.who c.args.call _ _ c.self.invariant c.in_ok-done.ensures.accepted))

pub invariant_of-self-2 : goal.invariant_of-self-2
invariant_of-self-2 c =
    let burned : c.burned-burned.result ≡ burned_by c.args.call (row_in c.self.inside.rows c.args.who) = search rules in
    rw (c.in_ok-done.ensures.ok, c.replace.ensures, c.in_ok-done.ensures.done)
    (kept_called c.args.who c.args.call _ _ c.burned-burned.result c.self.invariant (rw (← c.self.view_is) at c.requires) c.in_ok-done.ensures.accepted burned)

pub returns-clause-others : goal.returns-clause-others
returns-clause-others c = rw (← c.self.view_is) (others_by c.args.who (row_after c.args.call) _ _ c.in_ok-done.ensures.ok)
