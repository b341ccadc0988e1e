use Rattle.std.proofs.Common.{arith, ap, sym, ◌∙◌}
use Rattle.stake_ledger.specs.declared.parts.Cut.{Cut}
use Rattle.stake_ledger.specs.Rows.{is_bonded, slashed_row}
use Rattle.stake_ledger.specs.Ledger.{row_in}
use Rattle.stake_ledger.proofs.KeepLemmas.{worth_within, totals_within, covered, slash_within, kept_slashed}
use Rattle.stake_ledger.proofs.LedgerLemmas.{others_by, row_in_put}
use Rattle.stake_ledger.proofs.book.Book.slash_from.Goals as goal

pub slash-requires : goal.slash-requires
slash-requires c = omega (arith, worth_within c.args.who _ _ c.self.invariant)

pub overflow_sub-self : goal.overflow_sub-self
overflow_sub-self c = rw c.in-Some.ensures.cut (omega (arith, (covered c.args.who _ _ c.self.invariant).active))

pub overflow_sub-self-2 : goal.overflow_sub-self-2
overflow_sub-self-2 c = rw c.in-Some.ensures.cut (omega (arith, (covered c.args.who _ _ c.self.invariant).unlocking))

pub overflow_add-self : goal.overflow_add-self
overflow_add-self c =
    rw c.in-Some.ensures.cut (omega (arith, totals_within _ _ c.self.invariant, worth_within c.args.who _ _ c.self.invariant))

pub overflow_sub-self-3 : goal.overflow_sub-self-3
overflow_sub-self-3 c =
    rw c.in-Some.ensures.cut (omega (arith, slash_within c.args.who c.args.amount _ _ c.self.invariant))

pub invariant_of-self-2 : goal.invariant_of-self-2
invariant_of-self-2 c =
    rw (c.in-Some.ensures.some, c.in-Some.ensures.cut)
    (kept_slashed c.args.who c.args.amount _ _ _ c.self.invariant (omega arith))

pub returns-clause-bonded : goal.returns-clause-bonded
returns-clause-bonded c =
    ap (λ (cut : Cut). cut.bonded) c.in-Some.ensures.cut
    ∙ sym (ap (λ rows. is_bonded (row_in rows c.args.who)) c.in-Some.ensures.some
    ∙ ap is_bonded (row_in_put c.args.who (slashed_row c.args.amount) c.self.inside.rows))

pub returns-clause-others : goal.returns-clause-others
returns-clause-others c = rw (← c.self.view_is) (others_by c.args.who (slashed_row c.args.amount) _ _ c.in-Some.ensures.some)
