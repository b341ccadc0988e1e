use Rattle.std.proofs.Common.{refl, sym, ◌∙◌, arith, ap, is_some, true≢false}
use Rattle.stake_ledger.specs.declared.row.Row.{Row}
use Rattle.stake_ledger.specs.Rows.{gained}
use Rattle.stake_ledger.proofs.PlaceLemmas.{row_found, row_becomes, row_missing}
use Rattle.stake_ledger.proofs.rows.Rows.give.Goals as goal

pub overflow_add-index_mut : goal.overflow_add-index_mut
overflow_add-index_mut c = omega (
  arith,
  c.requires.fits,
  ap (λ (row : Row). row.free) (row_found _ _ _ _ _ _ c.self.invariant c.self.view_is (sym c.find.ensures.place
      ∙ c.in-Some.is) c.index_mut.ensures.value),
)

pub unreachable-requires : goal.unreachable-requires
unreachable-requires c = true≢false (ap is_some (sym c.requires.there ∙ row_missing _ _ _ _ c.self.view_is (sym c.find.ensures.place ∙ c.in-None.is)))

pub returns : goal.returns
returns c = row_becomes _ _ _ _ _ _ _ (gained c.args.value) c.self.invariant c.self.view_is (sym c.find.ensures.place ∙ c.in-Some.is) c.index_mut.ensures.value refl
