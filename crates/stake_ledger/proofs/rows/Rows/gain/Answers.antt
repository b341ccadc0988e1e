use Rattle.std.proofs.Common.{refl, sym, ◌∙◌, arith, ap}
use Rattle.stake_ledger.specs.declared.row.Row.{Row}
use Rattle.stake_ledger.specs.Rows.{gained}
use Rattle.stake_ledger.proofs.PlaceLemmas.{row_found, row_becomes, row_missing}
use Rattle.stake_ledger.proofs.rows.Rows.gain.Goals as goal

pub overflow_add-index_mut : goal.overflow_add-index_mut
overflow_add-index_mut c = omega (
  arith,
  c.requires,
  ap (λ (row : Row). row.free)
      (row_found _ _ _ _ _ _ c.self.invariant c.self.view_is (sym c.find_from.ensures.place
      ∙ c.in-Some.is) c.index_mut.ensures.value),
)

pub open-requires : goal.open-requires
open-requires c = row_missing _ _ _ _ c.self.view_is (sym c.find_from.ensures.place ∙ c.in-None.is)

pub returns-in-Some-clause-ok : goal.returns-in-Some-clause-ok
returns-in-Some-clause-ok c = row_becomes _ _ _ _ _ _ _ (gained c.args.value) c.self.invariant c.self.view_is (sym c.find_from.ensures.place ∙ c.in-Some.is) c.index_mut.ensures.value refl
