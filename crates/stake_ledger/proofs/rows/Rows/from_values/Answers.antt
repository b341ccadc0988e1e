use Rattle.std.proofs.Common.{◌∙◌, ◌++◌, ap, ap₂, sym}
use Rattle.std.specs.BTreeMap.{insert_entry}
use Rattle.npos_base.specs.Account.{account_cmp}
use Rattle.stake_ledger.specs.declared.row.Row.{Row}
use Rattle.stake_ledger.specs.Ledger.{row_of_entries}
use Rattle.stake_ledger.proofs.BookRowLemmas.{next_is_new, next_is_last, rest_behind}
use Rattle.stake_ledger.proofs.rows.Rows.from_values.Goals as goal

pub append-requires : goal.append-requires
append-requires c =
    ap (row_of_entries c.in-Some.value.who) c.loop-value.invariant.made
    ∙ next_is_new c.args.values c.loop-value.yielded _ c.in-Some.value (ap (λ l. c.loop-value.yielded ++ l) (sym c.in-Some.ensures.steps.0) ∙ c.loop-value.invariant.all) c.requires

pub loop-value-preserved : goal.loop-value-preserved
loop-value-preserved c = record {
  all = rest_behind c.args.values c.loop-value.yielded _ _ c.in-Some.value c.loop-value.invariant.all c.in-Some.ensures.steps.0;
  made =
      c.in_ok-append.ensures.ok
      ∙ (ap₂ (λ entries (row : Row). insert_entry account_cmp entries c.in-Some.value.who row) c.loop-value.invariant.made c.from_value.ensures
      ∙ next_is_last c.args.values c.loop-value.yielded _ c.in-Some.value (ap (λ l. c.loop-value.yielded ++ l) (sym c.in-Some.ensures.steps.0) ∙ c.loop-value.invariant.all) c.requires);
}
