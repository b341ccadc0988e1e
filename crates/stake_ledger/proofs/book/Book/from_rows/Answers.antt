use Rattle.std.proofs.Common.{◌≡◌, ap, sym, ◌∙◌, false}
use Rattle.std.specs.declared.option.Option.TheVariants.{None}
use Rattle.stake_ledger.specs.Ledger.{totals_of}
use Rattle.stake_ledger.specs.BookRows.{first_bad_row, is_bad_sum, ledger_of}
use Rattle.stake_ledger.proofs.BookRowLemmas.{kept_rows}
use Rattle.stake_ledger.proofs.book.Book.from_rows.Goals as goal

pub invariant_of-result : goal.invariant_of-result
invariant_of-result c =
    let none : first_bad_row None c.args.rows ≡ None =
    ap (λ rows. first_bad_row None rows) (sym c.as_slice.ensures) ∙ (sym c.first_bad_row.ensures ∙ c.in_default.is) in
    let good : is_bad_sum c.args.rows c.args.genesis c.args.minted c.args.burned ≡ false =
    ap (λ rows. is_bad_sum rows c.args.genesis c.args.minted c.args.burned) (sym c.as_slice-2.ensures) ∙ (sym c.is_bad_sum.ensures ∙ c.if-is_bad_sum.false) in
    kept_rows c.args.rows c.args.genesis c.args.minted c.args.burned c.in_ok-rows.rows c.of-totals.result c.in_ok-rows.ensures
    (c.of-totals.ensures ∙ ap (λ rows. totals_of (ledger_of rows c.args.genesis c.args.minted c.args.burned)) c.as_slice-3.ensures) none good
