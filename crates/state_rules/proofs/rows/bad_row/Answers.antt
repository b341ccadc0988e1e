use Rattle.state_rules.specs.Rows.{is_bad_row}
use Rattle.state_rules.proofs.ListLemmas.{good_all}
use Rattle.state_rules.proofs.RowLemmas.{by_account}
use Rattle.std.proofs.Common.{◌≤◌, length, arith}
use Rattle.state_rules.proofs.rows.bad_row.Goals as goal

pub returns-clause-by_account : goal.returns-clause-by_account
returns-clause-by_account c none =
    let end : length c.args.rows.now ≤ c.loop-place.place = omega arith in
    by_account c.args.latest c.args.rows.now
    (good_all (is_bad_row c.args.latest) c.args.rows.now c.loop-place.place c.loop-place.invariant end)
