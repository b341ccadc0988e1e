use Rattle.std.proofs.Common.{◌∙◌, ap, subst, map, take, List, [], ◌∷◌, ◌++◌}
use Rattle.npos_base.specs.declared.account.AccountId.{AccountId}
use Rattle.stake_ledger.specs.declared.book_row.BookRow.{BookRow}
use Rattle.account_places.specs.Places.{by_account}
use Rattle.state_rules.specs.Accounts.{AreNoted}
use Rattle.state_rules.proofs.ListLemmas.{mapped_more}
use Rattle.state_rules.proofs.seen.accounts_of.Goals as goal

pub loop-row-preserved : goal.loop-row-preserved
loop-row-preserved c =
    let rows = c.args.rows.now in
    let before = map (λ (row : BookRow). row.who) (take c.loop-row.row-index rows) in
    subst (λ (accounts : List AccountId). AreNoted (by_account c.note.new.self.accounts) accounts)
    (ap (λ (row : BookRow). before ++ row.who ∷ []) c.row-item.is
    ∙ mapped_more (λ row. row.who) rows c.loop-row.row-index c.row-item.result c.loop-row-test.true)
    (c.in_ok-note.ensures before c.loop-row.invariant).1
