use Rattle.std.proofs.Common.{rules, ◌∙◌, sym, ap, subst, length, Some, Result, ℕ}
use Rattle.std.specs.List.Sorted.{IsBinarySearchResult, IsSearchInRange}
use Rattle.std.proofs.lemmas.List.Sorted.{answers_always}
use Rattle.npos_base.specs.Account.{account_cmp}
use Rattle.state_rules.proofs.KnownLemmas.{hit, missed}
use Rattle.state_rules.proofs.known.row_of.Goals as goal

pub returns-in-Ok : goal.returns-in-Ok
returns-in-Ok c =
    let by_key = c.binary_search_by_key.ensures.position (λ row. row.who) (answers_always _ _ _ (λ f a r g called. search rules)) in
    let found = subst (λ (r : Result ℕ ℕ). IsBinarySearchResult (λ row. account_cmp row.who c.args.who) c.args.rows.now r) c.in-Ok.is by_key in
    let within = subst (λ (r : Result ℕ ℕ). IsSearchInRange r (length c.args.rows.now)) c.in-Ok.is c.binary_search_by_key.ensures.bound in
    ap (λ row. Some row) c.index-rows-place.is ∙ sym (hit c.args.who c.args.rows.now c.in-Ok.place c.index-rows-place.result within c.requires found)

pub returns-in-Err : goal.returns-in-Err
returns-in-Err c =
    let by_key = c.binary_search_by_key.ensures.position (λ row. row.who) (answers_always _ _ _ (λ f a r g called. search rules)) in
    let found = subst (λ (r : Result ℕ ℕ). IsBinarySearchResult (λ row. account_cmp row.who c.args.who) c.args.rows.now r) c.in-Err.is by_key in
    let within = subst (λ (r : Result ℕ ℕ). IsSearchInRange r (length c.args.rows.now)) c.in-Err.is c.binary_search_by_key.ensures.bound in
    sym (missed c.args.who c.args.rows.now c.in-Err.field-0 within c.requires found)
