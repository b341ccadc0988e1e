-- The accounts that are there are the same.
use Rattle.std.proofs.Common.{◌≡◌, ◌∙◌, ap, rules, Vec, Global}
use Rattle.npos_base.specs.declared.account.AccountId.{AccountId}
use Rattle.era_book.proofs.accounts.Accounts.or_same.Goals as goal

pub returns-in_ok-clone-in-Some : goal.returns-in_ok-clone-in-Some
returns-in_ok-clone-in-Some c =
    let told = c.are_same.ensures c.if-are_same.true in
    let same : c.in-Some.list.value.items ≡ c.args.accounts.items = search rules in
    ap (λ (list : Vec AccountId Global). list.items) c.in_ok-clone-in-Some.ensures.cases ∙ same
