use Rattle.std.proofs.Common.{◌∙◌, sym}
use Rattle.npos_base.proofs.AccountOrder.{same_exact}
use Rattle.era_book.proofs.AccountLemmas.{same_accounts}
use Rattle.era_book.proofs.accounts.are_same.Goals as goal

pub returns : goal.returns
returns c same = same_accounts _ (λ x y e. same_exact x y e) c.args.accounts.now c.args.others.now (sym c.eq.ensures ∙ same)
