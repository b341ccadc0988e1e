use Rattle.std.proofs.Common.{◌≡◌, ◌++◌, OnOk, codes, subst}
use Rattle.npos_base.specs.declared.account.AccountId.{AccountId}
use Rattle.told_lines.specs.Texts.{account_text}
use Rattle.committee_judge.proofs.ReportLemmas.{stands_at}
use Rattle.committee_judge.proofs.telling.tell_target.Goals as goal

pub returns : goal.returns
returns c =
    subst (λ (who : AccountId). OnOk c.tell.result (c.tell.new.text.items ≡ c.args.text.now.items ++ (codes "denied " ++ (account_text who ++ codes " seats"))))
    (stands_at c.args.snapshot.now c.args.target c.target.result c.target.ensures) c.tell.ensures.text
