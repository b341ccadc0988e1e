use Rattle.std.proofs.Common.{◌≡◌, ◌≤◌, Some, IfErr, OnOk, ap, sym, ◌∙◌, subst}
use Rattle.stake_ledger.specs.Calls.{hold_refusal}
use Rattle.stake_ledger.specs.Rows.{paid}
use Rattle.npos_base.proofs.Refusals.{then_ok}
use Rattle.stake_ledger.proofs.PlaceLemmas.{row_found, row_found_there, row_becomes}
use Rattle.stake_ledger.proofs.rows.Rows.pay.Goals as goal

pub returns-in-Some-clause-accepted : goal.returns-in-Some-clause-accepted
returns-in-Some-clause-accepted c = subst (λ row. OnOk c.pay.result (c.args.value ≤ row.free))
    (row_found _ _ _ _ _ _ c.self.invariant c.self.view_is (sym c.find_from.ensures.place
    ∙ c.in-Some.is) c.index_mut.ensures.value) (then_ok c.pay.result (λ ok. ok.0) c.pay.ensures.ok)

pub returns-in-Some-clause-ok : goal.returns-in-Some-clause-ok
returns-in-Some-clause-ok c = then_ok c.pay.result (λ ok. row_becomes _ _ _ _ _ _ _ (paid c.args.value)
    c.self.invariant c.self.view_is (sym c.find_from.ensures.place ∙ c.in-Some.is) c.index_mut.ensures.value ok.1)
    c.pay.ensures.ok

pub returns-in-Some-clause-there : goal.returns-in-Some-clause-there
returns-in-Some-clause-there c = then_ok c.pay.result (λ _. row_found_there _ _ _ _ _ _ c.self.invariant
    c.self.view_is (sym c.find_from.ensures.place ∙ c.in-Some.is) c.index_mut.ensures.value
    ∙ ap Some (row_found _ _ _ _ _ _ c.self.invariant c.self.view_is (sym c.find_from.ensures.place
    ∙ c.in-Some.is) c.index_mut.ensures.value)) c.pay.ensures.ok

pub returns-in-Some-clause-refused : goal.returns-in-Some-clause-refused
returns-in-Some-clause-refused c =
    subst (λ row. IfErr c.pay.result (λ refusal. hold_refusal row c.args.value ≡ Some refusal))
    (row_found _ _ _ _ _ _ c.self.invariant c.self.view_is (sym c.find_from.ensures.place
    ∙ c.in-Some.is) c.index_mut.ensures.value) c.pay.ensures.refused
