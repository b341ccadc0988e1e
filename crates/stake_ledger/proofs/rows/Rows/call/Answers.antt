use Rattle.std.proofs.Common.{◌≡◌, None, IfErr, IfOk, OnOk, sym, ◌∙◌, subst}
use Rattle.stake_ledger.specs.RowCalls.{MayAnswer, row_refusal, row_after, done_of}
use Rattle.npos_base.proofs.Refusals.{then_ok}
use Rattle.stake_ledger.proofs.PlaceLemmas.{row_found, row_becomes}
use Rattle.stake_ledger.proofs.rows.Rows.call.Goals as goal

pub done-requires-clause-few : goal.done-requires-clause-few
done-requires-clause-few c = rw (row_found _ _ _ _ _ _ c.self.invariant c.self.view_is (sym c.find.ensures.place ∙ c.in-Some.is) c.index_mut.ensures.value) c.requires.few

pub done-requires-clause-fits : goal.done-requires-clause-fits
done-requires-clause-fits c = rw (row_found _ _ _ _ _ _ c.self.invariant c.self.view_is (sym c.find.ensures.place ∙ c.in-Some.is) c.index_mut.ensures.value) c.requires.fits

pub returns-in-Some-clause-accepted : goal.returns-in-Some-clause-accepted
returns-in-Some-clause-accepted c =
    subst (λ row. OnOk c.done.result (row_refusal c.args.call row ≡ None)) (row_found _ _ _ _ _ _ c.self.invariant c.self.view_is (sym c.find.ensures.place ∙ c.in-Some.is) c.index_mut.ensures.value)
    (then_ok c.done.result (λ ok. ok.0) c.done.ensures.ok)

pub returns-in-Some-clause-ok : goal.returns-in-Some-clause-ok
returns-in-Some-clause-ok c =
    then_ok c.done.result (λ ok. row_becomes _ _ _ _ _ _ _ (row_after c.args.call) c.self.invariant c.self.view_is
    (sym c.find.ensures.place ∙ c.in-Some.is) c.index_mut.ensures.value ok.1) c.done.ensures.ok

pub returns-in-Some-clause-done : goal.returns-in-Some-clause-done
returns-in-Some-clause-done c =
    subst (λ row. IfOk c.done.result (λ done. done ≡ done_of c.args.call row))
    (row_found _ _ _ _ _ _ c.self.invariant c.self.view_is (sym c.find.ensures.place
    ∙ c.in-Some.is) c.index_mut.ensures.value) c.done.ensures.done

pub returns-in-Some-clause-refused : goal.returns-in-Some-clause-refused
returns-in-Some-clause-refused c =
    subst (λ row. IfErr c.done.result (MayAnswer c.args.call (row_refusal c.args.call row)))
    (row_found _ _ _ _ _ _ c.self.invariant c.self.view_is (sym c.find.ensures.place
    ∙ c.in-Some.is) c.index_mut.ensures.value) c.done.ensures.refused
