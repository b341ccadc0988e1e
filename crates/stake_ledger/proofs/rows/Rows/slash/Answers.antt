use Rattle.std.proofs.Common.{◌≡◌, true, false, IfSome, IfNone, OnSome, sym, ◌∙◌, subst}
use Rattle.stake_ledger.specs.Parts.{cut_of}
use Rattle.stake_ledger.specs.Rows.{is_bonded, slashed_row}
use Rattle.stake_ledger.proofs.PlaceLemmas.{row_found, row_becomes, then_some}
use Rattle.stake_ledger.proofs.rows.Rows.slash.Goals as goal

pub slash-requires : goal.slash-requires
slash-requires c = rw (row_found _ _ _ _ _ _ c.self.invariant c.self.view_is (sym c.find_from.ensures.place ∙ c.in-Some.is) c.index_mut.ensures.value) c.requires

pub returns-in-Some-clause-bonded : goal.returns-in-Some-clause-bonded
returns-in-Some-clause-bonded c =
    subst (λ row. OnSome c.slash.result (is_bonded row ≡ true)) (row_found _ _ _ _ _ _ c.self.invariant c.self.view_is
    (sym c.find_from.ensures.place ∙ c.in-Some.is) c.index_mut.ensures.value) c.slash.ensures.bonded

pub returns-in-Some-clause-some : goal.returns-in-Some-clause-some
returns-in-Some-clause-some c =
    then_some c.slash.result (λ is. row_becomes _ _ _ _ _ _ _ (slashed_row c.args.amount) c.self.invariant
    c.self.view_is (sym c.find_from.ensures.place ∙ c.in-Some.is) c.index_mut.ensures.value is)
    c.slash.ensures.some

pub returns-in-Some-clause-cut : goal.returns-in-Some-clause-cut
returns-in-Some-clause-cut c =
    subst (λ row. IfSome c.slash.result (λ cut. cut ≡ cut_of c.args.amount row))
    (row_found _ _ _ _ _ _ c.self.invariant c.self.view_is (sym c.find_from.ensures.place
    ∙ c.in-Some.is) c.index_mut.ensures.value) c.slash.ensures.cut

pub returns-in-Some-clause-unbonded : goal.returns-in-Some-clause-unbonded
returns-in-Some-clause-unbonded c =
    subst (λ row. IfNone c.slash.result (is_bonded row ≡ false))
    (row_found _ _ _ _ _ _ c.self.invariant c.self.view_is (sym c.find_from.ensures.place
    ∙ c.in-Some.is) c.index_mut.ensures.value) c.slash.ensures.unbonded
