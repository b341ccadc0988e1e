-- A row with no standing comes behind the others.
use Rattle.std.proofs.Common.{rules, ◌≡◌, ◌++◌, ◌∷◌, [], ◌∙◌, sym}
use Rattle.voter_lists.specs.Noted.{Idle}
use Rattle.voter_lists.proofs.MarkLemmas.{kept_more, beside_more, row_more}
use Rattle.voter_lists.proofs.standings.Standings.place_for.Goals as goal

pub invariant_of-self-2 : goal.invariant_of-self-2
invariant_of-self-2 c =
    let items : c.push.new.self.items ≡ c.self.inside.rows.items ++ Idle ∷ [] = search rules in
    rw (items, c.in_ok-put.ensures.ok) (beside_more c.self.inside.rows.items c.self.inside.places c.args.who c.self.invariant (sym c.find.ensures.place ∙ c.in_default.is))

pub returns-clause-kept : goal.returns-clause-kept
returns-clause-kept c place who there =
    rw c.in_ok-put.ensures.ok (kept_more c.self.inside.places c.args.who place who (rw (← c.self.view_is) at there))

pub returns-clause-roles : goal.returns-clause-roles
returns-clause-roles c =
    let items : c.push.new.self.items ≡ c.self.inside.rows.items ++ Idle ∷ [] = search rules in
    rw (← c.self.view_is, items, c.in_ok-put.ensures.ok)
    (row_more c.self.inside.rows.items c.self.inside.places c.args.who c.self.invariant (sym c.find.ensures.place ∙ c.in_default.is))
