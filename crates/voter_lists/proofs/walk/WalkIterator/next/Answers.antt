-- The walk goes on at the next place.
use Rattle.std.proofs.Common.{◌≡◌, ◌∙◌, ◌∷◌, sym, ap, ap₂, length, arith, rules}
use Rattle.voter_lists.specs.Nodes.{ahead}
use Rattle.voter_lists.proofs.LinkedLemmas.{ahead_step}
use Rattle.voter_lists.proofs.walk.WalkIterator.next.Goals as goal
use Rattle.voter_lists.proofs.walk.WalkIterator.next.Goals.{After-account}

-- one account of what was ahead is given
step : (c : After-account) → ahead c.self.inside.nodes.now c.self.inside.number c.self.inside.here ≡ c.account.result ∷ ahead c.self.inside.nodes.now c.in_ok-number.number c.next_in-self-inside.result
step c =
    c.in_ok-number.ensures.some.0
    ∙ ahead_step c.self.inside.nodes.now c.in_ok-number.number c.in_ok-number.place c.self.invariant.standing c.in_ok-number.ensures.some.1
    ∙ ap₂ (λ a o. a ∷ ahead c.self.inside.nodes.now c.in_ok-number.number o) (sym c.account.ensures) (sym c.next_in-self-inside.ensures.value)

pub returns-clause-steps : goal.returns-clause-steps
returns-clause-steps c = rw (← c.self.view_is) (step (goal.at.returns-clause-steps c).After-account)

pub returns-clause-goes : goal.returns-clause-goes
returns-clause-goes c =
    let steps = step (goal.at.returns-clause-goes c).After-account in
    rw (← c.self.view_is) record { on = λ finite. (search rules, search rules, omega (arith, ap length steps)); keeps = search rules; rests = λ finite. search rules }
