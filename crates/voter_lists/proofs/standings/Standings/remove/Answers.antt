-- What stands at the place of the account goes.
use Rattle.std.proofs.Common.{rules, ◌<◌, ◌∙◌, length, ap, sym}
use Rattle.voter_lists.specs.Roles.{role_in, standing_of}
use Rattle.voter_lists.specs.Standings.{standings_in}
use Rattle.voter_lists.proofs.StandingLemmas.{left_absent, placed_absent, standing_nowhere}
use Rattle.voter_lists.proofs.NamedLemmas.{nobody_absent, role_of_noted}
use Rattle.voter_lists.proofs.MarkLemmas.{beside_idle, row_within, row_standing, row_unset}
use Rattle.voter_lists.proofs.standings.Standings.remove.Goals as goal

pub index-requires : goal.index-requires
index-requires c =
    let within : c.in-Some.place < length c.self.inside.rows.items = row_within _ c.self.inside.places c.args.who _ c.self.invariant (sym c.find.ensures.place ∙ c.in-Some.is) in
    search rules

pub index_mut-requires : goal.index_mut-requires
index_mut-requires c =
    let within : c.in-Some.place < length c.self.inside.rows.items = row_within _ c.self.inside.places c.args.who _ c.self.invariant (sym c.find.ensures.place ∙ c.in-Some.is) in
    search rules

pub invariant_of-self : goal.invariant_of-self
invariant_of-self c =
    rw c.nobody.ensures (beside_idle c.self.inside.rows.items c.self.inside.places c.in-Some.place c.self.invariant)

pub returns-clause-before : goal.returns-clause-before
returns-clause-before c =
    rw (← c.self.view_is)
    (c.role-before.ensures ∙ sym (role_of_noted c.self.inside.places c.index.result.now)
    ∙ ap role_in (row_standing c.self.inside.rows.items c.self.inside.places c.args.who c.in-Some.place
    c.self.invariant (sym c.find.ensures.place ∙ c.in-Some.is) c.index.result.now c.index.ensures))

pub returns-clause-gone : goal.returns-clause-gone
returns-clause-gone c =
    rw (← c.self.view_is, c.nobody.ensures) (row_unset c.self.inside.rows.items c.self.inside.places c.args.who c.in-Some.place c.self.invariant (sym c.find.ensures.place ∙ c.in-Some.is))

pub returns-in_default-clause-before : goal.returns-in_default-clause-before
returns-in_default-clause-before c = rw (← c.self.view_is)
    (ap role_in (sym (standing_nowhere (standings_in c.self.inside.places c.self.inside.rows.items)
    c.self.inside.places c.args.who (sym c.find.ensures.place ∙ c.in_default.is))))

pub returns-in_default-clause-gone : goal.returns-in_default-clause-gone
returns-in_default-clause-gone c = rw (← c.self.view_is)
    (placed_absent (standings_in c.self.inside.places c.self.inside.rows.items) c.self.inside.places c.args.who
    (sym c.find.ensures.place ∙ c.in_default.is))

pub returns-clause-kept : goal.returns-clause-kept
returns-clause-kept c none =
    returns-clause-gone c
    ∙ left_absent c.args.self.now.roles c.args.who (nobody_absent (standing_of c.args.self.now.roles c.args.who) (sym (returns-clause-before c) ∙ none))
