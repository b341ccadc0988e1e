-- The row stands at the place of the account.
use Rattle.std.proofs.Common.{rules, ◌≡◌, ◌<◌, ◌∙◌, length, Some, ap, sym}
use Rattle.account_places.specs.Places.{place_in, by_account}
use Rattle.voter_lists.specs.Noted.{IsPlaced, standing_noted}
use Rattle.voter_lists.specs.Roles.{role_in, role_of, with_standing}
use Rattle.voter_lists.specs.Standings.{PlacedRoles}
use Rattle.voter_lists.proofs.NamedLemmas.{kept_placed, kept_standing, role_of_noted}
use Rattle.voter_lists.proofs.MarkLemmas.{beside_set, row_within, row_standing, row_set}
use Rattle.voter_lists.proofs.standings.Standings.put.Goals as goal

pub index_mut-requires : goal.index_mut-requires
index_mut-requires c =
    let there : place_in (by_account c.self.inside.places) c.args.who ≡ Some c.in_ok-place.place = rw (← c.self.view_is) at c.in_ok-place.ensures.place in
    let within : c.in_ok-place.place < length c.self.inside.rows.items = row_within _ c.self.inside.places c.args.who _ c.self.invariant there in
    search rules

pub invariant_of-self : goal.invariant_of-self
invariant_of-self c =
    let placed : IsPlaced c.place_for.new.self.accounts c.args.row = kept_placed _ _ c.args.row c.place_for.ensures.kept c.requires in
    beside_set c.self.inside.rows.items c.self.inside.places c.in_ok-place.place c.args.row c.self.invariant (rw (← c.self.view_is) at placed)

pub returns-clause-ok : goal.returns-clause-ok
returns-clause-ok c standing is =
    let there : place_in (by_account c.self.inside.places) c.args.who ≡ Some c.in_ok-place.place = rw (← c.self.view_is) at c.in_ok-place.ensures.place in
    let now : standing_noted c.place_for.new.self.accounts c.args.row ≡ Some standing = kept_standing _ _ c.args.row c.place_for.ensures.kept c.requires ∙ is in
    row_set c.self.inside.rows.items c.self.inside.places c.args.who c.in_ok-place.place c.self.invariant there c.args.row standing (rw (← c.self.view_is) at now)
    ∙ ap (λ roles. with_standing roles c.args.who standing) (ap (λ (p : PlacedRoles). p.roles) c.self.view_is ∙ c.place_for.ensures.roles)

pub index-requires : goal.index-requires
index-requires c =
    let there : place_in (by_account c.self.inside.places) c.args.who ≡ Some c.in_ok-place.place = rw (← c.self.view_is) at c.in_ok-place.ensures.place in
    let within : c.in_ok-place.place < length c.self.inside.rows.items = row_within _ c.self.inside.places c.args.who _ c.self.invariant there in
    search rules

pub returns-clause-before : goal.returns-clause-before
returns-clause-before c =
    let there : place_in (by_account c.self.inside.places) c.args.who ≡ Some c.in_ok-place.place = rw (← c.self.view_is) at c.in_ok-place.ensures.place in
    c.role-before.ensures
    ∙ sym (role_of_noted c.self.inside.places c.index.result.now)
    ∙ ap role_in (row_standing c.self.inside.rows.items c.self.inside.places c.args.who c.in_ok-place.place c.self.invariant there c.index.result.now c.index.ensures)
    ∙ ap (λ roles. role_of roles c.args.who) (ap (λ (p : PlacedRoles). p.roles) c.self.view_is ∙ c.place_for.ensures.roles)
