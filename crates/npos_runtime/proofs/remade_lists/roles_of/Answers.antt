use Rattle.std.proofs.Common.{◌∙◌, ap, sym, subst}
use Rattle.voter_lists.specs.Roles.{RoleList}
use Rattle.state_rules.specs.Sound.{IsSoundRole}
use Rattle.npos_runtime.specs.Kept.Chain.{with_role}
use Rattle.npos_runtime.specs.Kept.Remade.{CanStand}
use Rattle.npos_runtime.proofs.Kept.Remade.ItemLemmas.{each_next, rest_behind}
use Rattle.npos_runtime.proofs.Kept.Remade.ListLemmas.{can_stand, roles_more}
use Rattle.npos_runtime.proofs.remade_lists.roles_of.Goals as goal

pub take_role-requires : goal.take_role-requires
take_role-requires c =
    let row = c.in-Some.row in
    subst (λ (roles : RoleList). CanStand roles row.who row.role) (sym c.loop-row.invariant.made)
    (can_stand c.requires.0 c.requires.1.0 c.loop-row.yielded row
    (each_next (IsSoundRole c.requires.0 c.requires.1.0) c.args.rows c.loop-row.yielded _ _ row c.requires.1.1 c.loop-row.invariant.all c.in-Some.ensures.steps.0))

pub loop-row-preserved : goal.loop-row-preserved
loop-row-preserved c = record {
  all = rest_behind c.args.rows c.loop-row.yielded _ _ c.in-Some.row c.loop-row.invariant.all c.in-Some.ensures.steps.0;
  made = c.in_ok-take_role.ensures ∙ (ap (λ (roles : RoleList). with_role roles c.in-Some.row) c.loop-row.invariant.made ∙ sym (roles_more c.loop-row.yielded c.in-Some.row));
}
