use Rattle.std.proofs.Common.{rules, arith, ◌≡◌, ◌≤◌, All, length, refl, sym, ◌∙◌, ap, subst}
use Rattle.std.proofs.lemmas.Result.{err_from_is_err_and}
use Rattle.compact_solution.specs.Packing.{kept_of, grouped, groups_of, groups_for}
use Rattle.compact_solution.specs.Solution.{groups_form}
use Rattle.compact_solution.specs.Choosing.{AllKeptFit}
use Rattle.compact_solution.proofs.FitLemmas.{all_fit, many_kept, few_kept, kept_fit, packed_fits}
use Rattle.compact_solution.proofs.GroupLemmas.{in_form}
use Rattle.compact_solution.specs.declared.entry.TheConstants.{WIDE_GROUPS}
use Rattle.compact_solution.proofs.packing.pack.Goals as goal

pub keep-requires-clause-fit : goal.keep-requires-clause-fit
keep-requires-clause-fit c = all_fit c.args.stakes.now c.args.committee.now c.args.edges.now c.requires

pub groups_for-requires : goal.groups_for-requires
groups_for-requires c =
    let kept : c.as_slice-lists.result.now ≡ kept_of c.args.stakes.now c.args.edges.now = search rules in
    subst (λ lists. All (λ own. length own ≤ WIDE_GROUPS) lists) (sym kept) (few_kept c.args.stakes.now c.args.committee.now c.args.edges.now c.requires)

pub list_entries-requires-clause-lists : goal.list_entries-requires-clause-lists
list_entries-requires-clause-lists c =
    let kept : c.as_slice-lists.result.now ≡ kept_of c.args.stakes.now c.args.edges.now = search rules in
    ap length kept ∙ many_kept c.args.stakes.now c.args.committee.now c.args.edges.now c.requires

pub list_entries-requires-clause-fit : goal.list_entries-requires-clause-fit
list_entries-requires-clause-fit c =
    let kept : c.as_slice-lists.result.now ≡ kept_of c.args.stakes.now c.args.edges.now = search rules in
    subst (λ lists. AllKeptFit c.args.stakes.now lists) (sym kept) (kept_fit c.args.stakes.now c.args.committee.now c.args.edges.now c.requires)

pub of_groups-requires : goal.of_groups-requires
of_groups-requires c =
    let kept : c.as_slice-lists.result.now ≡ kept_of c.args.stakes.now c.args.edges.now = search rules in
    let groups : c.in_ok-groups.groups ≡ groups_of c.args.stakes.now (kept_of c.args.stakes.now c.args.edges.now) =
    c.in_ok-groups.ensures
    ∙ (ap (λ n. grouped n c.args.stakes.now c.as_slice-lists.result.now (length c.args.stakes.now)) c.groups_for.ensures.count
    ∙ ap (λ lists. groups_of c.args.stakes.now lists) kept) in
    in_form (kept_of c.args.stakes.now c.args.edges.now) c.in_ok-groups.groups
    (subst (λ groups. (groups_form (groups_for (kept_of c.args.stakes.now c.args.edges.now))).in_range groups) (sym groups)
    (packed_fits c.args.stakes.now c.args.committee.now c.args.edges.now c.requires (λ i. omega (arith, c.type_inv.committee i)) (groups_for (kept_of c.args.stakes.now c.args.edges.now))))

pub returns-in_err-kept-clause-lost : goal.returns-in_err-kept-clause-lost
returns-in_err-kept-clause-lost c =
    let p = err_from_is_err_and c.from_residual.result c.from_residual.ensures.1 in
    rw (p.1, p.2) (λ differs. absurd (differs refl))

pub returns-in_err-member-clause-lost : goal.returns-in_err-member-clause-lost
returns-in_err-member-clause-lost c =
    let p = err_from_is_err_and c.from_residual-in_err-member.result c.from_residual-in_err-member.ensures.1 in
    rw (p.1, p.2) (λ differs. absurd (differs refl))

pub returns-in_err-groups-clause-lost : goal.returns-in_err-groups-clause-lost
returns-in_err-groups-clause-lost c =
    let p = err_from_is_err_and c.from_residual-in_err-groups.result c.from_residual-in_err-groups.ensures.1 in
    rw (p.1, p.2) (λ differs. absurd (differs refl))
