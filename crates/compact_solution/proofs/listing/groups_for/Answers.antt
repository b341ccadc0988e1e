use Rattle.std.proofs.Common.{◌≡◌, ◌≤◌, not, All, length, ap, subst, sym, ◌∙◌}
use Rattle.compact_solution.specs.Solution.{groups_in}
use Rattle.compact_solution.specs.Packing.{groups_for}
use Rattle.compact_solution.proofs.GroupLemmas.{enough_groups}
use Rattle.compact_solution.proofs.listing.groups_for.Goals as goal

pub returns-clause-enough : goal.returns-clause-enough
returns-clause-enough c =
    let count : c.groups_in.result ≡ groups_for c.args.kept.now =
    c.groups_in.ensures.number ∙ ap (λ fits. groups_in (not fits)) c.fits_plain.ensures in
    subst (λ n. All (λ edges. length edges ≤ n) c.args.kept.now) (sym count) (enough_groups c.args.kept.now c.requires)
