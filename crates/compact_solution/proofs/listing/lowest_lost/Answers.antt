use Rattle.std.proofs.Common.{rules, arith, ◌≡◌, ◌++◌, Bool, false, not, List, length, take, drop, get_or, ap, ◌∙◌}
use Rattle.std.proofs.Math.Seq.{take-append_seam}
use Rattle.compact_solution.specs.Packing.{lowest_where}
use Rattle.compact_solution.proofs.PackLemmas.{unmarked_lost}
use Rattle.compact_solution.proofs.listing.lowest_lost.Goals as goal

pub returns : goal.returns
returns c =
    let marks = c.mark_all.new.marks in
    let long : c.in_ok-marks.marks.len ≡ length marks = search rules in
    let behind = drop (length marks) c.in_ok-marks.marks.items in
    let same : c.deref.result.now ≡ marks =
    c.deref.ensures.value ∙ (ap (λ n. take n (marks ++ behind)) long ∙ take-append_seam marks behind) in
    c.lowest_unmarked.ensures
    ∙ (ap (λ (table : List Bool). lowest_where (λ member. not (get_or table member false)) c.args.members.now) same
    ∙ unmarked_lost c.args.kept.now marks c.args.members.now c.mark_all.ensures (λ i. omega (arith, c.type_inv.members i)))
