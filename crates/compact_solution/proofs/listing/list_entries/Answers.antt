use Rattle.std.proofs.Common.{rules, arith, ◌≡◌, ◌++◌, length, take, drop, sym, ◌∙◌, ap}
use Rattle.std.proofs.Math.Seq.{take-append_seam}
use Rattle.compact_solution.specs.Packing.{grouped}
use Rattle.compact_solution.specs.Choosing.{empty_groups}
use Rattle.compact_solution.proofs.GroupLemmas.{many_empty}
use Rattle.compact_solution.proofs.listing.list_entries.Goals as goal

pub list_all-requires-clause-empty : goal.list_all-requires-clause-empty
list_all-requires-clause-empty c =
    let made : c.deref_mut.result.now ≡ empty_groups c.args.count = search rules in
    made ∙ ap empty_groups (sym (ap length made ∙ many_empty c.args.count))

pub list_all-requires-clause-few : goal.list_all-requires-clause-few
list_all-requires-clause-few c =
    let made : c.deref_mut.result.now ≡ empty_groups c.args.count = search rules in
    λ k d h. omega (arith, c.requires.few k d h, ap length made, many_empty c.args.count)

pub list_all-requires-clause-most : goal.list_all-requires-clause-most
list_all-requires-clause-most c =
    let made : c.deref_mut.result.now ≡ empty_groups c.args.count = search rules in
    omega (arith, c.requires.most, ap length made, many_empty c.args.count)

pub returns : goal.returns
returns c =
    let made : c.deref_mut.result.now ≡ empty_groups c.args.count = search rules in
    let long : c.in_ok-groups.groups.len ≡ length c.list_all.new.groups = search rules in
    let behind = drop (length c.list_all.new.groups) c.in_ok-groups.groups.items in
    c.from_vec.ensures
    ∙ (ap (λ n. take n (c.list_all.new.groups ++ behind)) long ∙ take-append_seam c.list_all.new.groups behind
    ∙ (c.in_ok-list_all.ensures
    ∙ ap (λ n. grouped n c.args.stakes.now c.args.kept.now (length c.args.stakes.now)) (ap length made ∙ many_empty c.args.count)))
