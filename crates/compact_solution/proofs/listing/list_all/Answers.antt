use Rattle.std.proofs.Common.{arith, ◌≡◌, ◌≤◌, All, length, [], sym, ◌∙◌, ap, subst}
use Rattle.std.proofs.lemmas.List.{get_or_read_under}
use Rattle.std.proofs.lemmas.List.Elements.{All-get_or}
use Rattle.compact_solution.specs.Packing.{kept_at, stake_at}
use Rattle.compact_solution.specs.Choosing.{Fits}
use Rattle.compact_solution.proofs.GroupLemmas.{many_groups, voter_listed}
use Rattle.compact_solution.proofs.listing.list_all.Goals as goal

pub list_entry-requires-clause-fit : goal.list_entry-requires-clause-fit
list_entry-requires-clause-fit c =
    let here = c.as_slice.ensures ∙ get_or_read_under c.args.kept.now c.loop-voter.voter (length c.args.stakes.now)
    c.index-kept-voter.result [] c.index-kept-voter.is c.loop-voter-test.true (sym c.requires.lists) in
    subst (λ edges. All (Fits (stake_at c.args.stakes.now c.loop-voter.voter)) edges) (sym here) (c.requires.fit c.loop-voter.voter c.loop-voter-test.true)

pub list_entry-requires-clause-few : goal.list_entry-requires-clause-few
list_entry-requires-clause-few c =
    let here = c.as_slice.ensures ∙ get_or_read_under c.args.kept.now c.loop-voter.voter (length c.args.stakes.now)
    c.index-kept-voter.result [] c.index-kept-voter.is c.loop-voter-test.true (sym c.requires.lists) in
    let few = All-get_or (λ edges. length edges ≤ length c.args.groups.now) c.args.kept.now c.loop-voter.voter [] (omega (arith, c.loop-voter-test.true, c.requires.lists)) c.requires.few in
    omega (
      arith,
      ap length here,
      few,
      ap length c.loop-voter.invariant,
      many_groups (length c.args.groups.now) c.args.stakes.now c.args.kept.now 0 c.loop-voter.voter,
    )

pub list_entry-requires-clause-most : goal.list_entry-requires-clause-most
list_entry-requires-clause-most c =
    omega (
      arith,
      c.requires.most,
      ap length c.loop-voter.invariant,
      many_groups (length c.args.groups.now) c.args.stakes.now c.args.kept.now 0 c.loop-voter.voter,
    )

pub loop-voter-preserved : goal.loop-voter-preserved
loop-voter-preserved c =
    let here : c.as_slice.result.now ≡ kept_at c.args.kept.now c.loop-voter.voter = c.as_slice.ensures
    ∙ get_or_read_under c.args.kept.now c.loop-voter.voter (length c.args.stakes.now) c.index-kept-voter.result []
    c.index-kept-voter.is c.loop-voter-test.true (sym c.requires.lists) in
    let few = All-get_or (λ edges. length edges ≤ length c.args.groups.now) c.args.kept.now c.loop-voter.voter [] (omega (arith, c.loop-voter-test.true, c.requires.lists)) c.requires.few in
    let short : length c.as_slice.result.now ≤ length c.args.groups.now = omega (arith, ap length here, few) in
    voter_listed (length c.args.groups.now) c.args.stakes.now c.args.kept.now c.loop-voter.voter c.as_slice.result.now c.loop-voter.groups c.list_entry.new.groups here short c.loop-voter.invariant
    c.in_ok-list_entry.ensures.none c.in_ok-list_entry.ensures.some
