use Rattle.std.proofs.Common.{rules, arith, ◌<◌, ◌^◌, length, take}
use Rattle.std.proofs.lemmas.List.{get_or_default, length-take-le}
use Rattle.std.proofs.lemmas.List.Elements.{All-take}
use Rattle.npos_base.specs.declared.figures.Edge.{Edge}
use Rattle.support_balance.proofs.AlikeLemmas.{support_small}
use Rattle.support_balance.proofs.Edges.{no_edge}
use Rattle.support_balance.proofs.laying.supports_of.Goals as goal

pub overflow_add-index_mut : goal.overflow_add-index_mut
overflow_add-index_mut c =
    let edges = c.args.edges.now in
    let i = c.loop-edge.edge-index in
    let h : i < length edges = search rules in
    let place = c.from-in-loop-edge.result in
    let small = support_small (take i edges) place (All-take (λ (e : Edge). e.amount < 2 ^ 64) i edges c.requires.small) in
    let fits : place < length c.loop-edge.supports.items = omega (arith, c.from-in-loop-edge.ensures, c.requires.in_range i no_edge h, c.loop-edge.invariant.1) in
    omega (
      arith,
      c.index_mut.ensures.value,
      get_or_default c.loop-edge.supports.items place c.index_mut.result.now 0 fits,
      c.loop-edge.invariant.0 place,
      small,
      length-take-le i edges (omega (arith, h)),
      c.requires.few,
      c.from.ensures,
      c.requires.small i no_edge h,
    )
