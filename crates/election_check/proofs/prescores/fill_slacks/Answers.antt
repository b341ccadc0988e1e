use Rattle.std.proofs.Common.{rules, ◌≡◌, ◌<◌, length, get_or}
use Rattle.npos_base.specs.declared.figures.Edge.{Edge}
use Rattle.weight_book.specs.Weights.{support}
use Rattle.weight_book.specs.Passing.{pay}
use Rattle.seat_race.proofs.PaidLemmas.{within_support, pay_left, paid_next}
use Rattle.election_check.proofs.prescores.fill_slacks.Goals as goal

abbrev none : Edge
none = record { voter = 0; target = 0; amount = 0 }

pub pay-requires : goal.pay-requires
pay-requires c =
    let edges = c.args.weights.now.plain.edges in
    let h : c.loop-edge.edge-index < length edges = search rules in
    let is : c.support.result ≡ support edges (get_or edges c.loop-edge.edge-index none).target = search rules in
    rw (c.edges-edge-items.ensures, is) (within_support edges c.loop-edge.edge-index none h)

pub overflow_sub-left : goal.overflow_sub-left
overflow_sub-left c =
    let edges = c.args.weights.now.plain.edges in
    let h : c.loop-edge.edge-index < length edges = search rules in
    let is : c.pay.result ≡ pay c.threshold-price.result edges (get_or edges c.loop-edge.edge-index none) = search rules in
    rw (c.edges-edge-items.ensures, is)
    (pay_left c.threshold-price.result c.args.snapshot.now c.args.weights.now.plain.edges
    c.requires.feasible.follows.voters_in_range c.requires.feasible.within_stakes c.loop-edge.edge-index none h
    c.loop-edge.left c.loop-edge.invariant.0)

pub loop-edge-preserved : goal.loop-edge-preserved
loop-edge-preserved c =
    let edges = c.args.weights.now.plain.edges in
    let h : c.loop-edge.edge-index < length edges = search rules in
    let is : c.pay.result ≡ pay c.threshold-price.result edges (get_or edges c.loop-edge.edge-index none) = search rules in (
      rw (c.edges-edge-items.ensures, is)
          (paid_next c.threshold-price.result c.args.snapshot.now c.args.weights.now.plain.edges
          c.requires.feasible.follows.voters_in_range c.requires.feasible.within_stakes c.loop-edge.edge-index
          none h c.loop-edge.left c.loop-edge.invariant.0),
      c.loop-edge.invariant.1,
    )
