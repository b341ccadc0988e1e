use Rattle.std.proofs.Common.{rules, ◌≡◌, ◌<◌, length, get_or, ap, ◌∙◌}
use Rattle.npos_base.specs.declared.figures.Edge.{Edge}
use Rattle.weight_book.specs.Weights.{support}
use Rattle.weight_book.specs.Passing.{pay}
use Rattle.seat_race.proofs.PaidLemmas.{within_support, pay_left, paid_next}
use Rattle.phragmms_miner.proofs.pass.fill_slacks.Goals as goal

abbrev none : Edge
none = record { voter = 0; target = 0; amount = 0 }

pub pay-requires-clause-within : goal.pay-requires-clause-within
pay-requires-clause-within c =
    let edges = c.args.edges.now in
    let i = c.loop-edge.edge-index in
    let h : i < length edges = search rules in
    let is : get_or c.args.supports.now c.from-place.result 0 ≡ support edges (get_or edges i none).target =
    c.requires.spare.sums c.from-place.result ∙ ap (support edges) c.from-place.ensures in
    rw is (within_support edges i none h)

pub pay-requires-clause-rate : goal.pay-requires-clause-rate
pay-requires-clause-rate c =
    let h : c.loop-edge.edge-index < length c.args.edges.now = search rules in
    c.requires.rates.rate c.from-place.result (rw c.from-place.ensures (c.requires.spare.targets c.loop-edge.edge-index none h))

pub overflow_sub-left : goal.overflow_sub-left
overflow_sub-left c =
    let edges = c.args.edges.now in
    let i = c.loop-edge.edge-index in
    let h : i < length edges = search rules in
    let is : get_or c.args.supports.now c.from-place.result 0 ≡ support edges (get_or edges i none).target =
    c.requires.spare.sums c.from-place.result ∙ ap (support edges) c.from-place.ensures in
    let paid : c.pay.result ≡ pay c.args.price edges (get_or edges i none) = rw is at c.pay.ensures in
    rw paid (pay_left c.args.price c.args.snapshot.now edges c.requires.spare.voters c.requires.spare.within i none h c.loop-edge.left c.loop-edge.invariant)

pub loop-edge-preserved : goal.loop-edge-preserved
loop-edge-preserved c =
    let edges = c.args.edges.now in
    let i = c.loop-edge.edge-index in
    let h : i < length edges = search rules in
    let is : get_or c.args.supports.now c.from-place.result 0 ≡ support edges (get_or edges i none).target =
    c.requires.spare.sums c.from-place.result ∙ ap (support edges) c.from-place.ensures in
    let paid : c.pay.result ≡ pay c.args.price edges (get_or edges i none) = rw is at c.pay.ensures in
    rw paid (paid_next c.args.price c.args.snapshot.now edges c.requires.spare.voters c.requires.spare.within i none h c.loop-edge.left c.loop-edge.invariant)
