use Rattle.std.proofs.Common.{◌≡◌, ◌≤◌, get_or, ap, ◌∙◌}
use Rattle.npos_base.specs.declared.figures.Edge.{Edge}
use Rattle.weight_book.specs.Weights.{support, spent}
use Rattle.weight_book.specs.Passing.{pay}
use Rattle.election_snapshot.specs.Snapshot.{stake_of}
use Rattle.seat_race.proofs.PaidLemmas.{within_support}
use Rattle.phragmms_miner.proofs.FewLemmas.{voters_rise, walk_start, walk_left, walk_next, walk_met}
use Rattle.phragmms_miner.proofs.few.slack_of.Goals as goal

abbrev none : Edge
none = record { voter = 0; target = 0; amount = 0 }

pub row_start-at-requires : goal.row_start-at-requires
row_start-at-requires c = voters_rise c.args.snapshot.now c.args.edges.now c.args.supports.now c.requires.spare

pub loop-at-init : goal.loop-at-init
loop-at-init c = rw c.stake-left.ensures.stake (walk_start c.args.price c.args.snapshot.now c.args.edges.now c.args.voter
    c.row_start-at.result c.row_start-at.ensures.within c.row_start-at.ensures.before c.row_start-at.ensures.behind)

pub pay-left-requires-clause-within : goal.pay-left-requires-clause-within
pay-left-requires-clause-within c =
    let edges = c.args.edges.now in
    let at = c.loop-at.at in
    let is : get_or c.args.supports.now c.from-place.result 0 ≡ support edges (get_or edges at none).target =
    c.requires.spare.sums c.from-place.result ∙ ap (support edges) c.from-place.ensures in
    rw is (within_support edges at none c.loop-at-test.true)

pub overflow_sub-left : goal.overflow_sub-left
overflow_sub-left c =
    let edges = c.args.edges.now in
    let at = c.loop-at.at in
    let is : get_or c.args.supports.now c.from-place.result 0 ≡ support edges (get_or edges at none).target =
    c.requires.spare.sums c.from-place.result ∙ ap (support edges) c.from-place.ensures in
    let paid : c.pay-left.result ≡ pay c.args.price edges (get_or edges at none) = rw is at c.pay-left.ensures in
    let within : spent edges c.args.voter ≤ stake_of c.args.snapshot.now c.args.voter = c.requires.spare.within c.args.voter c.requires.voter in
    rw paid (walk_left c.args.price c.args.snapshot.now edges c.args.voter at c.loop-at.left c.loop-at.invariant none c.loop-at-test.true c.if-edges-at.true within)

pub loop-at-preserved : goal.loop-at-preserved
loop-at-preserved c =
    let edges = c.args.edges.now in
    let at = c.loop-at.at in
    let is : get_or c.args.supports.now c.from-place.result 0 ≡ support edges (get_or edges at none).target =
    c.requires.spare.sums c.from-place.result ∙ ap (support edges) c.from-place.ensures in
    let paid : c.pay-left.result ≡ pay c.args.price edges (get_or edges at none) = rw is at c.pay-left.ensures in
    let within : spent edges c.args.voter ≤ stake_of c.args.snapshot.now c.args.voter = c.requires.spare.within c.args.voter c.requires.voter in
    rw paid (walk_next c.args.price c.args.snapshot.now edges c.args.voter at c.loop-at.left c.loop-at.invariant none c.loop-at-test.true c.if-edges-at.true within)

pub returns-else-edges-at : goal.returns-else-edges-at
returns-else-edges-at c = walk_met c.args.price c.args.snapshot.now c.args.edges.now c.args.voter c.loop-at.at c.loop-at.left c.loop-at.invariant
    (voters_rise c.args.snapshot.now c.args.edges.now c.args.supports.now c.requires.spare) none c.loop-at-test.true c.if-edges-at.false
