use Rattle.std.proofs.Common.{rules, ◌≡◌, ◌+◌, ◌*◌, ◌<◌, true, false, length, get_or, slice_index, slice_index_or}
use Rattle.npos_base.specs.declared.figures.Edge.{Edge}
use Rattle.npos_base.specs.declared.limits.TheConstants.{MOST_NOMINATIONS}
use Rattle.election_snapshot.specs.Snapshot.{has, votes_of}
use Rattle.election_check.proofs.EdgeLemmas.{twice, goes_on}
use Rattle.election_check.proofs.plain.check_edges.Goals as goal

abbrev none : Edge
none = record { voter = 0; target = 0; amount = 0 }

pub returns-then-is_seen-place : goal.returns-then-is_seen-place
returns-then-is_seen-place c =
    let snapshot = c.args.snapshot.now in
    let edges = c.args.weights.now.plain.edges in
    let i = c.loop-edge.edge-index in
    let h : i < length edges = search rules in
    let in_range : (get_or edges i none).voter < length snapshot.voters = search rules in
    let member : has c.args.weights.now.plain.committee (get_or edges i none).target ≡ true = search rules in
    let in_votes : c.in-Some.vote < length (votes_of snapshot (get_or edges i none).voter) = search rules in
    let is : slice_index (votes_of snapshot (get_or edges i none).voter) c.in-Some.vote ≡ (get_or edges i none).target = search rules in
    let seen : slice_index_or c.loop-edge.is_seen ((get_or edges i none).voter * MOST_NOMINATIONS + c.in-Some.vote) false ≡ true = search rules in
    rw c.edges-edge-items.ensures
    (twice snapshot c.args.weights.now.plain c.loop-edge.is_seen i none h c.loop-edge.invariant in_range c.voter_count.ensures.well_formed member c.in-Some.vote in_votes is seen)

pub loop-edge-preserved : goal.loop-edge-preserved
loop-edge-preserved c =
    let snapshot = c.args.snapshot.now in
    let edges = c.args.weights.now.plain.edges in
    let i = c.loop-edge.edge-index in
    let h : i < length edges = search rules in
    let in_range : (get_or edges i none).voter < length snapshot.voters = search rules in
    let member : has c.args.weights.now.plain.committee (get_or edges i none).target ≡ true = search rules in
    let in_votes : c.in-Some.vote < length (votes_of snapshot (get_or edges i none).voter) = search rules in
    let is : slice_index (votes_of snapshot (get_or edges i none).voter) c.in-Some.vote ≡ (get_or edges i none).target = search rules in
    let seen : slice_index_or c.loop-edge.is_seen ((get_or edges i none).voter * MOST_NOMINATIONS + c.in-Some.vote) false ≡ false = search rules in
    rw c.edges-edge-items.ensures
    (goes_on snapshot c.args.weights.now.plain c.loop-edge.is_seen i none h c.loop-edge.invariant in_range c.voter_count.ensures.well_formed member c.in-Some.vote in_votes is seen)
