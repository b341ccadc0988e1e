use Rattle.std.proofs.Common.{rules}
use Rattle.election_check.proofs.SpendLemmas.{spent_over, spent_within}
use Rattle.election_check.proofs.plain.check_spending.Goals as goal

pub returns-then-lowest-voter_count : goal.returns-then-lowest-voter_count
returns-then-lowest-voter_count c = spent_over c.args.snapshot.now c.args.edges.now c.loop-edge.edge-index c.loop-edge.lowest c.loop-edge.left c.loop-edge.invariant
    (search rules) (search rules)

pub returns-else-lowest-voter_count : goal.returns-else-lowest-voter_count
returns-else-lowest-voter_count c = spent_within c.args.snapshot.now c.args.edges.now c.loop-edge.edge-index c.loop-edge.lowest c.loop-edge.left c.loop-edge.invariant
    (search rules) (search rules)
