-- The thresholds below the score are those before the point of partition.
use Rattle.std.proofs.Common.{nat_lt, arith, sym, rules}
use Rattle.std.proofs.lemmas.List.Sorted.{IsPartitionPoint-from_clause, IsPartitionedBy-ltb}
use Rattle.voter_lists.proofs.ScoreLemmas.{rising_grows, count_first}
use Rattle.voter_lists.proofs.bags.number_of_score.Goals as goal

pub returns-clause-number : goal.returns-clause-number
returns-clause-number c =
    let parted = IsPartitionedBy-ltb (λ t. t) c.args.thresholds.now c.args.score (rising_grows 0 c.args.thresholds.now c.requires) in
    let point = IsPartitionPoint-from_clause (λ t. nat_lt t c.args.score) _ _ c.partition_point.ensures.partitioned parted (λ a r q k. search rules) in
    sym (count_first (λ t. nat_lt t c.args.score) c.args.thresholds.now c.partition_point.result c.partition_point.ensures.bound
    (λ k d lt. point.0 k d (omega arith) lt) (λ k d le lt. point.1 k d le lt))
