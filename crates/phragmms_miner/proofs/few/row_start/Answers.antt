use Rattle.std.proofs.Common.{rules, arith, nat_lt, ◌-◌, ◌<◌, length, get_or, ap}
use Rattle.std.proofs.lemmas.Bool.{ltb-true, ltb-false}
use Rattle.std.proofs.lemmas.List.{get_or_default}
use Rattle.std.proofs.lemmas.List.Sorted.{IsPartitionPoint-from_clause, IsPartitionedBy-ltb}
use Rattle.npos_base.specs.declared.figures.Edge.{Edge}
use Rattle.phragmms_miner.proofs.few.row_start.Goals as goal

abbrev none : Edge
none = record { voter = 0; target = 0; amount = 0 }

pub returns-then-voter-edges-clause-before : goal.returns-then-voter-edges-clause-before
returns-then-voter-edges-clause-before c k d l h =
    let edges = c.args.edges.now in
    let last = c.args.guess - 1 in
    let there : last < length edges = omega (arith, c.if-at-gt0.true, c.if-at-edges.true) in
    omega (arith, c.requires k last d (omega (arith, l)) there, c.if-edges-at.true, ap (λ (x : Edge). x.voter) (get_or_default edges last d none there))

pub returns-then-voter-edges-clause-behind : goal.returns-then-voter-edges-clause-behind
returns-then-voter-edges-clause-behind c k d l h =
    let edges = c.args.edges.now in
    omega (
      arith,
      c.requires c.args.guess k d l h,
      c.if-voter-edges.true,
      ap (λ (x : Edge). x.voter) (get_or_default edges c.args.guess d none c.if-at-edges.true),
    )

pub returns-clause-before : goal.returns-clause-before
returns-clause-before c k d l h =
    let edges = c.args.edges.now in
    let voter = c.args.voter in
    let parted = IsPartitionedBy-ltb (λ (e : Edge). e.voter) edges voter c.requires in
    let point = IsPartitionPoint-from_clause (λ (e : Edge). nat_lt e.voter voter) _ _ c.partition_point.ensures.partitioned parted (λ a r q k. search rules) in
    ltb-true (get_or edges k d).voter voter (point.0 k d (omega arith) l)

pub returns-clause-behind : goal.returns-clause-behind
returns-clause-behind c k d l h =
    let edges = c.args.edges.now in
    let voter = c.args.voter in
    let parted = IsPartitionedBy-ltb (λ (e : Edge). e.voter) edges voter c.requires in
    let point = IsPartitionPoint-from_clause (λ (e : Edge). nat_lt e.voter voter) _ _ c.partition_point.ensures.partitioned parted (λ a r q k. search rules) in
    ltb-false (get_or edges k d).voter voter (point.1 k d l h)
