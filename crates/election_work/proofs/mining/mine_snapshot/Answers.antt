use Rattle.std.proofs.Common.{sym, ◌∙◌}
use Rattle.election_work.specs.Mining.{outcome_of}
use Rattle.election_work.proofs.MinedLaws.{mined_feasible, packed_gives}
use Rattle.election_work.proofs.MiningLaws.{packed_members, plain_members, fill_passes_as}
use Rattle.election_work.proofs.mining.mine_snapshot.Goals as goal

pub mine_packed-requires-clause-feasible : goal.mine_packed-requires-clause-feasible
mine_packed-requires-clause-feasible c =
    mined_feasible c.args.miner c.args.snapshot c.in_ok-weights.weights.plain c.every_snapshot_is_well_formed.ensures c.in_ok-weights.ensures

pub mine_packed-requires-clause-above : goal.mine_packed-requires-clause-above
mine_packed-requires-clause-above c =
    (packed_gives c.args.miner (sym c.is_packed.ensures ∙ c.if-is_packed.true) c.args.snapshot c.in_ok-weights.weights.plain c.every_snapshot_is_well_formed.ensures c.in_ok-weights.ensures).above

pub returns-then-is_packed-clause-members : goal.returns-then-is_packed-clause-members
returns-then-is_packed-clause-members c = packed_members c.args.snapshot c.in_ok-weights.weights.plain c.mine_packed.result c.mine_packed.ensures

pub mine_plain-requires : goal.mine_plain-requires
mine_plain-requires c = mined_feasible c.args.miner c.args.snapshot c.in_ok-weights.weights.plain c.every_snapshot_is_well_formed.ensures c.in_ok-weights.ensures

pub returns-clause-members : goal.returns-clause-members
returns-clause-members c = plain_members c.args.snapshot c.in_ok-weights.weights.plain (outcome_of c.in_ok-mined.mined) c.in_ok-mined.ensures

pub returns-clause-passes : goal.returns-clause-passes
returns-clause-passes c =
    fill_passes_as c.args.miner c.args.snapshot c.in_ok-weights.weights.plain (outcome_of c.in_ok-mined.mined) c.every_snapshot_is_well_formed.ensures c.in_ok-weights.ensures c.in_ok-mined.ensures
