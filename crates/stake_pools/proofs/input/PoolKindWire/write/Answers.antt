use Rattle.stake_pools.proofs.input.PoolKindWire.write.Goals as goal

pub write_fields-requires : goal.write_fields-requires
write_fields-requires c = rw c.in-Join.is at c.requires

pub returns-in-Join : goal.returns-in-Join
returns-in-Join c = rw c.in-Join.is c.write_fields.ensures

pub write_fields-requires-in-Leave : goal.write_fields-requires-in-Leave
write_fields-requires-in-Leave c = rw c.in-Leave.is at c.requires

pub returns-in-Leave : goal.returns-in-Leave
returns-in-Leave c = rw c.in-Leave.is c.write_fields-in-Leave.ensures

pub returns-in-Redeem : goal.returns-in-Redeem
returns-in-Redeem c = rw c.in-Redeem.is c.write_fields-in-Redeem.ensures

pub write_fields-requires-in-Reward : goal.write_fields-requires-in-Reward
write_fields-requires-in-Reward c = rw c.in-Reward.is at c.requires

pub returns-in-Reward : goal.returns-in-Reward
returns-in-Reward c = rw c.in-Reward.is c.write_fields-in-Reward.ensures

pub returns-in-Claim : goal.returns-in-Claim
returns-in-Claim c = rw c.in-Claim.is c.write_fields-in-Claim.ensures

pub write_fields-requires-in-Slash : goal.write_fields-requires-in-Slash
write_fields-requires-in-Slash c = rw c.in-Slash.is at c.requires

pub returns-in-Slash : goal.returns-in-Slash
returns-in-Slash c = rw c.in-Slash.is c.write_fields-in-Slash.ensures

pub returns-in-NextEra : goal.returns-in-NextEra
returns-in-NextEra c = rw c.in-NextEra.is c.write_fields-in-NextEra.ensures
