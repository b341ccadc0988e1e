use Rattle.block_wire.proofs.genesis.write_genesis.Goals as goal

pub write_listed-requires : goal.write_listed-requires
write_listed-requires c = (rw c.in-Plain.is at c.requires).1

pub returns-in-Plain : goal.returns-in-Plain
returns-in-Plain c = rw c.in-Plain.is c.write_listed.ensures

pub write_full-requires : goal.write_full-requires
write_full-requires c = rw c.in-Full.is at c.requires

pub returns-in-Full : goal.returns-in-Full
returns-in-Full c = rw c.in-Full.is c.write_full.ensures

pub write_deferred-requires : goal.write_deferred-requires
write_deferred-requires c = rw c.in-Deferred.is at c.requires

pub returns-in-Deferred : goal.returns-in-Deferred
returns-in-Deferred c = rw c.in-Deferred.is c.write_deferred.ensures
