use Rattle.block_wire.proofs.bundle.write_work.Goals as goal

pub returns-in-Nothing : goal.returns-in-Nothing
returns-in-Nothing c = rw c.in-Nothing.is c.write_fields.ensures

pub write_packed-requires : goal.write_packed-requires
write_packed-requires c = (rw c.in-Packed.is at c.requires).0

pub returns-in-Packed : goal.returns-in-Packed
returns-in-Packed c = rw c.in-Packed.is c.write_packed.ensures

pub write_plain-requires : goal.write_plain-requires
write_plain-requires c = rw c.in-Plain.is at c.requires

pub returns-in-Plain : goal.returns-in-Plain
returns-in-Plain c = rw c.in-Plain.is c.write_plain.ensures
