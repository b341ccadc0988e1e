use Rattle.scale_wire.specs.PartLaws.{fixed_laws}
use Rattle.scale_wire.proofs.laws.fixed_numbers_keep_the_laws.Goals as goal

pub returns : goal.returns
returns c = record { one = fixed_laws 1; four = fixed_laws 4; sixteen = fixed_laws 16 }
