use Rattle.scale_wire.specs.PartLaws.{byte_string_laws}
use Rattle.scale_wire.proofs.laws.byte_strings_keep_the_laws.Goals as goal

pub returns : goal.returns
returns c = byte_string_laws c.args.count
