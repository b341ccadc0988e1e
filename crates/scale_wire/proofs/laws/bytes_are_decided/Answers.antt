use Rattle.scale_wire.specs.DecidedLaws.{decided}
use Rattle.scale_wire.proofs.laws.bytes_are_decided.Goals as goal

pub returns : goal.returns
returns g c = decided g.T.Wire.form g.T.Wire.laws
