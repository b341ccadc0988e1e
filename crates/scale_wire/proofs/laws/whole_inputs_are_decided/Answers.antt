use Rattle.scale_wire.specs.DecidedLaws.{decided_whole}
use Rattle.scale_wire.proofs.laws.whole_inputs_are_decided.Goals as goal

pub returns : goal.returns
returns g c = decided_whole g.T.Wire.form g.T.Wire.laws
