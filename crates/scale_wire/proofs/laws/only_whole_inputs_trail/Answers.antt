use Rattle.scale_wire.specs.DecidedLaws.{never_trails}
use Rattle.scale_wire.proofs.laws.only_whole_inputs_trail.Goals as goal

pub returns : goal.returns
returns g c = never_trails g.T.Wire.form g.T.Wire.laws
