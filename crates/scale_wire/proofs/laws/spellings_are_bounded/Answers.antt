use Rattle.scale_wire.specs.DecidedLaws.{bounds}
use Rattle.scale_wire.proofs.laws.spellings_are_bounded.Goals as goal

pub returns : goal.returns
returns g c = bounds g.T.Wire.form g.T.Wire.laws
