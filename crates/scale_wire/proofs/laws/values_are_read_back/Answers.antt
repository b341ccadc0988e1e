use Rattle.scale_wire.specs.DecidedLaws.{read_back}
use Rattle.scale_wire.proofs.laws.values_are_read_back.Goals as goal

pub returns : goal.returns
returns g c = read_back g.T.Wire.form g.T.Wire.laws
