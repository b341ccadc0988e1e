use Rattle.scale_wire.specs.DecidedLaws.{persist}
use Rattle.scale_wire.proofs.laws.faults_persist.Goals as goal

pub returns : goal.returns
returns g c = persist g.T.Wire.form g.T.Wire.laws
