use Rattle.scale_wire.specs.PartLaws.{tag_laws}
use Rattle.scale_wire.specs.RunLaws.{run_laws}
use Rattle.scale_wire.proofs.laws.runs_keep_the_laws.Goals as goal

pub returns : goal.returns
returns g c = run_laws g.T.Wire.form g.T.Wire.laws (tag_laws 2)
