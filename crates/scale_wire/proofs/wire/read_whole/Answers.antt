use Rattle.scale_wire.specs.WholeReading.{reads_as}
use Rattle.scale_wire.proofs.wire.read_whole.Goals as goal

pub returns-clause-function : goal.returns-clause-function
returns-clause-function g c = reads_as g.T.Wire.form g.T.Wire.laws c.args.bytes.now c.read_to_end.result c.read_to_end.ensures.bytes c.read_to_end.ensures.grammar
