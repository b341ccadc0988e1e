use Rattle.scale_wire.specs.CompactLaws.{length_laws}
use Rattle.scale_wire.proofs.laws.lengths_keep_the_laws.Goals as goal

pub returns : goal.returns
returns c = length_laws c.args.limit c.ranges.limit.fits
