use Rattle.scale_wire.specs.CompactSpellingLaws.{least_bytes_is}
use Rattle.scale_wire.proofs.laws.value_bytes_are_the_fewest.Goals as goal

pub returns : goal.returns
returns c = least_bytes_is c.args.number c.ranges.number.fits
