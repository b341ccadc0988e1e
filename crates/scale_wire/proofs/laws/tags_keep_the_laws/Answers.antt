use Rattle.scale_wire.specs.PartLaws.{tag_laws}
use Rattle.scale_wire.proofs.laws.tags_keep_the_laws.Goals as goal

pub returns : goal.returns
returns c = tag_laws c.args.below
