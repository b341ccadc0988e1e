use Rattle.scale_wire.specs.PartLaws.{tag_laws}
use Rattle.scale_wire.specs.FormLaws.{optional_laws}
use Rattle.block_wire.specs.Calls.{block_form}
use Rattle.block_wire.specs.CallLaws.{block_laws}
use Rattle.block_wire.proofs.laws.an_option_of_a_block_is_bounded.Goals as goal

pub returns-clause-keeps : goal.returns-clause-keeps
returns-clause-keeps c = optional_laws block_form block_laws (tag_laws 2)
