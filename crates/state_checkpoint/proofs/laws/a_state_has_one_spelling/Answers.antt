use Rattle.scale_wire.specs.DecidedLaws.{read_back, decided}
use Rattle.state_checkpoint.specs.Layout.{state_form}
use Rattle.state_checkpoint.specs.LayoutLaws.{state_laws}
use Rattle.state_checkpoint.proofs.laws.a_state_has_one_spelling.Goals as goal

pub returns-clause-keeps : goal.returns-clause-keeps
returns-clause-keeps c = state_laws

pub returns-clause-back : goal.returns-clause-back
returns-clause-back c = read_back state_form state_laws

pub returns-clause-decided : goal.returns-clause-decided
returns-clause-decided c = decided state_form state_laws
