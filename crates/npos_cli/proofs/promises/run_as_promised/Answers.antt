use Rattle.std.proofs.Common.{◌≡◌, ℕ, List, ap, ◌∙◌, refl}
use Rattle.npos_cli.specs.Words.{job_of}
use Rattle.npos_cli.proofs.promises.run_as_promised.Goals as goal

-- the word asks for a replay, whatever name stands before it
pub returns-clause-replay : goal.returns-clause-replay
returns-clause-replay g c = λ name is. c.run.ensures.promised (ap job_of is ∙ refl)

pub returns-clause-uncut : goal.returns-clause-uncut
returns-clause-uncut g c = c.run.ensures.uncut
