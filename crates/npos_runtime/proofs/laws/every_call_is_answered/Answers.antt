use Rattle.npos_runtime.proofs.Histories.AnswerLemmas.{answers_law}
use Rattle.npos_runtime.proofs.laws.every_call_is_answered.Goals as goal

pub returns : goal.returns
returns c = answers_law
