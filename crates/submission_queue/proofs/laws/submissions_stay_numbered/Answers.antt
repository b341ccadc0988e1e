use Rattle.submission_queue.proofs.NumberLemmas.{numbers_law}
use Rattle.submission_queue.proofs.laws.submissions_stay_numbered.Goals as goal

pub returns : goal.returns
returns c = numbers_law
