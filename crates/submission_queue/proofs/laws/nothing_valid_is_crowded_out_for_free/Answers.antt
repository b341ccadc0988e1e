use Rattle.submission_queue.proofs.LawLemmas.{crowding}
use Rattle.submission_queue.proofs.laws.nothing_valid_is_crowded_out_for_free.Goals as goal

pub returns : goal.returns
returns c = crowding
