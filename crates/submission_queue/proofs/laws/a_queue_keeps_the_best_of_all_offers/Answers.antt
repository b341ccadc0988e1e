use Rattle.submission_queue.proofs.LawLemmas.{best_of_all, best_of_both}
use Rattle.submission_queue.proofs.laws.a_queue_keeps_the_best_of_all_offers.Goals as goal

pub returns : goal.returns
returns c = record { empty = best_of_all; waiting = best_of_both }
