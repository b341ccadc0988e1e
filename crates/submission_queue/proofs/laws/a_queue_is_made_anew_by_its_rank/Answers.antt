use Rattle.submission_queue.proofs.LawLemmas.{offers_append, offers_restore}
use Rattle.submission_queue.proofs.laws.a_queue_is_made_anew_by_its_rank.Goals as goal

pub returns : goal.returns
returns c = record { appends = offers_append; restores = offers_restore }
