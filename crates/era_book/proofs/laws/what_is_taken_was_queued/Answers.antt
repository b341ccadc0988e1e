use Rattle.era_book.proofs.DeferredLemmas.{waiting_law}
use Rattle.era_book.proofs.laws.what_is_taken_was_queued.Goals as goal

pub returns : goal.returns
returns c = waiting_law
