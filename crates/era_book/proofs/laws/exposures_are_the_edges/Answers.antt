use Rattle.era_book.proofs.CommitteeLemmas.{support_law, spent_law}
use Rattle.era_book.proofs.BackerLemmas.{backers_law}
use Rattle.era_book.proofs.SoundLemmas.{sound_law, order_law}
use Rattle.era_book.proofs.laws.exposures_are_the_edges.Goals as goal

pub returns-clause-support : goal.returns-clause-support
returns-clause-support c = support_law

pub returns-clause-spent : goal.returns-clause-spent
returns-clause-spent c = spent_law

pub returns-clause-distinct : goal.returns-clause-distinct
returns-clause-distinct c = backers_law

pub returns-clause-sound : goal.returns-clause-sound
returns-clause-sound c = sound_law

pub returns-clause-order : goal.returns-clause-order
returns-clause-order c = order_law
