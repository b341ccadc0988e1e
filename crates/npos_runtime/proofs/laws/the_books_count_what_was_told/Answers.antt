use Rattle.npos_runtime.proofs.Histories.SumLawLemmas.{sums_law, sums_on}
use Rattle.npos_runtime.proofs.laws.the_books_count_what_was_told.Goals as goal

pub returns-clause-genesis : goal.returns-clause-genesis
returns-clause-genesis c = sums_law

pub returns-clause-further : goal.returns-clause-further
returns-clause-further c = sums_on
