use Rattle.stake_ledger.proofs.KeepLemmas.{kept_nothing}
use Rattle.stake_ledger.proofs.book.Book.new.Goals as goal

pub invariant_of-result : goal.invariant_of-result
invariant_of-result c = rw c.new.ensures kept_nothing
