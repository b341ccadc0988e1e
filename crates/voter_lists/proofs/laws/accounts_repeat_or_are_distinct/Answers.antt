use Rattle.voter_lists.proofs.RepeatLemmas.{distinct_from, distinct_to}
use Rattle.voter_lists.proofs.laws.accounts_repeat_or_are_distinct.Goals as goal

pub returns : goal.returns
returns c accounts = (distinct_from accounts, distinct_to accounts)
