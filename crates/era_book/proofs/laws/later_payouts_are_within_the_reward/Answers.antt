use Rattle.era_book.proofs.LawLemmas.{reward_on_law}
use Rattle.era_book.proofs.laws.later_payouts_are_within_the_reward.Goals as goal

pub returns : goal.returns
returns c = reward_on_law
