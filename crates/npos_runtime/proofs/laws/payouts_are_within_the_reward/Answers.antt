use Rattle.npos_runtime.proofs.Histories.EraLawLemmas.{payout_law, rewards_law}
use Rattle.npos_runtime.proofs.laws.payouts_are_within_the_reward.Goals as goal

pub returns-clause-each : goal.returns-clause-each
returns-clause-each c = payout_law

pub returns-clause-together : goal.returns-clause-together
returns-clause-together c = rewards_law
