use Rattle.stake_pools.proofs.LawLemmas.{join_law, redeem_law}
use Rattle.stake_pools.proofs.DilutionLemmas.{undiluted_law}
use Rattle.stake_pools.proofs.laws.nobody_is_diluted.Goals as goal

pub returns-clause-join : goal.returns-clause-join
returns-clause-join c = join_law

pub returns-clause-redeem : goal.returns-clause-redeem
returns-clause-redeem c = redeem_law

pub returns-clause-undiluted : goal.returns-clause-undiluted
returns-clause-undiluted c = undiluted_law
