-- The calls that move what an account owns: transfers, and what is bonded, unbonded and withdrawn.
use Rattle.std.specs.Prelude.{ℕ, ◌+◌, option_map, if◌then◌else◌}
use Rattle.npos_base.specs.declared.account.AccountId.{AccountId}
use Rattle.stake_ledger.specs.Rows.{activated, unbonded, rebonded, withdrawn}
use Rattle.stake_ledger.specs.Ledger.{row_at, changed}
use Rattle.stake_ledger.specs.Calls.{transfer_refusal, transferred, bond_refusal, bond_extra_refusal, unbond_refusal, unbond_amount, rebond_refusal, rebond_amount, withdraw_refusal}
use Rattle.npos_runtime.specs.declared.chain.Chain.{Chain}
use Rattle.block_receipts.specs.declared.refusal.Refusal.TheVariants.{Ledger as ByLedger}
use Rattle.chain_params.specs.Rules.{bonding_eras_of, least_bond_of, era_of}
use Rattle.npos_runtime.specs.Rules.Lists.{has_role, with_stake, retired}
use Rattle.npos_runtime.specs.Rules.CallRule.{CallRule, plain}

-- the era of the block that is due
abbrev pub era_now : Chain → ℕ
era_now chain = era_of chain.params chain.due

-- the release of what is unbonded now
abbrev pub release_now : Chain → ℕ
release_now chain = era_now chain + bonding_eras_of chain.params

abbrev pub transfer_rule : Chain → AccountId → AccountId → ℕ → CallRule
transfer_rule chain who to value =
    plain (option_map ByLedger (transfer_refusal chain.book who to value))
    (record chain { book = transferred who to value chain.book })

abbrev pub bond_rule : Chain → AccountId → ℕ → CallRule
bond_rule chain who value =
    plain (option_map ByLedger (bond_refusal (row_at chain.book who) value (least_bond_of chain.params)))
    (record chain { book = changed who (activated value) chain.book })

abbrev pub bond_extra_rule : Chain → AccountId → ℕ → CallRule
bond_extra_rule chain who value =
    plain (option_map ByLedger (bond_extra_refusal (row_at chain.book who) value))
    (with_stake chain who (changed who (activated value) chain.book))

-- what has to stay active: the least bond, for an account with a role
abbrev pub least_active : Chain → AccountId → ℕ
least_active chain who = if has_role chain.roles who then least_bond_of chain.params else 0

abbrev pub unbond_rule : Chain → AccountId → ℕ → CallRule
unbond_rule chain who value =
    plain (option_map ByLedger
    (unbond_refusal (row_at chain.book who) value (release_now chain) (least_active chain who)))
    (with_stake chain who (changed who
    (unbonded (unbond_amount (row_at chain.book who) value) (release_now chain)) chain.book))

abbrev pub rebond_rule : Chain → AccountId → ℕ → CallRule
rebond_rule chain who value =
    plain (option_map ByLedger (rebond_refusal (row_at chain.book who) value))
    (with_stake chain who (changed who (rebonded (rebond_amount (row_at chain.book who) value)) chain.book))

-- who has nothing bonded any more loses its role
abbrev pub withdraw_rule : Chain → AccountId → CallRule
withdraw_rule chain who =
    plain (option_map ByLedger (withdraw_refusal (row_at chain.book who)))
    (retired who (record chain { book = changed who (withdrawn (era_now chain)) chain.book }))
