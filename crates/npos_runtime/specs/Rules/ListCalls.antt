-- The calls that change roles and bags: who nominates, who validates, and where each stands.
use Rattle.std.specs.Prelude.{ℕ, List, Option, Some, None, option_map, nat_lt, not, if◌then◌else◌}
use Rattle.std.specs.Option.{option_or}
use Rattle.npos_base.specs.declared.account.AccountId.{AccountId}
use Rattle.stake_ledger.specs.declared.refusal.LedgerRefusal.{LedgerRefusal}
use Rattle.stake_ledger.specs.declared.refusal.LedgerRefusal.TheVariants.{NotBonded, BelowMinimum}
use Rattle.stake_ledger.specs.Rows.{is_bonded}
use Rattle.stake_ledger.specs.Ledger.{row_at}
use Rattle.voter_lists.specs.Roles.{role_of, nominate_refusal, nominated, validate_refusal, validating, chill_refusal, without_role}
use Rattle.voter_lists.specs.Bags.{removed, moved, rebag_refusal, put_in_front, put_in_front_refusal}
use Rattle.npos_runtime.specs.declared.chain.Chain.{Chain}
use Rattle.block_receipts.specs.declared.refusal.Refusal.TheVariants.{Ledger as ByLedger, List as ByList}
use Rattle.chain_params.specs.Rules.{least_bond_of}
use Rattle.npos_runtime.specs.Rules.Ballots.{active_of}
use Rattle.npos_runtime.specs.Rules.Lists.{is_nominator_role, is_validator_role, placed}
use Rattle.npos_runtime.specs.Rules.CallRule.{CallRule, plain}

-- an account takes a role with at least the least bond active
abbrev pub role_refusal : Chain → AccountId → Option LedgerRefusal
role_refusal chain who =
    if not (is_bonded (row_at chain.book who)) then Some NotBonded
    else if nat_lt (active_of chain who) (least_bond_of chain.params) then Some BelowMinimum
    else None

abbrev pub nominate_rule : Chain → AccountId → List AccountId → CallRule
nominate_rule chain who targets =
    plain (option_or (option_map ByLedger (role_refusal chain who))
    (option_map ByList (nominate_refusal chain.roles who targets)))
    (record chain {
      roles = nominated chain.roles who targets;
      bags = placed (is_nominator_role (role_of chain.roles who)) chain.bags who (active_of chain who);
    })

abbrev pub validate_rule : Chain → AccountId → ℕ → CallRule
validate_rule chain who commission =
    plain (option_or (option_map ByLedger (role_refusal chain who))
    (option_map ByList (validate_refusal chain.roles who commission)))
    (record chain {
      roles = validating chain.roles who commission;
      bags = placed (is_validator_role (role_of chain.roles who)) chain.bags who (active_of chain who);
    })

abbrev pub chill_rule : Chain → AccountId → CallRule
chill_rule chain who =
    plain (option_map ByList (chill_refusal chain.roles who))
    (record chain { roles = without_role chain.roles who; bags = removed chain.bags who })

-- anyone may put any account into the bag of its active stake
abbrev pub rebag_rule : Chain → AccountId → CallRule
rebag_rule chain whom =
    plain (option_map ByList (rebag_refusal chain.bags whom (active_of chain whom)))
    (record chain { bags = moved chain.bags whom (active_of chain whom) })

abbrev pub put_in_front_rule : Chain → AccountId → AccountId → CallRule
put_in_front_rule chain who lighter =
    plain (option_map ByList
    (put_in_front_refusal chain.bags who (active_of chain who) lighter (active_of chain lighter)))
    (record chain { bags = put_in_front chain.bags who lighter })
