-- The table of calls: a rule a kind.
use Rattle.std.specs.Prelude.{List, Option}
use Rattle.npos_base.specs.declared.account.AccountId.{AccountId}
use Rattle.block_wire.specs.declared.call.Call.{Call}
use Rattle.block_wire.specs.declared.call.CallKind.{CallKind}
use Rattle.block_wire.specs.declared.call.CallKind.TheVariants as kinds
use Rattle.block_receipts.specs.declared.line.Line.{Line}
use Rattle.block_receipts.specs.declared.refusal.Refusal.{Refusal}
use Rattle.npos_runtime.specs.declared.chain.Chain.{Chain}
use Rattle.npos_runtime.specs.Rules.CallRule.{CallRule}
use Rattle.npos_runtime.specs.Rules.BookCalls.{transfer_rule, bond_rule, bond_extra_rule, unbond_rule, rebond_rule, withdraw_rule}
use Rattle.npos_runtime.specs.Rules.ListCalls.{nominate_rule, validate_rule, chill_rule, rebag_rule, put_in_front_rule}
use Rattle.npos_runtime.specs.Rules.Signed.{submit_rule}
use Rattle.npos_runtime.specs.Rules.Offices.{points_rule, payout_rule, offence_rule, cancel_rule}

unfoldable pub rule_of : Chain → AccountId → CallKind → CallRule
rule_of chain who (kinds.Transfer to value) = transfer_rule chain who to value
rule_of chain who (kinds.Bond value) = bond_rule chain who value
rule_of chain who (kinds.BondExtra value) = bond_extra_rule chain who value
rule_of chain who (kinds.Unbond value) = unbond_rule chain who value
rule_of chain who (kinds.Rebond value) = rebond_rule chain who value
rule_of chain who kinds.Withdraw = withdraw_rule chain who
rule_of chain who (kinds.Nominate targets) = nominate_rule chain who targets
rule_of chain who (kinds.Validate commission) = validate_rule chain who commission
rule_of chain who kinds.Chill = chill_rule chain who
rule_of chain who (kinds.Rebag whom) = rebag_rule chain whom
rule_of chain who (kinds.PutInFront lighter) = put_in_front_rule chain who lighter
rule_of chain who (kinds.Submit round claim bytes) = submit_rule chain who round claim bytes
rule_of chain who (kinds.Points items) = points_rule chain who items
rule_of chain who (kinds.Payout era validator) = payout_rule chain era validator
rule_of chain who (kinds.Offence era validator fraction) = offence_rule chain who era validator fraction
rule_of chain who (kinds.CancelSlash number) = cancel_rule chain who number

abbrev pub rule_for : Chain → Call → CallRule
rule_for chain call = rule_of chain call.who call.kind

-- the first refusal of a call, what it makes of the chain where there is none, and what it tells then
abbrev pub refusal_of : Chain → AccountId → CallKind → Option Refusal
refusal_of chain who kind = (rule_of chain who kind).refusal

abbrev pub done_of : Chain → AccountId → CallKind → Chain
done_of chain who kind = (rule_of chain who kind).done

abbrev pub told_of : Chain → AccountId → CallKind → List Line
told_of chain who kind = (rule_of chain who kind).told
