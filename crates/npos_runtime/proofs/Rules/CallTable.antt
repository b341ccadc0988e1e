-- The rule of each kind of call is lawful: a row a kind.
use Rattle.npos_base.specs.declared.account.AccountId.{AccountId}
use Rattle.std.proofs.Common.{refl}
use Rattle.block_wire.specs.declared.call.Call.{Call}
use Rattle.block_wire.specs.declared.call.CallKind.{CallKind}
use Rattle.block_wire.specs.declared.call.CallKind.TheVariants as kinds
use Rattle.npos_runtime.specs.declared.chain.Chain.{Chain}
use Rattle.npos_runtime.specs.Rules.Calls.{rule_of, rule_for}
use Rattle.npos_runtime.proofs.Rules.RuleLemmas.{IsLawful, plain_lawful}
use Rattle.npos_runtime.proofs.Rules.BookCallLemmas.{transfer_live, bond_live, bond_extra_live, unbond_live, rebond_live, withdraw_live}
use Rattle.npos_runtime.proofs.Rules.CodeLemmas.{coding}
use Rattle.npos_runtime.proofs.Rules.ListCallLemmas.{nominate_live, validate_live, chill_live, rebag_live, put_in_front_live}
use Rattle.npos_runtime.proofs.Rules.SubmitCallLemmas.{submit_lawful}
use Rattle.npos_runtime.proofs.Rules.OfficeCallLemmas.{points_lawful, payout_lawful, offence_lawful, cancel_lawful}

pub lawful : (chain : Chain) (who : AccountId) (kind : CallKind) → IsLawful chain who (rule_of chain who kind)
unfolding rule_of
lawful chain who (kinds.Transfer to value) = plain_lawful refl refl (transfer_live chain who to value) (search coding depth 9)
lawful chain who (kinds.Bond value) = plain_lawful refl refl (bond_live chain who value) (search coding depth 9)
lawful chain who (kinds.BondExtra value) = plain_lawful refl refl (bond_extra_live chain who value) (search coding depth 9)
lawful chain who (kinds.Unbond value) = plain_lawful refl refl (unbond_live chain who value) (search coding depth 9)
lawful chain who (kinds.Rebond value) = plain_lawful refl refl (rebond_live chain who value) (search coding depth 9)
lawful chain who kinds.Withdraw = plain_lawful refl refl (withdraw_live chain who) (search coding depth 9)
lawful chain who (kinds.Nominate targets) = plain_lawful refl refl (nominate_live chain who targets) (search coding depth 9)
lawful chain who (kinds.Validate commission) = plain_lawful refl refl (validate_live chain who commission) (search coding depth 9)
lawful chain who kinds.Chill = plain_lawful refl refl (chill_live chain who) (search coding depth 9)
lawful chain who (kinds.Rebag whom) = plain_lawful refl refl (rebag_live chain whom) (search coding depth 9)
lawful chain who (kinds.PutInFront lighter) = plain_lawful refl refl (put_in_front_live chain who lighter) (search coding depth 9)
lawful chain who (kinds.Submit round claim bytes) = submit_lawful chain who round claim bytes
lawful chain who (kinds.Points items) = points_lawful chain who items
lawful chain who (kinds.Payout era validator) = payout_lawful chain who era validator
lawful chain who (kinds.Offence era validator fraction) = offence_lawful chain who era validator fraction
lawful chain who (kinds.CancelSlash number) = cancel_lawful chain who number

pub lawful_call : (call : Call) (chain : Chain) → IsLawful chain call.who (rule_for chain call)
lawful_call call chain = lawful chain call.who call.kind
