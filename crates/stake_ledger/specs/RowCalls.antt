-- The calls that change one row, in one table: when each refuses, which amount it moves and
-- answers, what it makes of the row, and what of the books. Each refuses an account that has
-- nothing.
use Rattle.std.specs.Prelude.{◌≡◌, ℕ, ◌+◌, ◌≤◌, Option, Result, OnErr, OnOk, IfErr, IfOk, None, Some, All}
use Rattle.npos_base.specs.declared.account.AccountId.{AccountId}
use Rattle.stake_ledger.specs.declared.refusal.LedgerRefusal.{LedgerRefusal}
use Rattle.stake_ledger.specs.declared.row.Row.{Row}
use Rattle.stake_ledger.specs.declared.call.RowCall.{RowCall}
use Rattle.stake_ledger.specs.declared.call.RowCall.TheVariants.{Bond, BondExtra, Unbond, Rebond, Withdraw, Hold, Return, Burn}
use Rattle.stake_ledger.specs.declared.parts.Done.{Done}
use Rattle.stake_ledger.specs.Parts.{parts_of}
use Rattle.stake_ledger.specs.Rows.{activated, unbonded, rebonded, withdrawn, deposited, returned, forfeited}
use Rattle.stake_ledger.specs.Ledger.{Ledger, changed}
use Rattle.stake_ledger.specs.Owed.{IsDue}
use Rattle.stake_ledger.specs.Calls.{bond_refusal, bond_extra_refusal, unbond_refusal, unbond_amount, rebond_refusal, rebond_amount, withdraw_refusal, withdraw_amount, deposit_refusal, held_refusal}

abbrev pub row_refusal : RowCall → Row → Option LedgerRefusal
row_refusal (Bond value minimum) row = bond_refusal row value minimum
row_refusal (BondExtra value) row = bond_extra_refusal row value
row_refusal (Unbond value release least) row = unbond_refusal row value release least
row_refusal (Rebond value) row = rebond_refusal row value
row_refusal (Withdraw era) row = withdraw_refusal row
row_refusal (Hold value) row = deposit_refusal row value
row_refusal (Return value) row = held_refusal row value
row_refusal (Burn value) row = held_refusal row value

-- only an unbond may want memory, for a chunk
abbrev pub MayAnswer : RowCall → Option LedgerRefusal → LedgerRefusal → Type 0
MayAnswer (Unbond value release least) due refusal = IsDue due refusal
MayAnswer call due refusal = due ≡ Some refusal

abbrev pub row_amount : RowCall → Row → ℕ
row_amount (Bond value minimum) row = value
row_amount (BondExtra value) row = value
row_amount (Unbond value release least) row = unbond_amount row value
row_amount (Rebond value) row = rebond_amount row value
row_amount (Withdraw era) row = withdraw_amount row era
row_amount (Hold value) row = value
row_amount (Return value) row = value
row_amount (Burn value) row = value

abbrev pub row_after : RowCall → Row → Row
row_after (Bond value minimum) row = activated value row
row_after (BondExtra value) row = activated value row
row_after (Unbond value release least) row = unbonded (unbond_amount row value) release row
row_after (Rebond value) row = rebonded (rebond_amount row value) row
row_after (Withdraw era) row = withdrawn era row
row_after (Hold value) row = deposited value row
row_after (Return value) row = returned value row
row_after (Burn value) row = forfeited value row

-- no chunk is released later than what an unbond puts last
abbrev pub IsTimely : RowCall → Row → Type 0
IsTimely (Unbond value release least) row = All (λ chunk. chunk.release ≤ release) row.chunks
IsTimely call row = Unit {0}

-- what the call takes from all accounts together, of the amount that it moves
abbrev pub burned_of : RowCall → ℕ → ℕ
burned_of (Burn value) amount = amount
burned_of call amount = 0

abbrev pub burned_by : RowCall → Row → ℕ
burned_by call row = burned_of call (row_amount call row)

abbrev pub called : AccountId → RowCall → Ledger → Ledger
called who (Burn value) ledger =
    record (changed who (forfeited value) ledger) { burned = ledger.burned + value }
called who call ledger = changed who (row_after call) ledger

-- what a call on a row answers and leaves
pub record Answers (call : RowCall) (row new : Row) (result : Result ℕ LedgerRefusal) : Type 0 where
  pub ok : OnOk result ((row_refusal call row ≡ None) × (new ≡ row_after call row))
  pub amount : IfOk result (λ amount. amount ≡ row_amount call row)
  pub err : OnErr result (new ≡ row)
  pub refused : IfErr result (MayAnswer call (row_refusal call row))

abbrev pub done_of : RowCall → Row → Done
done_of call row = record {
  amount = row_amount call row;
  before = parts_of row;
  after = parts_of (row_after call row);
}
