-- When each call refuses, by the first reason that applies, and what it makes of the books.
use Rattle.std.specs.Prelude.{ℕ, ◌+◌, ◌-◌, min, Option, Some, None, nat_lt, ◌==◌, not, if◌then◌else◌}
use Rattle.npos_base.specs.declared.account.AccountId.{AccountId}
use Rattle.npos_base.specs.Account.{same_account}
use Rattle.stake_ledger.specs.declared.refusal.LedgerRefusal.{LedgerRefusal}
use Rattle.stake_ledger.specs.declared.refusal.LedgerRefusal.TheVariants.{LowFunds, NotBonded, AlreadyBonded, BelowMinimum, NoChunk, ZeroValue, SameAccount, IssuanceCap}
use Rattle.stake_ledger.specs.declared.row.Row.{Row}
use Rattle.stake_ledger.specs.Chunks.{chunk_sum, chunk_refusal, is_empty, released}
use Rattle.stake_ledger.specs.Rows.{is_bonded, gained, paid, deposited, returned, forfeited, slashed_row}
use Rattle.stake_ledger.specs.Ledger.{Ledger, row_at, changed, issuance_cap}

abbrev pub endow_refusal : Ledger → ℕ → Option LedgerRefusal
endow_refusal ledger value =
    if nat_lt issuance_cap (ledger.genesis + value) then Some IssuanceCap else None

-- an endowment opens the account's row, and counts as genesis
abbrev pub endowed : AccountId → ℕ → Ledger → Ledger
endowed who value ledger =
    record (changed who (gained value) ledger) { genesis = ledger.genesis + value }

abbrev pub transfer_refusal : Ledger → AccountId → AccountId → ℕ → Option LedgerRefusal
transfer_refusal ledger from to value =
    if value == 0 then Some ZeroValue
    else if same_account from to then Some SameAccount
    else if nat_lt (row_at ledger from).free value then Some LowFunds
    else None

abbrev pub transferred : AccountId → AccountId → ℕ → Ledger → Ledger
transferred from to value ledger = changed to (gained value) (changed from (paid value) ledger)

abbrev pub bond_refusal : Row → ℕ → ℕ → Option LedgerRefusal
bond_refusal row value minimum =
    if value == 0 then Some ZeroValue
    else if is_bonded row then Some AlreadyBonded
    else if nat_lt value minimum then Some BelowMinimum
    else if nat_lt row.free value then Some LowFunds
    else None

abbrev pub bond_extra_refusal : Row → ℕ → Option LedgerRefusal
bond_extra_refusal row value =
    if value == 0 then Some ZeroValue
    else if not (is_bonded row) then Some NotBonded
    else if nat_lt row.free value then Some LowFunds
    else None

-- what an unbond takes from active
abbrev pub unbond_amount : Row → ℕ → ℕ
unbond_amount row value = min value row.active

abbrev pub unbond_refusal : Row → ℕ → ℕ → ℕ → Option LedgerRefusal
unbond_refusal row value release least =
    if value == 0 then Some ZeroValue
    else if not (is_bonded row) then Some NotBonded
    else if row.active == 0 then Some LowFunds
    else if nat_lt (row.active - unbond_amount row value) least then Some BelowMinimum
    else chunk_refusal (unbond_amount row value) release row.chunks

-- what a rebond takes from the chunks
abbrev pub rebond_amount : Row → ℕ → ℕ
rebond_amount row value = min value (chunk_sum row.chunks)

abbrev pub rebond_refusal : Row → ℕ → Option LedgerRefusal
rebond_refusal row value =
    if value == 0 then Some ZeroValue
    else if not (is_bonded row) then Some NotBonded
    else if is_empty row.chunks then Some NoChunk
    else None

-- what a withdrawal frees
abbrev pub withdraw_amount : Row → ℕ → ℕ
withdraw_amount row era = chunk_sum (released era row.chunks)

abbrev pub withdraw_refusal : Row → Option LedgerRefusal
withdraw_refusal row = if not (is_bonded row) then Some NotBonded else None

abbrev pub hold_refusal : Row → ℕ → Option LedgerRefusal
hold_refusal row value = if nat_lt row.free value then Some LowFunds else None

-- a deposit opens the account's row, also a deposit of 0
abbrev pub deposit_held : AccountId → ℕ → Ledger → Ledger
deposit_held who value ledger = changed who (deposited value) ledger

-- a deposit of 0 leaves the books as they are when it is returned or burned
abbrev pub deposit_returned : AccountId → ℕ → Ledger → Ledger
deposit_returned who value ledger =
    if value == 0 then ledger else changed who (returned value) ledger

abbrev pub deposit_burned : AccountId → ℕ → Ledger → Ledger
deposit_burned who value ledger =
    if value == 0 then ledger
    else record (changed who (forfeited value) ledger) { burned = ledger.burned + value }

-- what may still be minted
abbrev pub room_of : Ledger → ℕ
room_of ledger = issuance_cap - (ledger.genesis + ledger.minted)

abbrev pub mint_refusal : Ledger → ℕ → Option LedgerRefusal
mint_refusal ledger value = if nat_lt (room_of ledger) value then Some IssuanceCap else None

abbrev pub minted_free : AccountId → ℕ → Ledger → Ledger
minted_free who value ledger =
    record (changed who (gained value) ledger) { minted = ledger.minted + value }

-- what a slash takes
abbrev pub slash_amount : Row → ℕ → ℕ
slash_amount row amount = min amount (row.active + chunk_sum row.chunks)

-- where nothing is bonded, a slash leaves the books as they are
abbrev pub slashed : AccountId → ℕ → Ledger → Ledger
slashed who amount ledger =
    if not (is_bonded (row_at ledger who)) then ledger
    else record (changed who (slashed_row amount) ledger) {
      burned = ledger.burned + slash_amount (row_at ledger who) amount;
    }

-- why a deposit that is not 0 would not be made
abbrev pub deposit_refusal : Row → ℕ → Option LedgerRefusal
deposit_refusal row value = if value == 0 then Some ZeroValue else hold_refusal row value

abbrev pub held_refusal : Row → ℕ → Option LedgerRefusal
held_refusal row value =
    if value == 0 then Some ZeroValue else if nat_lt row.held value then Some LowFunds else None
