-- How the code finds the first fault of the endowments: one by one, over the books that they opened.
use Rattle.std.specs.Prelude.{ℕ, ◌+◌, Option, Some, None, is_some, nat_lt, if◌then◌else◌}
use Rattle.npos_base.specs.declared.account.AccountId.{AccountId}
use Rattle.npos_base.specs.Account.{same_account}
use Rattle.stake_ledger.specs.Ledger.{Ledger, row_of, issuance_cap}
use Rattle.stake_pools.specs.declared.fault.PoolFault.{PoolFault}
use Rattle.stake_pools.specs.declared.fault.PoolFault.TheVariants.{RepeatedAccount, TooMuch, PoolEndowed}

-- why the endowment at this place can't be opened over these books, if it can't
abbrev pub opening_fault : AccountId → Ledger → ℕ → AccountId × ℕ → Option PoolFault
opening_fault pool ledger place endowment =
    if is_some (row_of ledger endowment.0) then Some (RepeatedAccount place)
    else if nat_lt issuance_cap (ledger.genesis + endowment.1) then Some (TooMuch place)
    else if same_account endowment.0 pool then Some (PoolEndowed place)
    else None
