-- What a pool's genesis must keep, its first fault in order, and the state that starts from it.
use Rattle.std.specs.Prelude.{◌≡◌, ◌⊎◌, ℕ, Bool, List, [], ◌∷◌, ◌++◌, length, sum_by, Option, Some, None, nat_lt, nat_le, ◌&&◌, if◌then◌else◌}
use Rattle.std.specs.List.{list_any}
use Rattle.std.specs.Option.{option_or}
use Rattle.npos_base.specs.declared.limits.TheConstants.{MOST_PAST_ERAS}
use Rattle.npos_base.specs.declared.account.AccountId.{AccountId}
use Rattle.npos_base.specs.Account.{same_account}
use Rattle.stake_ledger.specs.Ledger.{Ledger, empty_ledger, issuance_cap}
use Rattle.stake_ledger.specs.Calls.{endowed}
use Rattle.stake_pools.specs.declared.input.PoolGenesis.{PoolGenesis}
use Rattle.stake_pools.specs.declared.fault.PoolFault.{PoolFault}
use Rattle.stake_pools.specs.declared.fault.PoolFault.TheVariants.{RepeatedAccount, TooMuch, BadBonding, PoolEndowed, NoMemory}
use Rattle.stake_pools.specs.declared.chain.PoolChain.{PoolChain}

-- the account is among those endowed
abbrev pub is_endowed : List (AccountId × ℕ) → AccountId → Bool
is_endowed before who = list_any (λ endowment. same_account endowment.0 who) before

abbrev pub endowment_sum : List (AccountId × ℕ) → ℕ
endowment_sum endowments = sum_by (λ endowment. endowment.1) endowments

-- the first fault of the endowments that follow these: an account that was endowed before, too much in all,
-- or the pool's own account
abbrev pub endowment_fault : AccountId → List (AccountId × ℕ) → List (AccountId × ℕ) → Option PoolFault
endowment_fault pool before [] = None
endowment_fault pool before (endowment ∷ more) =
    if is_endowed before endowment.0 then Some (RepeatedAccount (length before))
    else if nat_lt issuance_cap (endowment_sum (before ++ endowment ∷ [])) then Some (TooMuch (length before))
    else if same_account endowment.0 pool then Some (PoolEndowed (length before))
    else endowment_fault pool (before ++ endowment ∷ []) more

-- what leaves is paid out 1 to 84 eras later
abbrev pub bonding_fault : ℕ → Option PoolFault
bonding_fault eras = if nat_le 1 eras && nat_le eras MOST_PAST_ERAS then None else Some (BadBonding eras)

-- the first fault of a genesis: of its endowments, and then of its bonding
abbrev pub pool_fault : PoolGenesis → Option PoolFault
pool_fault genesis =
    option_or (endowment_fault genesis.pool [] genesis.endowments) (bonding_fault genesis.bonding_eras)

abbrev pub endowed_all : List (AccountId × ℕ) → Ledger → Ledger
endowed_all [] ledger = ledger
endowed_all (endowment ∷ more) ledger = endowed_all more (endowed endowment.0 endowment.1 ledger)

-- a pool starts in era 0, without members
abbrev pub pool_chain : PoolGenesis → PoolChain
pool_chain genesis = record {
  account = genesis.pool;
  bonding = genesis.bonding_eras;
  book = endowed_all genesis.endowments empty_ledger;
  era = 0;
  members = [];
}

-- the number and the detail of a fault, as they are printed; want of memory has none
abbrev pub fault_numbers : PoolFault → Option (ℕ × ℕ)
fault_numbers (RepeatedAccount place) = Some (1, place)
fault_numbers (TooMuch place) = Some (2, place)
fault_numbers (BadBonding eras) = Some (5, eras)
fault_numbers (PoolEndowed place) = Some (11, place)
fault_numbers NoMemory = None

-- the fault that is answered: the first that the genesis has, or want of memory
abbrev pub IsFault : Option PoolFault → PoolFault → Type 0
IsFault due fault = (fault ≡ NoMemory) ⊎ (due ≡ Some fault)
