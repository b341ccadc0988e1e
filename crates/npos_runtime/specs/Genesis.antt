-- What a genesis must keep, its first fault in order, and the chain that starts from it: nobody has a role.
use Rattle.std.specs.Prelude.{◌≡◌, ◌⊎◌, ℕ, ◌+◌, Bool, List, [], ◌∷◌, ◌++◌, length, sum_by, Option, Some, None, is_some, nat_lt, if◌then◌else◌}
use Rattle.std.specs.List.{list_any}
use Rattle.std.specs.Option.{option_or}
use Rattle.npos_base.specs.declared.account.AccountId.{AccountId}
use Rattle.npos_base.specs.Account.{same_account}
use Rattle.block_wire.specs.declared.genesis.Endowment.{Endowment}
use Rattle.block_wire.specs.declared.genesis.Params.{Params}
use Rattle.block_wire.specs.declared.genesis.Genesis.{Genesis}
use Rattle.block_wire.specs.declared.genesis.Genesis.TheVariants.{Plain, Full, Deferred}
use Rattle.stake_ledger.specs.Ledger.{Ledger, row_of, empty_ledger, issuance_cap}
use Rattle.stake_ledger.specs.Calls.{endowed}
use Rattle.npos_runtime.specs.declared.chain.Chain.{Chain}
use Rattle.submission_queue.specs.Ranking.{empty_queue}
use Rattle.era_book.specs.Eras.{first_era}
use Rattle.chain_params.specs.Rules.{thresholds_in, places_of}
use Rattle.chain_params.specs.Faults.{terms_fault}
use Rattle.chain_params.specs.declared.fault.GenesisFault.{GenesisFault}
use Rattle.chain_params.specs.declared.fault.GenesisFault.TheVariants.{RepeatedAccount, TooMuch, NoMemory}

abbrev pub endowments_of : Genesis → List Endowment
endowments_of (Plain endowments) = endowments
endowments_of (Full endowments params) = endowments
endowments_of (Deferred endowments params defer_eras) = endowments

abbrev pub params_of : Genesis → Option Params
params_of (Plain endowments) = None
params_of (Full endowments params) = Some params
params_of (Deferred endowments params defer_eras) = Some params

-- the number of eras that a slash waits; where no genesis says one, none waits
abbrev pub defer_of : Genesis → ℕ
defer_of (Deferred endowments params defer_eras) = defer_eras
defer_of other = 0

-- the thresholds between the bags
abbrev pub thresholds_of : Genesis → List ℕ
thresholds_of genesis = thresholds_in (params_of genesis)

-- the account is among those endowed
abbrev pub is_endowed : List Endowment → AccountId → Bool
is_endowed before who = list_any (λ endowment. same_account endowment.who who) before

abbrev pub endowment_sum : List Endowment → ℕ
endowment_sum endowments = sum_by (λ endowment. endowment.value) endowments

-- why the endowment at this place can't be opened over these books, if it can't
abbrev pub opening_fault : Ledger → ℕ → Endowment → Option GenesisFault
opening_fault ledger place endowment =
    if is_some (row_of ledger endowment.who) then Some (RepeatedAccount place)
    else if nat_lt issuance_cap (ledger.genesis + endowment.value) then Some (TooMuch place)
    else None

-- the first fault of the endowments that follow these: an account that was endowed before, or too much in all
abbrev pub endowment_fault : List Endowment → List Endowment → Option GenesisFault
endowment_fault before [] = None
endowment_fault before (endowment ∷ more) =
    if is_endowed before endowment.who then Some (RepeatedAccount (length before))
    else if nat_lt issuance_cap (endowment_sum (before ++ endowment ∷ [])) then Some (TooMuch (length before))
    else endowment_fault (before ++ endowment ∷ []) more

-- the first fault of a genesis: of its endowments, then of its params, and then of the number of eras
-- that a slash waits
abbrev pub genesis_fault : Genesis → Option GenesisFault
genesis_fault genesis =
    option_or (endowment_fault [] (endowments_of genesis))
    (terms_fault (params_of genesis) (defer_of genesis))

abbrev pub endowed_all : List Endowment → Ledger → Ledger
endowed_all [] ledger = ledger
endowed_all (endowment ∷ more) ledger = endowed_all more (endowed endowment.who endowment.value ledger)

abbrev pub genesis_chain : Genesis → Chain
genesis_chain genesis = record {
  params = params_of genesis;
  defer = defer_of genesis;
  book = endowed_all (endowments_of genesis) empty_ledger;
  roles = [];
  bags = record { thresholds = thresholds_of genesis; order = [] };
  round = None;
  queue = empty_queue (places_of (params_of genesis));
  next = 1;
  waiting = None;
  eras = first_era;
  due = 1;
}

-- the fault that is answered: the first that the genesis has, or want of memory
abbrev pub IsFault : Option GenesisFault → GenesisFault → Type 0
IsFault due fault = (fault ≡ NoMemory) ⊎ (due ≡ Some fault)
