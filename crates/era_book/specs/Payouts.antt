-- What an era pays to a validator and to those who back it.
use Rattle.std.specs.Prelude.{ℕ, ◌+◌, ◌-◌, ◌*◌, ◌/◌, not, nat_lt, List, ◌∷◌, map, filter, find}
use Rattle.std.specs.Option.{option_map_or}
use Rattle.npos_base.specs.declared.account.AccountId.{AccountId}
use Rattle.npos_base.specs.declared.limits.TheConstants.{WHOLE_FRACTION}
use Rattle.npos_base.specs.Account.{same_account}
use Rattle.era_book.specs.declared.exposure.Backer.{Backer}
use Rattle.era_book.specs.declared.exposure.Exposure.{Exposure}
use Rattle.era_book.specs.declared.payout.Payout.{Payout}
use Rattle.era_book.specs.Exposures.{amount_sum}

-- the part of a value that `parts` of a whole stand for, rounded down
abbrev pub part : ℕ → ℕ → ℕ → ℕ
part value parts whole = value * parts / whole

abbrev pub line : AccountId → ℕ → Backer
line who amount = record { who = who; amount = amount }

-- lines of 0 are left out
abbrev pub kept_lines : List Backer → List Backer
kept_lines lines = filter (λ line. nat_lt 0 line.amount) lines

-- what the validator backs itself with
abbrev pub own_part : AccountId → List Backer → ℕ
own_part validator backers =
    option_map_or (λ backer. backer.amount)
    (find (λ backer. same_account backer.who validator) backers) 0

abbrev pub others : AccountId → List Backer → List Backer
others validator backers = filter (λ backer. not (same_account backer.who validator)) backers

-- the commission is taken first
abbrev pub commission_of : Exposure → ℕ → ℕ
commission_of exposure value = part value exposure.commission WHOLE_FRACTION

-- the backers share the rest by what they give
abbrev pub share : Exposure → ℕ → ℕ → ℕ
share exposure value amount = part (value - commission_of exposure value) amount exposure.support

-- the validator has one line, for its commission and its own part together
abbrev pub validator_line : Exposure → ℕ → Backer
validator_line exposure value =
    line exposure.validator
    (commission_of exposure value + share exposure value (own_part exposure.validator exposure.backers))

abbrev pub backer_line : Exposure → ℕ → Backer → Backer
backer_line exposure value backer = line backer.who (share exposure value backer.amount)

-- the lines of a value that is paid to a validator: its own, then the other backers' in their order
abbrev pub payout_lines : Exposure → ℕ → List Backer
payout_lines exposure value =
    kept_lines (validator_line exposure value
    ∷ map (backer_line exposure value) (others exposure.validator exposure.backers))

abbrev pub payout_of : Exposure → ℕ → Payout
payout_of exposure value =
    record { lines = payout_lines exposure value; total = amount_sum (payout_lines exposure value) }
