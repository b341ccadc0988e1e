-- What is wrong with an era.
use Rattle.std.specs.Prelude.{ℕ, ◌+◌, ◌^◌, Bool, false, not, ◌||◌, nat_eq, nat_lt, nat_le, List, [], ◌∷◌, length, map}
use Rattle.std.specs.List.{list_any}
use Rattle.npos_base.specs.declared.account.AccountId.{AccountId}
use Rattle.npos_base.specs.Account.{same_account}
use Rattle.npos_base.specs.declared.limits.TheConstants.{MOST_PAST_ERAS, WHOLE_FRACTION}
use Rattle.era_book.specs.declared.exposure.Backer.{Backer}
use Rattle.era_book.specs.Exposures.{amount_sum}
use Rattle.stake_ledger.specs.declared.book_row.BookRow.{BookRow}
use Rattle.state_rules.specs.declared.state.EraRow.{EraRow}
use Rattle.state_rules.specs.declared.state.MemberRow.{MemberRow}
use Rattle.state_rules.specs.Lists.{has_bad, follows}
use Rattle.state_rules.specs.Accounts.{is_below, stands_in}
use Rattle.state_rules.specs.Known.{has_row}

-- a line without an amount, or of an account that has one before
abbrev pub is_bad_line : List Backer → Backer → Bool
is_bad_line before line =
    nat_eq line.amount 0 || stands_in (map (λ earlier. earlier.who) before) line.who

-- some line is of an account that has no row
abbrev pub names_unknown : List BookRow → List Backer → Bool
names_unknown rows lines = list_any (λ line. not (has_row rows line.who)) lines

abbrev pub are_bad_lines : List BookRow → List Backer → Bool
are_bad_lines rows lines = names_unknown rows lines || has_bad is_bad_line lines

-- a line behind the first is the member's own
abbrev pub has_late_own : AccountId → List Backer → Bool
has_late_own who [] = false
has_late_own who (first ∷ others) = list_any (λ backer. same_account backer.who who) others

-- a later line is the member's own, the lines are too much in all, or some line is wrong
abbrev pub are_bad_backers : List BookRow → AccountId → List Backer → Bool
are_bad_backers rows who backers =
    has_late_own who backers || nat_le (2 ^ 64) (amount_sum backers) || are_bad_lines rows backers

abbrev pub is_out_of_order : List MemberRow → MemberRow → Bool
is_out_of_order before member = not (follows (λ earlier later. is_below earlier.who later.who) before member)

-- the account has no row or is not above the one before, a fraction is above the whole, or what
-- backs it is wrong
abbrev pub is_bad_member : List BookRow → List MemberRow → MemberRow → Bool
is_bad_member rows before member =
    is_out_of_order before member || not (has_row rows member.who)
    || nat_lt WHOLE_FRACTION member.commission || nat_lt WHOLE_FRACTION member.fraction
    || are_bad_backers rows member.who member.backers

-- the era is the first one, later than the current one or no longer kept, or is not above the one before
abbrev pub is_bad_number : ℕ → List EraRow → EraRow → Bool
is_bad_number current before era =
    nat_eq era.era 0 || nat_lt current era.era || nat_lt (era.era + MOST_PAST_ERAS) current
    || not (follows (λ earlier later. nat_lt earlier.era later.era) before era)

-- no era is kept that has no member, nor with one that is wrong
abbrev pub are_bad_members : List BookRow → List MemberRow → Bool
are_bad_members rows members = nat_eq (length members) 0 || has_bad (is_bad_member rows) members

-- no era has members where there are no params
abbrev pub is_bad_era : Bool → ℕ → List BookRow → List EraRow → EraRow → Bool
is_bad_era has_params current rows before era =
    not has_params || is_bad_number current before era || are_bad_members rows era.members
