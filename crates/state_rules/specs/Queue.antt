-- What is wrong with a submission that waits, and with what is held for those that wait.
use Rattle.std.specs.Prelude.{ℕ, ◌*◌, Bool, not, ◌||◌, ◌&&◌, nat_eq, nat_lt, nat_le, List, length, filter}
use Rattle.std.specs.List.{list_any}
use Rattle.npos_base.specs.declared.account.AccountId.{AccountId}
use Rattle.npos_base.specs.Account.{same_account}
use Rattle.npos_base.specs.Score.{is_better}
use Rattle.stake_ledger.specs.declared.book_row.BookRow.{BookRow}
use Rattle.state_rules.specs.declared.state.QueueRow.{QueueRow}
use Rattle.state_rules.specs.Lists.{follows}
use Rattle.state_rules.specs.Known.{has_row}

-- a better claim stands first, and of equal ones that of the lower number
abbrev pub outranks : QueueRow → QueueRow → Bool
outranks first later =
    is_better first.score later.score
    || not (is_better later.score first.score) && nat_lt first.number later.number

-- the number is none that was given, or an earlier submission has it
abbrev pub is_bad_count : ℕ → List QueueRow → QueueRow → Bool
is_bad_count next before item =
    nat_eq item.number 0 || nat_le next item.number
    || list_any (λ earlier. nat_eq earlier.number item.number) before

abbrev pub is_outranking : List QueueRow → QueueRow → Bool
is_outranking before item = not (follows outranks before item)

-- Nothing waits without an open round, nor behind the places that there are.
abbrev pub is_bad_item : Bool → ℕ → ℕ → List BookRow → ℕ → List QueueRow → QueueRow → Bool
is_bad_item has_round places most_bytes rows next before item =
    not has_round || nat_le places (length before) || not (has_row rows item.who)
    || is_bad_count next before item || is_outranking before item
    || nat_lt most_bytes (length item.bytes)

-- how many submissions of the account wait
abbrev pub waiting_of : List QueueRow → AccountId → ℕ
waiting_of queue who = length (filter (λ item. same_account item.who who) queue)

-- the account's deposits are not those of its submissions
abbrev pub is_bad_deposit : ℕ → List QueueRow → BookRow → Bool
is_bad_deposit deposit queue row = not (nat_eq row.held (deposit * waiting_of queue row.who))

abbrev pub is_bad_held : ℕ → List QueueRow → List BookRow → BookRow → Bool
is_bad_held deposit queue before row = is_bad_deposit deposit queue row
