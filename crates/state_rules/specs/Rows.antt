-- What is wrong with a row.
use Rattle.std.specs.Prelude.{ℕ, Bool, ◌||◌, nat_lt, List}
use Rattle.std.specs.List.{list_any}
use Rattle.std.specs.Option.{option_map}
use Rattle.stake_ledger.specs.declared.book_row.BookRow.{BookRow}
use Rattle.stake_ledger.specs.BookRows as book
use Rattle.state_rules.specs.Lists.{last_of}

-- a chunk is released later than what is unbonded now
abbrev pub is_late : ℕ → BookRow → Bool
is_late latest row = list_any (λ chunk. nat_lt latest chunk.release) row.chunks

-- no book has the row behind those before it, or a chunk of it comes too late
abbrev pub is_bad_row : ℕ → List BookRow → BookRow → Bool
is_bad_row latest before row =
    book.is_bad_row (option_map (λ earlier. earlier.who) (last_of before)) row || is_late latest row
