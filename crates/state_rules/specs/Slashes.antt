-- What is wrong with a slash that waits.
use Rattle.std.specs.Prelude.{ℕ, ◌+◌, Bool, not, ◌||◌, nat_eq, nat_lt, nat_le, List}
use Rattle.era_book.specs.declared.deferred.DeferredSlash.{DeferredSlash}
use Rattle.stake_ledger.specs.declared.book_row.BookRow.{BookRow}
use Rattle.state_rules.specs.Lists.{follows}
use Rattle.state_rules.specs.Eras.{are_bad_lines}

-- the number is none that was given, or is not above the one before
abbrev pub is_bad_count : ℕ → List DeferredSlash → DeferredSlash → Bool
is_bad_count next before slash =
    nat_eq slash.number 0 || nat_le next slash.number
    || not (follows (λ earlier later. nat_lt earlier.number later.number) before slash)

-- the slash is due by now, later than any waits, or before the one before
abbrev pub is_bad_due : ℕ → ℕ → List DeferredSlash → DeferredSlash → Bool
is_bad_due era defer_eras before slash =
    nat_le slash.due era || nat_lt (era + defer_eras) slash.due
    || not (follows (λ earlier later. nat_le earlier.due later.due) before slash)

abbrev pub is_bad_slash : ℕ → ℕ → ℕ → List BookRow → List DeferredSlash → DeferredSlash → Bool
is_bad_slash era defer_eras next rows before slash =
    is_bad_count next before slash || is_bad_due era defer_eras before slash
    || are_bad_lines rows slash.lines
