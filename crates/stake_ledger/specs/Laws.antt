-- What books and their rows as values tell of each other.
use Rattle.std.specs.Prelude.{◌≡◌, ℕ, List, None, All}
use Rattle.stake_ledger.specs.declared.book_row.BookRow.{BookRow}
use Rattle.stake_ledger.specs.Ledger.{Ledger, IsBalanced}
use Rattle.stake_ledger.specs.BookRows.{first_bad_row, rows_fault, ledger_of, book_rows}
use Rattle.stake_ledger.specs.Releases.{AreWithin, IsWithin}

-- the rows of balanced books have no fault, and make these books
abbrev pub SavedLaw : Type 0
SavedLaw = (ledger : Ledger) → IsBalanced ledger →
    (rows_fault (book_rows ledger) ledger.genesis ledger.minted ledger.burned ≡ None)
    × (ledger_of (book_rows ledger) ledger.genesis ledger.minted ledger.burned ≡ ledger)

-- the books that rows make have these rows; they are balanced where the rows have no fault
abbrev pub RestoredLaw : Type 0
RestoredLaw = (rows : List BookRow) (genesis minted burned : ℕ) →
    (book_rows (ledger_of rows genesis minted burned) ≡ rows)
    × (rows_fault rows genesis minted burned ≡ None → IsBalanced (ledger_of rows genesis minted burned))

-- books release within an era what their rows do, where no row is bad
abbrev pub ReleasesLaw : Type 0
ReleasesLaw = (era : ℕ) (rows : List BookRow) (genesis minted burned : ℕ) → first_bad_row None rows ≡ None →
    All (IsWithin era) rows → AreWithin era (ledger_of rows genesis minted burned)

-- and the rows of balanced books release what those do
abbrev pub RowReleasesLaw : Type 0
RowReleasesLaw = (era : ℕ) (ledger : Ledger) → IsBalanced ledger → AreWithin era ledger →
    All (IsWithin era) (book_rows ledger)
