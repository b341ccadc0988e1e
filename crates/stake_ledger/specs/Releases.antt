-- When the books release what is on its way out.
use Rattle.std.specs.Prelude.{ℕ, ◌≤◌, All}
use Rattle.npos_base.specs.declared.account.AccountId.{AccountId}
use Rattle.stake_ledger.specs.declared.book_row.BookRow.{BookRow}
use Rattle.stake_ledger.specs.Ledger.{Ledger, row_at}

-- no chunk of any account is released later than in this era
abbrev pub AreWithin : ℕ → Ledger → Type 0
AreWithin era ledger =
    (who : AccountId) → All (λ chunk. chunk.release ≤ era) (row_at ledger who).chunks

-- the same of a row as a value
abbrev pub IsWithin : ℕ → BookRow → Type 0
IsWithin era row = All (λ chunk. chunk.release ≤ era) row.chunks
