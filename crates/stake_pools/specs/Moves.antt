-- What the items of a pool move on the books, row by row.
use Rattle.std.specs.Prelude.{ℕ, ◌+◌, ◌-◌, ◌==◌, if◌then◌else◌}
use Rattle.npos_base.specs.declared.account.AccountId.{AccountId}
use Rattle.stake_ledger.specs.declared.row.Row.{Row}
use Rattle.stake_ledger.specs.Rows.{gained, paid}
use Rattle.stake_ledger.specs.Ledger.{Ledger, changed}

-- the pool's active stake rises or falls, and nothing else of its row changes
abbrev pub raised : ℕ → Row → Row
raised value row = record row { active = row.active + value }

abbrev pub lowered : ℕ → Row → Row
lowered value row = record row { active = row.active - value }

-- the amount is not active any more, but free
abbrev pub freed : ℕ → Row → Row
freed amount row = record row { free = row.free + amount; active = row.active - amount }

-- the value goes from what the account has free to what the pool has active
abbrev pub invested : AccountId → AccountId → ℕ → Ledger → Ledger
invested who pool value ledger = changed pool (raised value) (changed who (paid value) ledger)

-- the amount goes from what the pool has active to what the account has free; an amount of 0 leaves the books
abbrev pub paid_out : AccountId → AccountId → ℕ → Ledger → Ledger
paid_out pool who amount ledger =
    if amount == 0 then ledger else changed who (gained amount) (changed pool (lowered amount) ledger)

-- the amount of what the pool has active is burned; an amount of 0 leaves the books
abbrev pub burned : AccountId → ℕ → Ledger → Ledger
burned pool amount ledger =
    if amount == 0 then ledger
    else record (changed pool (lowered amount) ledger) { burned = ledger.burned + amount }
