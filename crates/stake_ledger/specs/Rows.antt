-- What one account has, and what each call makes of it.
use Rattle.std.specs.Prelude.{ℕ, ◌+◌, ◌-◌, Bool, [], nat_lt}
use Rattle.stake_ledger.specs.declared.row.Row.{Row}
use Rattle.stake_ledger.specs.Chunks.{chunk_sum, with_chunk, without_latest, without_first, released, unreleased}

-- an account that was never heard of has nothing
abbrev pub empty_row : Row
empty_row = record { free = 0; active = 0; chunks = []; held = 0 }

-- all that the account has
abbrev pub worth : Row → ℕ
worth row = row.free + row.active + chunk_sum row.chunks + row.held

-- an account is bonded where active and its chunks together are above 0
abbrev pub is_bonded : Row → Bool
is_bonded row = nat_lt 0 (row.active + chunk_sum row.chunks)

abbrev pub gained : ℕ → Row → Row
gained value row = record row { free = row.free + value }

abbrev pub paid : ℕ → Row → Row
paid value row = record row { free = row.free - value }

abbrev pub activated : ℕ → Row → Row
activated value row = record row { free = row.free - value; active = row.active + value }

abbrev pub unbonded : ℕ → ℕ → Row → Row
unbonded amount release row =
    record row { active = row.active - amount; chunks = with_chunk amount release row.chunks }

abbrev pub rebonded : ℕ → Row → Row
rebonded amount row =
    record row { active = row.active + amount; chunks = without_latest amount row.chunks }

abbrev pub withdrawn : ℕ → Row → Row
withdrawn era row =
    let freed = chunk_sum (released era row.chunks) in
    record row { free = row.free + freed; chunks = unreleased era row.chunks }

-- a deposit moves from free to held, and back, or goes for good
abbrev pub deposited : ℕ → Row → Row
deposited value row = record row { free = row.free - value; held = row.held + value }

abbrev pub returned : ℕ → Row → Row
returned value row = record row { free = row.free + value; held = row.held - value }

abbrev pub forfeited : ℕ → Row → Row
forfeited value row = record row { held = row.held - value }

-- a slash takes what is active first, then from the chunks in order
abbrev pub slashed_row : ℕ → Row → Row
slashed_row amount row =
    let left = amount - row.active in
    record row { active = row.active - amount; chunks = without_first left row.chunks }
