-- Stake on its way out, as Substrate's staking pallet keeps it: chunks by rising era of release.
use Rattle.std.specs.Prelude.{ℕ, Bool, true, false, ◌+◌, ◌-◌, ◌<◌, ◌≤◌, List, Option, Some, None, [], ◌∷◌, length, sum_by, filter, All, nat_lt, nat_le, ◌==◌, ◌&&◌, if◌then◌else◌}
use Rattle.stake_ledger.specs.declared.chunks.TheConstants.{MOST_CHUNKS}
use Rattle.std.specs.List.{AllPairs}
use Rattle.stake_ledger.specs.declared.chunks.Chunk.{Chunk}
use Rattle.stake_ledger.specs.declared.refusal.LedgerRefusal.{LedgerRefusal}
use Rattle.stake_ledger.specs.declared.refusal.LedgerRefusal.TheVariants.{NoMoreChunks}

-- what the chunks hold together
abbrev pub chunk_sum : List Chunk → ℕ
chunk_sum chunks = sum_by (λ chunk. chunk.value) chunks

-- no chunk is 0, at most 32 stand, and each is released later than those before it
pub record IsSchedule (chunks : List Chunk) : Type 0 where
  pub whole : All (λ chunk. 0 < chunk.value) chunks
  pub few : length chunks ≤ MOST_CHUNKS
  pub rising : AllPairs (λ earlier later. earlier.release < later.release) chunks

abbrev pub is_empty : List Chunk → Bool
is_empty [] = true
is_empty (chunk ∷ later) = false

-- the amount joins the last chunk where that has the same release; else it is a new chunk, put last
abbrev pub with_chunk : ℕ → ℕ → List Chunk → List Chunk
with_chunk amount release [] = record { value = amount; release = release } ∷ []
with_chunk amount release (chunk ∷ later) =
    if is_empty later && (chunk.release == release)
    then record chunk { value = chunk.value + amount } ∷ []
    else chunk ∷ with_chunk amount release later

-- more than 32 chunks never stand
abbrev pub chunk_refusal : ℕ → ℕ → List Chunk → Option LedgerRefusal
chunk_refusal amount release chunks =
    if nat_lt MOST_CHUNKS (length (with_chunk amount release chunks)) then Some NoMoreChunks else None

-- what is left of a chunk; an emptied one goes
abbrev pub lessened : ℕ → Chunk → List Chunk
lessened amount chunk =
    if nat_lt amount chunk.value then record chunk { value = chunk.value - amount } ∷ [] else []

-- the amount is taken from the latest chunk first: from this one, only what the later ones lack
abbrev pub without_latest : ℕ → List Chunk → List Chunk
without_latest amount [] = []
without_latest amount (chunk ∷ later) =
    if nat_lt amount (chunk_sum later)
    then chunk ∷ without_latest amount later
    else lessened (amount - chunk_sum later) chunk

-- the amount is taken from the first chunk first; emptied chunks go
abbrev pub without_first : ℕ → List Chunk → List Chunk
without_first amount [] = []
without_first amount (chunk ∷ later) =
    if nat_lt amount chunk.value
    then record chunk { value = chunk.value - amount } ∷ later
    else without_first (amount - chunk.value) later

-- the chunks that are free in this era, and those that are not yet
abbrev pub released : ℕ → List Chunk → List Chunk
released era chunks = filter (λ chunk. nat_le chunk.release era) chunks

abbrev pub unreleased : ℕ → List Chunk → List Chunk
unreleased era chunks = filter (λ chunk. nat_lt era chunk.release) chunks
