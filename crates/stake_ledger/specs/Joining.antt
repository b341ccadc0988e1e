-- How the code finds whether an amount joins the last chunk.
use Rattle.std.specs.Prelude.{ℕ, Bool, false, List, ◌==◌, slice_get, length, ◌-◌}
use Rattle.std.specs.Option.{option_map_or}
use Rattle.stake_ledger.specs.declared.chunks.Chunk.{Chunk}

-- whether the last chunk has this release
abbrev pub joins_last : ℕ → List Chunk → Bool
joins_last release chunks =
    option_map_or (λ chunk. chunk.release == release) (slice_get chunks (length chunks - 1)) false
