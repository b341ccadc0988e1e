-- How far into a stream a place may lie.
use Rattle.std.specs.Prelude.{◌+◌, ◌*◌, ◌^◌, ◌≤◌}
use Rattle.npos_runtime.specs.declared.chain.Chain.{Chain}
use Rattle.run_edges.specs.Replay.{Spot}

-- Behind a genesis, which has fewer than 2^23 bytes, stand blocks of fewer than 2^28 bytes each,
-- whose numbers rise by one and are below 2^32: so no place comes near 2^64.
abbrev pub IsNear : Spot Chain → Type 0
IsNear p = (p.state.due ≤ 2 ^ 32) × (p.at ≤ 2 ^ 23 + 2 ^ 28 * p.state.due)
