-- Where the items of a pool are gone through.
use Rattle.std.specs.Prelude.{ℕ}
use Rattle.scale_wire.specs.Reading.{Place}
use Rattle.stake_pools.specs.declared.chain.PoolChain.{PoolChain}
use Rattle.run_edges.specs.Replay.{Spot}
use Rattle.npos_cli.specs.Pools.{PoolRun}
use Rattle.run_edges.specs.Turning.{spot}

-- where a cursor and a pool stand together, behind so many items
abbrev pub pool_spot : Place → ℕ → PoolChain → Spot PoolRun
pool_spot place asked chain = spot place (record { asked = asked; pool = chain })
