-- Wherever the input of a pool has come, the laws of pools hold of it.
use Rattle.std.proofs.Common.{◌≡◌, ℕ, List, [], ◌∷◌, Option, Some, None, Ok, IfSome, refl, sym, ap, subst}
use Rattle.stake_pools.specs.declared.input.PoolGenesis.{PoolGenesis}
use Rattle.stake_pools.specs.declared.input.PoolItem.{PoolItem}
use Rattle.stake_pools.specs.declared.fault.PoolFault.{PoolFault}
use Rattle.stake_pools.specs.Genesis.{pool_fault, pool_chain}
use Rattle.stake_pools.specs.Step.{after_items}
use Rattle.stake_pools.specs.Sound.{IsSoundPool}
use Rattle.stake_pools.specs.Laws.{PoolStartLaw, KeptLaw, WorthLaw, JoinLaw, RedeemLaw, UndilutedLaw, PaidLaw}
use Rattle.run_edges.specs.Replay.{Spot, Passes, behind}
use Rattle.npos_cli.specs.Pools.{PoolRun, pool_started, pool_machine, PoolsAreFair}

-- the pool behind the items is what they make of the pool before them
pool_after : (items : List PoolItem) (p q : Spot PoolRun) (text : List ℕ) → Passes pool_machine items p q text → q.state.pool ≡ after_items p.state.pool items
pool_after [] p q text passes = ap (λ (s : Spot PoolRun). s.state.pool) passes.0
pool_after (item ∷ more) p q text passes = pool_after more (behind pool_machine p item passes.0) q passes.2 passes.3

-- what started has no fault, and is the pool of its genesis
started_is : (due : Option PoolFault) (genesis : PoolGenesis) (run : PoolRun) → pool_started due genesis ≡ Ok run → (due ≡ None) × (run.pool ≡ pool_chain genesis)
started_is None genesis run e =
    let first : PoolRun = record { asked = 0; pool = pool_chain genesis } in
    let same : first ≡ run = cc in
    (refl, sym (ap (λ (r : PoolRun). r.pool) same))
started_is (Some fault) genesis run e = cc

pub fair : PoolStartLaw → KeptLaw → WorthLaw → JoinLaw → RedeemLaw → UndilutedLaw → PaidLaw → (bytes : List ℕ) → PoolsAreFair bytes
fair starts_sound keeps worths joins redeems undiluted paid bytes start place text starts reaches =
    let is = started_is (pool_fault starts.genesis) starts.genesis start.state starts.state_is in
    let first : IsSoundPool start.state.pool = subst IsSoundPool (sym is.1) (starts_sound starts.genesis is.0) in
    let sound : IsSoundPool place.state.pool =
    subst IsSoundPool (sym (pool_after reaches.blocks start place text reaches.passes)) (keeps start.state.pool first reaches.blocks) in
    record {
      sound = sound;
      worths = worths place.state.pool;
      joins = joins place.state.pool sound;
      redeems = redeems place.state.pool sound;
      undiluted = undiluted place.state.pool sound;
      paid = paid place.state.pool;
    }
