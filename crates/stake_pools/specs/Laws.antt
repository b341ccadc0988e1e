-- What follows for every pool and every list of items.
use Rattle.std.specs.Prelude.{◌≡◌, ◌≢◌, ◌<◌, ◌≤◌, ℕ, ◌*◌, List, [], ◌∷◌, None}
use Rattle.npos_base.specs.declared.account.AccountId.{AccountId}
use Rattle.stake_pools.specs.declared.input.PoolGenesis.{PoolGenesis}
use Rattle.stake_pools.specs.declared.input.PoolItem.{PoolItem}
use Rattle.stake_pools.specs.declared.input.PoolKind.{PoolKind}
use Rattle.stake_pools.specs.declared.input.PoolKind.TheVariants.{Join, Redeem, Slash}
use Rattle.stake_pools.specs.declared.line.PoolLine.TheVariants.{Accepted, Paid}
use Rattle.stake_pools.specs.declared.chain.PoolChain.{PoolChain}
use Rattle.stake_pools.specs.Chain.{active_of, all_points_of, member_worth, all_worths}
use Rattle.stake_pools.specs.Genesis.{pool_fault, pool_chain}
use Rattle.stake_pools.specs.Rules.{due_points}
use Rattle.stake_pools.specs.Step.{item_outcome, after_items}
use Rattle.stake_pools.specs.Sound.{IsSoundPool}

-- A pool starts sound, and every list of items leaves it so: the books balance, the credits are in the pot,
-- and the active stake is at most the points.
abbrev pub PoolStartLaw : Type 0
PoolStartLaw = (genesis : PoolGenesis) → pool_fault genesis ≡ None → IsSoundPool (pool_chain genesis)

abbrev pub KeptLaw : Type 0
KeptLaw = (chain : PoolChain) → IsSoundPool chain → (items : List PoolItem) → IsSoundPool (after_items chain items)

-- what the points of all members are worth, each member's on its own, is there
abbrev pub WorthLaw : Type 0
WorthLaw = (chain : PoolChain) → 0 < all_points_of chain → all_worths chain ≤ active_of chain

-- a point has no lower price than before
abbrev pub KeepsPrice : PoolChain → PoolChain → Type 0
KeepsPrice old new = active_of old * all_points_of new ≤ active_of new * all_points_of old

-- nobody's points lose by another's joining, nor by another's redeeming
abbrev pub JoinLaw : Type 0
JoinLaw = (chain : PoolChain) → IsSoundPool chain → (who : AccountId) (value : ℕ)
    → KeepsPrice chain (item_outcome chain who (Join value)).state

abbrev pub RedeemLaw : Type 0
RedeemLaw = (chain : PoolChain) → IsSoundPool chain → (who : AccountId)
    → KeepsPrice chain (item_outcome chain who Redeem).state

-- No item but a slash lowers what another's points are worth.
abbrev pub IsNoSlash : PoolKind → Type 0
IsNoSlash (Slash amount) = ⊥
IsNoSlash kind = Unit {0}

abbrev pub UndilutedLaw : Type 0
UndilutedLaw = (chain : PoolChain) → IsSoundPool chain → (who other : AccountId) (kind : PoolKind)
    → IsNoSlash kind → other ≢ who
    → member_worth chain other ≤ member_worth (item_outcome chain who kind).state other

-- who redeems is paid no more than the part of the active stake that the points are of all points
abbrev pub PaidLaw : Type 0
PaidLaw = (chain : PoolChain) (who to : AccountId) (amount : ℕ)
    → (item_outcome chain who Redeem).lines ≡ Accepted ∷ Paid to amount ∷ []
    → amount * all_points_of chain ≤ active_of chain * due_points chain who
