use Rattle.std.proofs.Common.{sym, subst}
use Rattle.stake_pools.specs.declared.chain.PoolChain.{PoolChain}
use Rattle.stake_pools.specs.Sound.{IsSoundPool}
use Rattle.stake_pools.proofs.SoundLemmas.{sound_after}
use Rattle.stake_pools.proofs.pool.Pool.take.Goals as goal

pub returns-clause-sound : goal.returns-clause-sound
returns-clause-sound c =
    subst (λ (chain : PoolChain). IsSoundPool chain) (sym c.in_ok-told.ensures.state)
    (sound_after c.self.inside.chain c.args.who c.args.kind (c.self.invariant c.if-self.false))

pub invariant_of-self-2 : goal.invariant_of-self-2
invariant_of-self-2 c = λ unspent.
    subst (λ (chain : PoolChain). IsSoundPool chain) (sym c.in_ok-told.ensures.state)
    (sound_after c.self.inside.chain c.args.who c.args.kind (c.self.invariant c.if-self.false))
