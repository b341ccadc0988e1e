use Rattle.std.proofs.Common.{◌-◌, List, refl, ap, sym, subst, arith}
use Rattle.npos_base.specs.declared.account.AccountId.{AccountId}
use Rattle.stake_pools.specs.declared.member.Member.{Member}
use Rattle.stake_pools.specs.Kept.{AreSummed}
use Rattle.stake_pools.specs.Members.{points_of, all_points, changed, redeemed}
use Rattle.stake_pools.proofs.MemberLemmas.{part_within, due_within, summed_redeemed}
use Rattle.stake_pools.proofs.members.Members.redeem.Goals as goal

pub redeem-requires : goal.redeem-requires
redeem-requires c = omega (arith, part_within points_of refl c.args.who c.self.inside.entries.entries, c.self.invariant.points_fit)

pub overflow_sub-self : goal.overflow_sub-self
overflow_sub-self c =
    omega (
      arith,
      due_within c.args.who c.args.era c.self.inside.entries.entries c.self.inside.points c.self.inside.staying c.self.invariant,
      c.in_ok-points.ensures.points,
    )

pub invariant_of-self-2 : goal.invariant_of-self-2
invariant_of-self-2 c =
    let members : List (AccountId × Member) = c.self.inside.entries.entries in
    subst (λ (es : List (AccountId × Member)). AreSummed es (c.self.inside.points - c.in_ok-points.points) c.self.inside.staying) (sym c.in_ok-points.ensures.meets.ok.1)
    (subst (λ n. AreSummed (changed c.args.who (redeemed c.args.era) members) (c.self.inside.points - n) c.self.inside.staying) (sym c.in_ok-points.ensures.points)
    (summed_redeemed c.args.who c.args.era members c.self.inside.points c.self.inside.staying c.self.invariant))

pub returns-clause-within : goal.returns-clause-within
returns-clause-within c =
    omega (
      arith,
      due_within c.args.who c.args.era c.self.inside.entries.entries c.self.inside.points c.self.inside.staying c.self.invariant,
      c.in_ok-points.ensures.points,
      c.self.invariant.points_are,
      ap all_points c.self.view_is,
    )
