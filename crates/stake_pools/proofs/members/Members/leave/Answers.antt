use Rattle.std.proofs.Common.{◌-◌, List, refl, sym, subst, arith}
use Rattle.npos_base.specs.declared.account.AccountId.{AccountId}
use Rattle.stake_pools.specs.declared.member.Member.{Member}
use Rattle.stake_pools.specs.Kept.{AreSummed}
use Rattle.stake_pools.specs.Members.{points_of}
use Rattle.stake_pools.proofs.MemberLemmas.{part_within, parting_there, summed_left}
use Rattle.stake_pools.proofs.members.Members.leave.Goals as goal

pub leave-requires : goal.leave-requires
leave-requires c = omega (arith, part_within points_of refl c.args.who c.self.inside.entries.entries, c.self.invariant.points_fit)

pub overflow_sub-self : goal.overflow_sub-self
overflow_sub-self c =
    let members : List (AccountId × Member) = c.self.inside.entries.entries in
    let there = parting_there c.args.who c.args.points c.args.release members c.in_ok-leave.ensures.ok.0 in
    omega (arith, there, part_within (λ m. m.staying) refl c.args.who members, c.self.invariant.staying_are)

pub invariant_of-self-2 : goal.invariant_of-self-2
invariant_of-self-2 c =
    let members : List (AccountId × Member) = c.self.inside.entries.entries in
    let there = parting_there c.args.who c.args.points c.args.release members c.in_ok-leave.ensures.ok.0 in
    subst (λ (es : List (AccountId × Member)). AreSummed es c.self.inside.points (c.self.inside.staying - c.args.points)) (sym c.in_ok-leave.ensures.ok.1)
    (summed_left c.args.who c.args.points c.args.release members c.self.inside.points c.self.inside.staying c.self.invariant there)
