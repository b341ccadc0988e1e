use Rattle.std.proofs.Common.{◌≡◌, ◌∙◌, ◌+◌, List, ap, sym, subst, arith}
use Rattle.npos_base.specs.declared.account.AccountId.{AccountId}
use Rattle.stake_pools.specs.declared.member.Member.{Member}
use Rattle.stake_pools.specs.Kept.{AreSummed}
use Rattle.stake_pools.proofs.MemberLemmas.{summed_seen, summed_joined, fewer_stay}
use Rattle.stake_pools.specs.Members.{joined, changed}
use Rattle.stake_pools.proofs.members.Members.join.Goals as goal

pub overflow_add-self-2 : goal.overflow_add-self-2
overflow_add-self-2 c =
    let members : List (AccountId × Member) = c.args.self.now in
    let kept = summed_seen c.self.inside.entries.entries members c.self.inside.points c.self.inside.staying c.self.view_is c.self.invariant in
    omega (arith, fewer_stay members c.self.inside.points c.self.inside.staying kept, kept.points_are, c.requires.fits)

pub invariant_of-self-2 : goal.invariant_of-self-2
invariant_of-self-2 c =
    let members : List (AccountId × Member) = c.args.self.now in
    let kept = summed_seen c.self.inside.entries.entries members c.self.inside.points c.self.inside.staying c.self.view_is c.self.invariant in
    let is : c.enter.new.entries.entries ≡ changed c.args.who (joined c.args.points) members =
    c.in_ok-enter.ensures.ok ∙ ap (λ (es : List (AccountId × Member)). changed c.args.who (joined c.args.points) es) c.self.view_is in
    subst (λ (es : List (AccountId × Member)). AreSummed es (c.self.inside.points + c.args.points) (c.self.inside.staying + c.args.points)) (sym is)
    (summed_joined c.args.who c.args.points members c.self.inside.points c.self.inside.staying kept (omega (arith, kept.points_are, c.requires.fits)))
