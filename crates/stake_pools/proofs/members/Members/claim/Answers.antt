use Rattle.stake_pools.proofs.MemberLemmas.{summed_claim}
use Rattle.stake_pools.proofs.members.Members.claim.Goals as goal

pub invariant_of-self : goal.invariant_of-self
invariant_of-self c =
    summed_claim c.args.who c.self.inside.entries.entries c.claim.new.entries.entries c.self.inside.points c.self.inside.staying _ c.claim.result c.self.invariant
    c.claim.ensures.meets
