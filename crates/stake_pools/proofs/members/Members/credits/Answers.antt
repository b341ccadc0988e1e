use Rattle.std.proofs.Common.{rules, tests, ◌∙◌, ap}
use Rattle.std.specs.Map.{values_of}
use Rattle.std.proofs.lemmas.Iterator.{YieldsList-from_map}
use Rattle.std.proofs.lemmas.Iterator.Consumers.{sum_by_from_yields_List, YieldsList-at, YieldsList-from_rest}
use Rattle.stake_pools.specs.declared.member.Member.{Member}
use Rattle.stake_pools.specs.Members.{all_credits}
use Rattle.stake_pools.proofs.members.Members.credits.Goals as goal

pub returns : goal.returns
returns c =
    sum_by_from_yields_List (λ (m : Member). m.credit) (values_of c.self.inside.entries.entries) c.map.result c.sum.result c.sum.ensures.ran
    (YieldsList-from_map _ (λ (m : Member). m.credit) (YieldsList-at c.map.ensures.source
    (YieldsList-from_rest (values_of c.self.inside.entries.entries) c.values.ensures.rest)) c.map.ensures.closure
    (λ x r q k. search (rules, tests)))
    ∙ ap all_credits c.self.view_is
