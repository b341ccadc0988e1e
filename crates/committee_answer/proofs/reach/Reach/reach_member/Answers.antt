use Rattle.std.proofs.Common.{rules, arith, ◌≡◌, true, false, nat_lt, sym, ◌∙◌}
use Rattle.committee_answer.specs.declared.reach.TheConstants.{FAR}
use Rattle.committee_answer.proofs.ReachLemmas.{fresh_at, next_reached, fewer}
use Rattle.committee_answer.proofs.reach.Reach.reach_member.Goals as goal

pub returns-clause-reach : goal.returns-clause-reach
returns-clause-reach c =
    let self = c.args.self.now in
    let offers = c.args.offers.now in
    let leads : nat_lt c.index.result.now.steps FAR ≡ true = search rules in
    let stays : nat_lt c.index-2.result.now.steps FAR ≡ false = search rules in
    let same : c.from.result ≡ c.from-2.result = c.from.ensures ∙ sym c.from-2.ensures in
    let fresh = fresh_at offers self.voters.items self.members.items c.args.place c.index-edge.result.now c.index.result.now c.index-2.result.now c.from-2.result
    c.requires.small c.requires.reach c.requires.place c.index-edge.ensures c.index.ensures (rw same at c.index-2.ensures) c.from-2.ensures leads (omega (arith, c.if-edge-eq0.false)) stays in
    rw (fresh.target_is, fresh.steps_is)
    (next_reached offers self.voters.items self.members.items c.args.place c.requires.reach c.requires.place fresh.inside fresh.voter fresh.gives fresh.far)

pub returns-clause-fewer : goal.returns-clause-fewer
returns-clause-fewer c = λ _.
    let self = c.args.self.now in
    let offers = c.args.offers.now in
    let leads : nat_lt c.index.result.now.steps FAR ≡ true = search rules in
    let stays : nat_lt c.index-2.result.now.steps FAR ≡ false = search rules in
    let same : c.from.result ≡ c.from-2.result = c.from.ensures ∙ sym c.from-2.ensures in
    let fresh = fresh_at offers self.voters.items self.members.items c.args.place c.index-edge.result.now c.index.result.now c.index-2.result.now c.from-2.result
    c.requires.small c.requires.reach c.requires.place c.index-edge.ensures c.index.ensures (rw same at c.index-2.ensures) c.from-2.ensures leads (omega (arith, c.if-edge-eq0.false)) stays in
    rw (fresh.target_is, fresh.steps_is)
    (fewer offers self.voters.items self.members.items c.args.place c.requires.reach c.requires.place fresh.inside fresh.voter fresh.gives fresh.far)
