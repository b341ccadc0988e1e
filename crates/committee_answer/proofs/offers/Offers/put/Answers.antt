use Rattle.std.proofs.Common.{rules, arith}
use Rattle.committee_answer.specs.Offers.{edge_at}
use Rattle.committee_answer.proofs.OfferLemmas.{set_moved, set_small}
use Rattle.committee_answer.proofs.offers.Offers.put.Goals as goal

pub returns-clause-moved : goal.returns-clause-moved
returns-clause-moved c = set_moved c.args.self.now _ c.args.place c.args.edge c.args.left c.args.spare c.requires.small c.requires.place
    c.requires.voter c.requires.target (search rules) (search rules) (search rules) c.requires.left c.requires.spare c.requires.rest

pub returns-clause-small : goal.returns-clause-small
returns-clause-small c = set_small c.args.self.now _ c.args.edge.voter c.args.left c.args.edge.amount (edge_at c.args.self.now c.args.place).amount
    (returns-clause-moved c) c.requires.small (omega (arith, c.requires.voter, c.requires.small.voters c.args.place c.requires.place)) (search rules) c.requires.left c.requires.rest
