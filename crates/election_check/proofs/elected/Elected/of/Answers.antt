use Rattle.weight_book.proofs.OrderLemmas.{passes_reordered, rising}
use Rattle.election_check.proofs.elected.Elected.of.Goals as goal

pub invariant_of-result : goal.invariant_of-result
invariant_of-result c =
    let passes = passes_reordered c.args.snapshot c.args.weights.plain c.sort_members.new.self.plain c.sort_members.ensures.same c.sort_members.ensures.edges c.requires in
    (c.seats-seats.ensures.well_formed, passes, rising c.sort_members.new.self.plain.committee c.sort_members.ensures.rising passes.feasible.follows.members_distinct)
