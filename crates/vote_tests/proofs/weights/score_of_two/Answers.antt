use Rattle.std.proofs.Common.{arith, ◌≡◌, [], ◌∷◌, nat_eq, refl, ap, ◌∙◌}
use Rattle.std.specs.List.{IsDistinct}
use Rattle.weight_book.specs.Weights.{Weights}
use Rattle.vote_tests.proofs.weights.score_of_two.Goals as goal

two_distinct : IsDistinct nat_eq (65535 ∷ 0 ∷ [])
unfolding IsDistinct
two_distinct = ((refl, tt), (tt, tt))

pub score-requires-clause-distinct : goal.score-requires-clause-distinct
score-requires-clause-distinct c =
    let none = ap (λ (w : Weights). w.committee) (c.reserve.ensures.same ∙ c.clear.ensures.empty) in
    rw (c.push_edge-2.ensures.members, c.push_edge.ensures.members, c.push_member-2.ensures.members, c.push_member.ensures.members, none) two_distinct

pub score-requires-clause-fits : goal.score-requires-clause-fits
score-requires-clause-fits c =
    let none = ap (λ (w : Weights). w.edges) (c.reserve.ensures.same ∙ c.clear.ensures.empty) in
    rw (c.push_edge-2.ensures.edges, c.push_edge.ensures.edges, c.push_member-2.ensures.edges, c.push_member.ensures.edges, none) (omega arith)
