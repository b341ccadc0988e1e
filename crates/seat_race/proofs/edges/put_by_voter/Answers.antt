use Rattle.std.proofs.Common.{rules, List, subst, sym}
use Rattle.std.specs.List.Sorted.{IsNonDecreasingBy}
use Rattle.std.proofs.lemmas.List.Sorted.{IsNonDecreasingBy-from_sort_by_key}
use Rattle.npos_base.specs.declared.figures.Edge.{Edge}
use Rattle.npos_base.specs.Edge.{place_of}
use Rattle.seat_race.proofs.edges.put_by_voter.Goals as goal

pub returns-clause-order : goal.returns-clause-order
returns-clause-order c =
    let up = IsNonDecreasingBy-from_sort_by_key place_of _ c.sort_unstable_by_key.ensures.sorted (λ a r q k. search rules) in
    subst (λ (es : List Edge). IsNonDecreasingBy place_of es) (sym c.in_ok-put_edges.ensures.edges) up
