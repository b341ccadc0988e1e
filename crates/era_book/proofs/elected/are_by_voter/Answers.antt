-- Each edge's voter is at most the next one's.
use Rattle.std.proofs.Common.{rules, ◌≡◌, ◌+◌, Bool, true, false, Some, List, get_or, sym}
use Rattle.std.specs.Bool.{OnTrue}
use Rattle.std.specs.List.{IsAllAdjacentAnswer}
use Rattle.std.specs.List.Sorted.{IsNonDecreasingBy}
use Rattle.std.specs.Ordering.{is_le, is_some_and, nat_cmp}
use Rattle.std.proofs.lemmas.List.Sorted.{IsNonDecreasingBy-from_all_adjacent, answers_always}
use Rattle.std.proofs.lemmas.Map.Keys.{le_from_is_le}
use Rattle.npos_base.specs.declared.figures.Edge.{Edge}
use Rattle.era_book.proofs.elected.are_by_voter.Goals as goal

rise : (edges : List Edge) (r : Bool) → IsAllAdjacentAnswer (λ (x y : Edge) b. b ≡ is_some_and is_le (Some (nat_cmp x.voter y.voter))) edges r
    → OnTrue r (IsNonDecreasingBy (λ (edge : Edge). edge.voter) edges)
rise edges true each =
    IsNonDecreasingBy-from_all_adjacent (λ (edge : Edge). edge.voter) edges
    (λ k d below. le_from_is_le (get_or edges k d).voter (get_or edges (k + 1) d).voter (sym (each k d below)))
rise edges false each = tt

pub returns : goal.returns
returns c = rise c.args.edges.now c.is_sorted_by_key.result (c.is_sorted_by_key.ensures.cases (λ (edge : Edge). edge.voter) (answers_always _ _ _ (λ f a r g called. search rules)))
