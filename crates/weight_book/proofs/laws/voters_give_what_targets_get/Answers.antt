use Rattle.std.proofs.Common.{◌∙◌, sym}
use Rattle.npos_base.specs.declared.figures.Edge.{Edge}
use Rattle.weight_book.proofs.SumLemmas.{parts_all}
use Rattle.weight_book.proofs.laws.voters_give_what_targets_get.Goals as goal

-- both are the sum over all edges
pub returns : goal.returns
returns c value edges voters targets voters_apart targets_apart from to =
    parts_all (λ (edge : Edge). edge.voter) value edges voters voters_apart from
    ∙ sym (parts_all (λ (edge : Edge). edge.target) value edges targets targets_apart to)
