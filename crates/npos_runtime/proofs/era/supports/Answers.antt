use Rattle.std.proofs.Common.{[], ◌∷◌, ◌++◌, ap₂, sym, ◌∙◌, arith}
use Rattle.std.proofs.lemmas.List.FromFn.{map-range_with_len_more}
use Rattle.weight_book.specs.Weights.{support}
use Rattle.npos_runtime.proofs.era.supports.Goals as goal

pub loop-i-preserved : goal.loop-i-preserved
loop-i-preserved c =
    c.in_ok-push.ensures.items
    ∙ (ap₂ (λ supports next. supports ++ next ∷ []) c.loop-i.invariant c.support.ensures
    ∙ sym (map-range_with_len_more (support c.args.elected.now.weights.plain.edges) 0 c.loop-i.i c.loop-i.i (omega arith)))
