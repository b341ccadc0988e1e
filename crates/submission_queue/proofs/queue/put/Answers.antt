use Rattle.std.proofs.Common.{not, insert, ap, ◌∙◌, arith}
use Rattle.std.proofs.lemmas.List.Sums.{prefix_len-le-length}
use Rattle.std.specs.List.{position_or_len}
use Rattle.npos_base.specs.Score.{is_better}
use Rattle.submission_queue.specs.declared.submission.Submission.{Submission}
use Rattle.submission_queue.proofs.RankLemmas.{inserted_is_placed}
use Rattle.submission_queue.proofs.queue.put.Goals as goal

pub insert-requires : goal.insert-requires
insert-requires c =
    omega (arith, c.place_of-place.ensures, c.deref.ensures.len, prefix_len-le-length (λ (queued : Submission). not (is_better c.args.item.score queued.score)) c.deref.result.now)

pub returns-clause-items : goal.returns-clause-items
returns-clause-items c =
    c.in-Ok.ensures.items
    ∙ ap (λ place. insert c.args.items.now.items place c.args.item)
    (c.place_of-place.ensures ∙ ap (λ zs. position_or_len (λ (queued : Submission). is_better c.args.item.score queued.score) zs) c.deref.ensures.value)
    ∙ inserted_is_placed c.args.items.now.items c.args.item
