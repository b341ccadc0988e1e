use Rattle.std.proofs.Common.{◌∙◌}
use Rattle.submission_queue.proofs.LawLemmas.{offers_append}
use Rattle.npos_runtime.proofs.remade_lists.put_behind.Goals as goal

pub returns : goal.returns
returns c = c.offer.ensures.after ∙ (offers_append c.args.queue.now c.args.item c.requires.room c.requires.ranked).1
