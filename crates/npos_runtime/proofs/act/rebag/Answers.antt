use Rattle.std.proofs.Common.{Err, option_map, subst}
use Rattle.std.proofs.lemmas.Result.{err_from_is_err_and}
use Rattle.voter_lists.specs.Bags.{rebag_refusal as list_rebag_refusal}
use Rattle.block_receipts.specs.declared.refusal.Refusal.TheVariants.{List}
use Rattle.block_receipts.specs.Stops.{list_stop}
use Rattle.npos_runtime.specs.Rules.Outcome.{Meets}
use Rattle.npos_runtime.specs.Rules.ListCalls.{rebag_rule}
use Rattle.npos_runtime.proofs.Rules.StopLemmas.{list_refused}
use Rattle.npos_runtime.proofs.act.rebag.Goals as goal

pub returns-in_err-rebag : goal.returns-in_err-rebag
returns-in_err-rebag c =
    let p = err_from_is_err_and c.from_residual.result c.from_residual.ensures.1 in
    let old = c.args.chain.now in
    let same = c.in_err-rebag.ensures.meets.unchanged in
    rw (p.1, p.2) (subst (λ score. Meets {T = Unit {0}} (option_map (λ r. List r) (list_rebag_refusal old.bags c.args.whom score))
    ((rebag_rule old c.args.whom).done) old
    (record {
      params = old.params;
      defer = old.defer;
      book = old.book;
      roles = old.roles;
      bags = c.rebag.new.self;
      round = old.round;
      queue = old.queue;
      next = old.next;
      waiting = old.waiting;
      eras = old.eras;
      due =
          old.due;
    }) (Err (list_stop c.in_err-rebag.field-0.0)))
    c.active-score.ensures
    (list_refused (list_rebag_refusal old.bags c.args.whom c.active-score.result) c.in_err-rebag.field-0.0
    ((rebag_rule old c.args.whom).done) old
    (record {
      params = old.params;
      defer = old.defer;
      book = old.book;
      roles = old.roles;
      bags = c.rebag.new.self;
      round = old.round;
      queue = old.queue;
      next = old.next;
      waiting = old.waiting;
      eras = old.eras;
      due =
          old.due;
    })
    c.in_err-rebag.ensures.meets.refused
    (λ i. record {
      params = old.params;
      defer = old.defer;
      book = old.book;
      roles = old.roles;
      bags = same i;
      round =
          old.round;
      queue = old.queue;
      next = old.next;
      waiting = old.waiting;
      eras = old.eras;
      due = old.due;
    })))
