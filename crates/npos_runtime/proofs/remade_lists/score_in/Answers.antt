use Rattle.std.proofs.Common.{◌-◌, length, sym, ◌∙◌, arith}
use Rattle.npos_runtime.proofs.Kept.Remade.ListLemmas.{at_threshold, at_top, last_found, past_all}
use Rattle.npos_runtime.proofs.remade_lists.score_in.Goals as goal

pub returns-in-Some : goal.returns-in-Some
returns-in-Some c =
    at_threshold 0 c.args.thresholds.now c.args.bag c.in-Some.threshold c.requires.rising (sym c.threshold_at.ensures ∙ c.in-Some.is)

pub returns-in-None : goal.returns-in-None
returns-in-None c =
    at_top c.args.thresholds.now c.args.bag c.requires.rising c.requires.there
    (past_all c.args.thresholds.now c.args.bag (sym c.threshold_at.ensures ∙ c.in-None.is)) c.requires.scores
    (λ t is. omega (
      arith,
      c.type_inv.thresholds (length c.args.thresholds.now - 1),
      last_found c.args.thresholds.now (length c.args.thresholds.now - 1) t is,
    ))
