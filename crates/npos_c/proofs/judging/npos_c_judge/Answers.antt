use Rattle.std.proofs.Common.{sym, ◌∙◌}
use Rattle.npos_c.specs.Judging.{held_of}
use Rattle.npos_c.proofs.JudgeLaws.{answered_done}
use Rattle.npos_c.proofs.judging.npos_c_judge.Goals as goal

pub returns-in-Ok-clause-answered : goal.returns-in-Ok-clause-answered
returns-in-Ok-clause-answered c = λ done.
    answered_done c.args.bundle.now c.in-Ok.judging (held_of c.args.group.now c.args.members.now c.args.denied.now) c.in-Ok.ensures (sym c.hand_judging.ensures.answer ∙ done)
