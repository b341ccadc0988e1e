use Rattle.std.proofs.Common.{sym, subst, ◌∙◌, Option}
use Rattle.npos_base.specs.declared.miner.Miner.{Miner}
use Rattle.election_work.specs.Mining.{due_of}
use Rattle.npos_c.specs.Mining.{hand_of, IsSoundFor}
use Rattle.npos_c.proofs.YesLaws.{hand_done}
use Rattle.npos_c.proofs.mining.npos_c_mine.Goals as goal

pub returns-in-Ok-clause-sound : goal.returns-in-Ok-clause-sound
returns-in-Ok-clause-sound c = λ done. subst (λ (m : Option Miner). IsSoundFor m c.args.bundle.now) c.in-Some.ensures.miner
    (c.in-Ok.ensures.sound (hand_done (due_of c.in-Ok.mining) (hand_of c.args.committee.now c.args.solution.now c.args.mined.now)
    (sym c.hand_out.ensures.answer ∙ done)))
