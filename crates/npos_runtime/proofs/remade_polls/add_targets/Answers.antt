use Rattle.std.proofs.Common.{get_or, refl}
use Rattle.npos_runtime.proofs.Kept.Remade.PollLemmas.{target_ready}
use Rattle.npos_runtime.proofs.remade_polls.add_targets.Goals as goal

pub put_target-requires : goal.put_target-requires
put_target-requires c =
    target_ready c.args.targets.now c.loop-target.builder c.loop-target.target-index (record { hi = 0; lo = 0 }, 0)
    (get_or c.args.targets.now c.loop-target.target-index (record { hi = 0; lo = 0 }, 0)) c.requires.taken c.loop-target.invariant
    c.loop-target-test.true refl
