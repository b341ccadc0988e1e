use Rattle.std.proofs.Common.{arith}
use Rattle.npos_runtime.proofs.Kept.Remade.EraLemmas.{sum_next}
use Rattle.npos_runtime.proofs.remade_eras.amount_sum.Goals as goal

pub overflow_add-sum : goal.overflow_add-sum
overflow_add-sum c =
    omega (
      arith,
      c.requires,
      c.loop-backer.invariant,
      sum_next c.args.backers.now c.loop-backer.backer-index (record { who = record { hi = 0; lo = 0 }; amount = 0 }) c.loop-backer-test.true,
    )
