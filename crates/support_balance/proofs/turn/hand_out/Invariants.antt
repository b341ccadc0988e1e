use Rattle.std.proofs.Common.{◌≡◌}
use Rattle.support_balance.proofs.HandLemmas.{IsHanded}
use Rattle.support_balance.proofs.turn.hand_out.Given as goal

-- the edges so far have their new amounts
abbrev pub invariant-loop-i : goal.invariant-loop-i
invariant-loop-i l = IsHanded l.fn.level.height l.fn.level.above l.fn.row l.fn.supports l.row l.supports l.left.above l.changed l.i × (l.left.height ≡ l.fn.level.height)
