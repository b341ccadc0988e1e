use Rattle.std.proofs.Common.{arith, sym}
use Rattle.support_balance.specs.Rows.{amounts}
use Rattle.support_balance.specs.Levels.{bases}
use Rattle.support_balance.proofs.LevelLemmas.{filled_fits}
use Rattle.support_balance.proofs.HandLemmas.{differs_self, handed_even}
use Rattle.support_balance.proofs.turn.turn.Goals as goal

pub returns-then-is_empty-clause-changed : goal.returns-then-is_empty-clause-changed
returns-then-is_empty-clause-changed c = sym (differs_self (amounts c.args.row.now))

pub hand_out-requires-clause-fits : goal.hand_out-requires-clause-fits
hand_out-requires-clause-fits c = filled_fits c.args.stake _ _ (bases c.args.supports.now c.args.row.now) c.level_of-level.ensures (omega (arith, c.ranges.stake))

pub returns-clause-even : goal.returns-clause-even
returns-clause-even c = λ _. handed_even c.args.stake _ _ _ _ _ _ c.requires c.level_of-level.ensures c.hand_out.ensures.alike c.hand_out.ensures.moved c.hand_out.ensures.amounts
