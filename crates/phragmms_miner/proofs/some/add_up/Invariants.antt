use Rattle.std.proofs.Common.{◌≡◌, [], length, get_or, sum_by}
use Rattle.seat_race.specs.Tables.{says}
use Rattle.phragmms_miner.proofs.FewLemmas.{AreTold}
use Rattle.phragmms_miner.proofs.some.add_up.Given as goal

-- the sums of the targets so far
abbrev pub invariant-loop-target : goal.invariant-loop-target
invariant-loop-target l = AreTold (λ target. sum_by (says l.values) (get_or l.nominators target [])) l.alive l.target-index l.sums
    × (length l.sums ≡ length l.fn.sums)
