use Rattle.std.proofs.Common.{◌≡◌, ◌-◌, ◌≤◌, length, take}
use Rattle.election_snapshot.specs.Snapshot.{total_stake}
use Rattle.weight_book.specs.Passing.{prescore}
use Rattle.phragmms_miner.specs.Search.{AreRising}
use Rattle.phragmms_miner.proofs.NarrowLemmas.{IsNarrowed}
use Rattle.phragmms_miner.proofs.ScoreLemmas.{prescore_falls}
use Rattle.phragmms_miner.proofs.search.best_of.Given as goal

-- the greatest score lies between the two prices, and who may have it among those in front
abbrev pub invariant-loop-low : goal.invariant-loop-low
invariant-loop-low l =
    IsNarrowed l.fn.outside (λ price target. prescore price l.snapshot l.edges target) (total_stake l.snapshot) (prescore_falls l.snapshot l.edges)
    l.low l.top l.pick (take l.count l.outside)
    × (l.top ≤ total_stake l.snapshot) × (l.count ≤ length l.outside) × (length l.outside ≡ length l.fn.outside)
    × AreRising (length l.snapshot.targets) (take l.count l.outside)
    × (length l.rates ≡ length l.supports) × (length l.left ≡ length l.snapshot.voters) × (length l.prescores ≡ length l.snapshot.targets)

abbrev pub decreases-loop-low : goal.decreases-loop-low
decreases-loop-low l = l.top - l.low
