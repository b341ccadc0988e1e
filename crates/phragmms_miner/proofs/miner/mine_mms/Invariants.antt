use Rattle.std.proofs.Common.{◌≡◌, ℕ, ◌<◌, ◌≤◌, length}
use Rattle.election_snapshot.specs.Snapshot.{stake_of}
use Rattle.weight_book.specs.Weights.{spent}
use Rattle.phragmms_miner.specs.Search.{AreTables}
use Rattle.phragmms_miner.specs.Run.{AreSeated}
use Rattle.phragmms_miner.proofs.miner.mine_mms.Given as goal

-- the run so far
abbrev pub invariant-loop-seat : goal.invariant-loop-seat
invariant-loop-seat l = (l.backing.snapshot ≡ l.snapshot) × (length l.backing.weights.committee ≡ l.seat)
    × AreSeated l.snapshot l.rounds l.backing.weights.committee l.seat l.backing.weights.edges
    × ((voter : ℕ) → voter < length l.snapshot.voters → spent l.backing.weights.edges voter ≤ stake_of l.snapshot voter)
    × AreTables l.snapshot l.tables.rates.items l.tables.left.items l.tables.prescores.items l.tables.outside.items l.tables.approvals.items l.tables.nominators
