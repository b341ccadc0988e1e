use Rattle.std.proofs.Common.{◌≡◌, ◌≤◌, vec_len}
use Rattle.stake_ledger.specs.Chunks.{chunk_sum, without_latest}
use Rattle.stake_ledger.proofs.chunks.Chunks.take_latest.Given as goal

-- what is still to be taken is within what is left, and taking it leaves what the whole would
abbrev pub invariant-chunks : goal.invariant-chunks
invariant-chunks l =
    (l.left ≤ chunk_sum l.self-inside.items.items) × (without_latest l.left l.self-inside.items.items ≡ without_latest l.fn.amount l.fn.self)

abbrev pub decreases-chunks : goal.decreases-chunks
decreases-chunks l = vec_len l.self-inside.items
