use Rattle.std.proofs.Common.{◌≡◌, vec_len}
use Rattle.stake_ledger.specs.Chunks.{without_first}
use Rattle.stake_ledger.proofs.chunks.Chunks.take_first.Given as goal

-- taking what is still to be taken leaves what the whole would
abbrev pub invariant-chunks : goal.invariant-chunks
invariant-chunks l = without_first l.left l.self-inside.items.items ≡ without_first l.fn.amount l.fn.self

abbrev pub decreases-chunks : goal.decreases-chunks
decreases-chunks l = vec_len l.self-inside.items
