use Rattle.std.proofs.Common.{◌≡◌, take, map}
use Rattle.npos_runtime.specs.Kept.State.{queue_row}
use Rattle.npos_runtime.proofs.saved_lists.queue_rows.Given as goal

-- the submissions so far have their rows
abbrev pub invariant-loop-item : goal.invariant-loop-item
invariant-loop-item l = l.rows ≡ map queue_row (take l.item-index l.items)
