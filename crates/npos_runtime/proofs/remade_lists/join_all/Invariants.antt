use Rattle.std.proofs.Common.{◌≡◌, map, take}
use Rattle.npos_runtime.specs.Kept.Chain.{bag_entry}
use Rattle.npos_runtime.proofs.remade_lists.join_all.Given as goal

-- the accounts so far stand in their bags
abbrev pub invariant-loop-row : goal.invariant-loop-row
invariant-loop-row l = l.bags ≡ record { thresholds = l.thresholds; order = map bag_entry (take l.row-index l.rows) }
