use Rattle.std.proofs.Common.{◌≡◌, ℕ, ◌<◌, ◌||◌, false, length, take, get_or}
use Rattle.std.specs.List.{list_any}
use Rattle.compact_solution.specs.Packing.{leads_to}
use Rattle.compact_solution.proofs.listing.mark.Given as goal

-- the targets of the edges so far are marked
abbrev pub invariant-loop-edge : goal.invariant-loop-edge
invariant-loop-edge l = (length l.marks ≡ length l.fn.marks) × ((target : ℕ) → target < 65536
    → get_or l.marks target false ≡ (get_or l.fn.marks target false || list_any (leads_to target) (take l.edge-index l.edges)))
