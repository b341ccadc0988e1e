use Rattle.std.proofs.Common.{◌≡◌, map, take}
use Rattle.compact_solution.specs.Packing.{share_of}
use Rattle.compact_solution.proofs.listing.list_shares.Given as goal

-- the shares of the edges so far
abbrev pub invariant-loop-edge : goal.invariant-loop-edge
invariant-loop-edge l = l.shares.items ≡ map (share_of l.stake) (take l.edge-index l.edges)
