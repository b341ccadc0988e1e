use Rattle.std.proofs.Common.{◌≡◌, ◌++◌, ◌+◌, ◌≤◌, length, take}
use Rattle.weight_book.specs.Room.{KeepsRoom}
use Rattle.support_balance.specs.Backing.{above_zero}
use Rattle.support_balance.proofs.backing.put_edges.Given as goal

abbrev pub invariant-loop-edge : goal.invariant-loop-edge
invariant-loop-edge l = (l.weights.plain.edges ≡ l.fn.weights.plain.edges ++ above_zero (take l.edge-index l.edges)) × (l.weights.plain.committee ≡ l.fn.weights.plain.committee)
    × KeepsRoom l.fn.weights l.weights × (length l.edges ≤ l.weights.edge_spare + l.edge-index)
