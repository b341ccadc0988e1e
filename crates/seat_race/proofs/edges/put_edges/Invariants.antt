use Rattle.std.proofs.Common.{◌≡◌, ◌+◌, ◌≤◌, length, take}
use Rattle.weight_book.specs.Room.{KeepsRoom}
use Rattle.seat_race.proofs.edges.put_edges.Given as goal

-- the edges so far stand, and there is room for the others
abbrev pub invariant-loop-edge : goal.invariant-loop-edge
invariant-loop-edge l = (l.weights.plain.edges ≡ take l.edge-index l.edges) × (l.weights.plain.committee ≡ l.fn.weights.plain.committee)
    × (length l.edges ≤ l.edge-index + l.weights.edge_spare) × KeepsRoom l.fn.weights l.weights
