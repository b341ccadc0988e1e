use Rattle.std.proofs.Common.{◌≡◌, ◌≤◌, ◌+◌, ◌++◌, length, take, map}
use Rattle.std.specs.Prelude.{sum_by}
use Rattle.weight_book.specs.Room.{KeepsRoom}
use Rattle.compact_solution.specs.Solution.{targets_of}
use Rattle.election_check.specs.Packed.{amount_of, edge_of}
use Rattle.election_check.proofs.entries.push_edges.Given as goal

-- the edges of the shares so far stand, and what they leave of the stake is the rest
abbrev pub invariant-loop-share : goal.invariant-loop-share
invariant-loop-share l = record {
  rest_is : l.rest + sum_by (amount_of l.stake) (take l.share-index l.share-items) ≡ l.stake;
  edges : l.weights.plain.edges ≡ l.initial.weights.plain.edges ++ map (edge_of l.stake l.voter) (take l.share-index l.share-items);
  members : l.weights.plain.committee ≡ l.initial.weights.plain.committee;
  spare : length (targets_of l.entry) ≤ l.weights.edge_spare + l.share-index;
  room : KeepsRoom l.initial.weights l.weights;
}
