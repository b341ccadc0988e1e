use Rattle.std.proofs.Common.{◌≡◌, ◌≤◌, ◌+◌, length, slice_index_or}
use Rattle.std.specs.Prelude.{filter, nat_lt}
use Rattle.std.specs.List.{range_with_len}
use Rattle.weight_book.specs.Room.{KeepsRoom}
use Rattle.election_check.proofs.entries.push_members.Given as goal

-- the stamped targets so far are the members
abbrev pub invariant-loop-target : goal.invariant-loop-target
invariant-loop-target l = record {
  members : l.weights.plain.committee ≡ filter (λ target. nat_lt 0 (slice_index_or l.stamps target 0)) (range_with_len 0 l.target);
  edges : l.weights.plain.edges ≡ l.initial.weights.plain.edges;
  spare : length l.snapshot.targets ≤ l.weights.member_spare + l.target;
  room : KeepsRoom l.initial.weights l.weights;
}
