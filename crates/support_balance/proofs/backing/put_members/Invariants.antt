use Rattle.std.proofs.Common.{◌≡◌, ◌++◌, ◌+◌, ◌≤◌, length, take}
use Rattle.weight_book.specs.Room.{KeepsRoom}
use Rattle.support_balance.proofs.backing.put_members.Given as goal

abbrev pub invariant-loop-member : goal.invariant-loop-member
invariant-loop-member l = (l.weights.plain.committee ≡ l.fn.weights.plain.committee ++ take l.member-index l.members) × (l.weights.plain.edges ≡ l.fn.weights.plain.edges)
    × (l.weights.edge_spare ≡ l.fn.weights.edge_spare) × KeepsRoom l.fn.weights l.weights × (length l.members ≤ l.weights.member_spare + l.member-index)
