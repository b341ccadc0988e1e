use Rattle.std.proofs.Common.{◌≡◌}
use Rattle.std.specs.Vec.{vec_len, vec_capacity}
use Rattle.scale_wire.specs.Composite.{items}
use Rattle.scale_wire.specs.Reading.{IsRead}
use Rattle.compact_solution.specs.Solution.{share_form}
use Rattle.compact_solution.proofs.reading.read_shares.Given as goal

-- as many shares as iterations were read, in the room that was made
abbrev pub invariant-loop : goal.invariant-loop
invariant-loop l = record {
  read : IsRead (items share_form l.counter) l.initial.here l.shares.items l.here;
  count : vec_len l.shares ≡ l.counter;
  room : vec_capacity l.shares ≡ vec_capacity l.initial.shares;
}
