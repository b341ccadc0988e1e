use Rattle.std.proofs.Common.{◌≡◌, ◌≤◌, ◌+◌, ◌*◌, length}
use Rattle.std.specs.Vec.{vec_len, vec_capacity}
use Rattle.scale_wire.specs.Composite.{items}
use Rattle.scale_wire.specs.Reading.{IsRead}
use Rattle.compact_solution.specs.Solution.{entry_form}
use Rattle.compact_solution.proofs.reading.read_singles.Given as goal

-- as many entries as iterations were read, each from two bytes or more
abbrev pub invariant-loop : goal.invariant-loop
invariant-loop l = record {
  read : IsRead (items (entry_form 0) l.counter) l.initial.here l.entries.items l.here;
  count : vec_len l.entries ≡ l.counter;
  room : vec_capacity l.entries ≡ vec_capacity l.initial.entries;
  bytes : length l.here.rest + 2 * l.counter ≤ length l.initial.here.rest;
}
