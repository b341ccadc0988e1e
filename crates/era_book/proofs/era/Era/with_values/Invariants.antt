use Rattle.std.proofs.Common.{◌≡◌, ◌++◌}
use Rattle.std.specs.Vec.Iter.{into_iter_items}
use Rattle.era_book.specs.Members.{IsCounted}
use Rattle.era_book.specs.Records.{members_from}
use Rattle.era_book.specs.Seats.{members_seen}
use Rattle.era_book.proofs.SeatLemmas.{AreSeated}
use Rattle.era_book.proofs.era.Era.with_values.Given as goal

-- the values so far are the members, and their points are counted
abbrev pub invariant-loop-value : goal.invariant-loop-value
invariant-loop-value l = record {
  all : l.yielded ++ into_iter_items l.value-iterator ≡ l.fn.values;
  seen : members_seen l.names l.members ≡ members_from l.yielded;
  seated : AreSeated l.names l.members;
  counted : IsCounted (members_from l.yielded) l.points;
}
