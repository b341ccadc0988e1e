use Rattle.std.proofs.Common.{◌≡◌}
use Rattle.era_book.specs.Members.{members_with}
use Rattle.era_book.specs.Seats.{members_seen}
use Rattle.era_book.proofs.SeatLemmas.{AreSeated}
use Rattle.era_book.proofs.era.Era.with_exposures.Given as goal

abbrev pub invariant-loop-exposure : goal.invariant-loop-exposure
invariant-loop-exposure l = record {
  seen : members_seen l.names l.members ≡ members_with l.yielded;
  seated : AreSeated l.names l.members;
}
