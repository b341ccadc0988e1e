use Rattle.std.proofs.Common.{◌≡◌, ◌+◌, ◌≤◌, length, take}
use Rattle.era_book.specs.Seats.{Grows, AreWithin, backers_seen}
use Rattle.era_book.proofs.seat.named.Given as goal

-- the backers so far are named
abbrev pub invariant-loop-backer : goal.invariant-loop-backer
invariant-loop-backer l = record {
  grows : Grows l.fn.names l.names;
  seen : backers_seen l.names l.shares.items ≡ take l.backer-index l.backers;
  within : AreWithin l.names l.shares.items;
  spare : length l.backers ≤ l.shares.spare + l.backer-index;
}
