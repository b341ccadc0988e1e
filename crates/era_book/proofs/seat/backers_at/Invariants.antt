use Rattle.std.proofs.Common.{◌≡◌, ◌+◌, ◌≤◌, length, take}
use Rattle.era_book.specs.Seats.{backers_seen}
use Rattle.era_book.proofs.seat.backers_at.Given as goal

-- the shares so far are the backers, and there is room for the others
abbrev pub invariant-loop-share : goal.invariant-loop-share
invariant-loop-share l = record {
  made : l.backers.items ≡ backers_seen l.accounts (take l.share-index l.shares);
  spare : length l.shares ≤ l.backers.spare + l.share-index;
}
