use Rattle.std.proofs.Common.{◌≡◌, ℕ, ◌≤◌, ◌<◌, [], length, map, take, get_or}
use Rattle.era_book.specs.Committee.{exposure_of}
use Rattle.era_book.specs.Members.{members_with}
use Rattle.era_book.specs.Seats.{members_seen, shares_of}
use Rattle.era_book.proofs.elected.seats_of.Given as goal

-- the members so far are seated, and the lists of the others still stand
abbrev pub invariant-loop-member : goal.invariant-loop-member
invariant-loop-member l = record {
  seats : members_seen l.voters l.seats ≡ members_with (map (exposure_of l.targets l.commissions l.supports l.voters l.edges) (take l.member-index l.members));
  count : length l.lists.items ≡ length l.targets;
  lists : (j : ℕ) → l.member-index ≤ j → j < length l.members
      → get_or l.lists.items (get_or l.members j 0) [] ≡ shares_of l.targets l.voters l.edges (get_or l.members j 0);
}
