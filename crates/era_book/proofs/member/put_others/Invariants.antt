use Rattle.std.proofs.Common.{◌≡◌, ◌+◌, ◌≤◌, ◌++◌, length, take}
use Rattle.era_book.specs.Seats.{backers_seen}
use Rattle.era_book.proofs.LineLemmas.{other_lines}
use Rattle.era_book.proofs.member.put_others.Given as goal

abbrev pub invariant-loop-share : goal.invariant-loop-share
invariant-loop-share l =
    (l.lines.items ≡ l.fn.lines.items ++ other_lines l.seat.validator l.rest l.seat.support (backers_seen l.accounts (take l.share-index l.share-items)))
    × (length l.seat.shares ≤ l.lines.spare + l.share-index)
