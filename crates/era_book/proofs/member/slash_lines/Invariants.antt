use Rattle.std.proofs.Common.{◌≡◌, ◌+◌, ◌≤◌, length, take}
use Rattle.era_book.specs.Seats.{backers_seen}
use Rattle.era_book.specs.Slashes.{slash_lines}
use Rattle.era_book.proofs.member.slash_lines.Given as goal

abbrev pub invariant-loop-share : goal.invariant-loop-share
invariant-loop-share l =
    (l.lines.items ≡ slash_lines (backers_seen l.accounts (take l.share-index l.shares)) l.kept l.fraction)
    × (length l.shares ≤ l.lines.spare + l.share-index)
