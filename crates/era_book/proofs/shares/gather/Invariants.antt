use Rattle.std.proofs.Common.{◌≡◌, ℕ, ◌++◌, [], length, take, get_or}
use Rattle.era_book.specs.Seats.{shares_among}
use Rattle.era_book.proofs.shares.gather.Given as goal

abbrev pub invariant-loop-edge : goal.invariant-loop-edge
invariant-loop-edge l =
    (length l.lists.items ≡ length l.fn.lists.items)
    × ((k : ℕ) → get_or l.lists.items k [] ≡ get_or l.fn.lists.items k [] ++ shares_among l.own l.targets l.voters (take l.edge-index l.edges) k)
