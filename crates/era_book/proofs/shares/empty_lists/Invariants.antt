use Rattle.std.proofs.Common.{◌≡◌, ℕ, [], length, get_or}
use Rattle.era_book.proofs.shares.empty_lists.Given as goal

abbrev pub invariant-loop-count : goal.invariant-loop-count
invariant-loop-count l = (length l.lists.items ≡ l.count-index) × ((k : ℕ) → get_or l.lists.items k [] ≡ [])
