use Rattle.std.proofs.Common.{◌≡◌, None, drop}
use Rattle.stake_ledger.specs.BookRows.{has_bad_chunk}
use Rattle.stake_ledger.proofs.book_row.has_bad_chunk.Given as goal

-- the chunks that are left, behind the one before, tell the answer
abbrev pub invariant-loop-chunk : goal.invariant-loop-chunk
invariant-loop-chunk l = has_bad_chunk l.before (drop l.chunk-index l.chunks) ≡ has_bad_chunk None l.chunks
