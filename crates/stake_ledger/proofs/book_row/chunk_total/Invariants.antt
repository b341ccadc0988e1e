use Rattle.std.proofs.Common.{◌≡◌, take}
use Rattle.stake_ledger.specs.Chunks.{chunk_sum}
use Rattle.stake_ledger.proofs.book_row.chunk_total.Given as goal

abbrev pub invariant-loop-chunk : goal.invariant-loop-chunk
invariant-loop-chunk l = l.total ≡ chunk_sum (take l.chunk-index l.chunks)
