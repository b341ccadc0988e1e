use Rattle.std.proofs.Common.{◌≡◌, take, sum_by}
use Rattle.stake_ledger.specs.declared.book_row.BookRow.{BookRow}
use Rattle.stake_ledger.specs.Chunks.{chunk_sum}
use Rattle.stake_ledger.proofs.totals.Totals.of.Given as goal

-- each sum over the rows so far
abbrev pub invariant-loop-row : goal.invariant-loop-row
invariant-loop-row l = record {
  free : l.totals.free ≡ sum_by (λ (row : BookRow). row.free) (take l.row-index l.rows);
  active : l.totals.active ≡ sum_by (λ (row : BookRow). row.active) (take l.row-index l.rows);
  unlocking : l.totals.unlocking ≡ sum_by (λ (row : BookRow). chunk_sum row.chunks) (take l.row-index l.rows);
  deposits : l.totals.deposits ≡ sum_by (λ (row : BookRow). row.held) (take l.row-index l.rows);
  minted : l.totals.minted ≡ l.fn.minted;
  burned : l.totals.burned ≡ l.fn.burned;
  issuance : l.totals.issuance ≡ l.initial.totals.issuance;
}
