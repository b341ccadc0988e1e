use Rattle.std.proofs.Common.{arith, ap}
use Rattle.stake_ledger.specs.declared.book_row.BookRow.{BookRow}
use Rattle.stake_ledger.specs.Rows.{worth}
use Rattle.stake_ledger.specs.Chunks.{chunk_sum}
use Rattle.stake_ledger.specs.BookRows.{entry_of}
use Rattle.stake_ledger.proofs.BookRowLemmas.{part_fits}
use Rattle.stake_ledger.proofs.totals.Totals.of.Goals as goal

pub overflow_add-totals-in-loop-row : goal.overflow_add-totals-in-loop-row
overflow_add-totals-in-loop-row c =
    omega (
      arith,
      c.loop-row.invariant.free,
      ap (λ (row : BookRow). worth (entry_of row).1) c.row-item.is,
      part_fits (λ row. row.free) (λ row. omega arith) c.args.rows.now c.args.genesis c.args.minted c.args.burned c.loop-row.row-index c.row-item.result c.requires c.loop-row-test.true,
    )

pub overflow_add-totals-in-loop-row-2 : goal.overflow_add-totals-in-loop-row-2
overflow_add-totals-in-loop-row-2 c =
    omega (
      arith,
      c.loop-row.invariant.active,
      ap (λ (row : BookRow). worth (entry_of row).1) c.row-item.is,
      part_fits (λ row. row.active) (λ row. omega arith) c.args.rows.now c.args.genesis c.args.minted c.args.burned c.loop-row.row-index c.row-item.result c.requires c.loop-row-test.true,
    )

pub overflow_add-totals-in-loop-row-3 : goal.overflow_add-totals-in-loop-row-3
overflow_add-totals-in-loop-row-3 c =
    omega (
      arith,
      c.loop-row.invariant.unlocking,
      c.unlocking.ensures,
      ap (λ (row : BookRow). worth (entry_of row).1) c.row-item.is,
      part_fits (λ row. chunk_sum row.chunks) (λ row. omega arith) c.args.rows.now c.args.genesis c.args.minted c.args.burned c.loop-row.row-index c.row-item.result c.requires c.loop-row-test.true,
    )

pub overflow_add-totals-in-loop-row-4 : goal.overflow_add-totals-in-loop-row-4
overflow_add-totals-in-loop-row-4 c =
    omega (
      arith,
      c.loop-row.invariant.deposits,
      ap (λ (row : BookRow). worth (entry_of row).1) c.row-item.is,
      part_fits (λ row. row.held) (λ row. omega arith) c.args.rows.now c.args.genesis c.args.minted c.args.burned c.loop-row.row-index c.row-item.result c.requires c.loop-row-test.true,
    )
