use Rattle.std.proofs.Common.{◌≡◌, ◌++◌, List, map, length}
use Rattle.stake_ledger.specs.Ledger.{Ledger}
use Rattle.block_receipts.specs.declared.line.Line.{Line}
use Rattle.weight_book.specs.Weights.{no_weights}
use Rattle.weight_book.specs.Room.{HasRoom}
use Rattle.round_decision.specs.Deposits.{AreHeld, all_burned}
use Rattle.round_decision.specs.Decision.{losers, others, forfeit_line, Stops, IsLeft}
use Rattle.round_decision.proofs.decision.find_winner.Given as goal

abbrev pub invariant-items : goal.invariant-items
invariant-items l = record {
  snapshot : l.checker ≡ l.fn.checker;
  empty : l.weights.plain ≡ no_weights;
  room : HasRoom l.fn.checker l.weights;
  held : AreHeld l.book l.queue.items;
  others : others l.fn.checker l.queue.items ≡ others l.fn.checker l.fn.queue.items;
  book : all_burned (losers l.fn.checker l.queue.items) l.book
      ≡ all_burned (losers l.fn.checker l.fn.queue.items) l.fn.book;
  lines : l.lines.items ++ map (forfeit_line l.fn.checker) (losers l.fn.checker l.queue.items)
      ≡ l.fn.lines.items ++ map (forfeit_line l.fn.checker) (losers l.fn.checker l.fn.queue.items);
  places : l.queue.places ≡ l.fn.queue.places;
  left : IsLeft l.fn.queue l.queue;
  so_far : (book : Ledger) (lines : List Line) → Stops l.fn.checker l.queue.items l.book book l.lines.items lines
      → Stops l.fn.checker l.fn.queue.items l.fn.book book l.fn.lines.items lines;
}

abbrev pub decreases-items : goal.decreases-items
decreases-items l = length l.queue.items
