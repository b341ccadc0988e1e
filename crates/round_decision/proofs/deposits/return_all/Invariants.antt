use Rattle.std.proofs.Common.{◌≡◌, ◌+◌, ◌++◌, length}
use Rattle.std.specs.Vec.{vec_len, vec_capacity}
use Rattle.round_decision.specs.Deposits.{AreHeld, all_returned, return_lines}
use Rattle.round_decision.proofs.deposits.return_all.Given as goal

abbrev pub invariant-items : goal.invariant-items
invariant-items l = record {
  held : AreHeld l.book l.queue.items;
  book : all_returned l.queue.items l.book ≡ all_returned l.fn.queue.items l.fn.book;
  lines : l.lines.items ++ return_lines l.queue.items ≡ l.fn.lines.items ++ return_lines l.fn.queue.items;
  places : l.queue.places ≡ l.fn.queue.places;
  len : vec_len l.lines + length l.queue.items ≡ vec_len l.fn.lines + length l.fn.queue.items;
  capacity : vec_capacity l.lines ≡ vec_capacity l.fn.lines;
}

abbrev pub decreases-items : goal.decreases-items
decreases-items l = length l.queue.items
