use Rattle.std.proofs.Common.{◌≡◌, ◌≤◌, ◌+◌, ◌++◌, map, length, vec_len, vec_capacity}
use Rattle.std.specs.Vec.Iter.{into_iter_items}
use Rattle.stake_ledger.specs.Calls.{room_of}
use Rattle.era_book.specs.Exposures.{amount_sum}
use Rattle.npos_runtime.specs.Rules.Offices.{all_minted, paid_line}
use Rattle.npos_runtime.proofs.offices.pay.Given as goal

-- what is still to be paid fits, and leads to the same books and lines
abbrev pub invariant-lines : goal.invariant-lines
invariant-lines l = record {
  fits : amount_sum (into_iter_items l.line-iterator) ≤ room_of l.book;
  book : all_minted (into_iter_items l.line-iterator) l.book ≡ all_minted l.fn.lines l.fn.book;
  room : vec_len l.more + length (into_iter_items l.line-iterator) ≤ vec_capacity l.more;
  told : l.more.items ++ map paid_line (into_iter_items l.line-iterator) ≡ l.fn.more.items ++ map paid_line l.fn.lines;
}
