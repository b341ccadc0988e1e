use Rattle.std.proofs.Common.{rules, arith, ◌≡◌, false, nat_eq, get_or}
use Rattle.seq_phragmen.specs.declared.rise.Rise.{Rise}
use Rattle.seq_phragmen.proofs.PartLemmas.{part_left}
use Rattle.seq_phragmen.proofs.splitting.take_parts.Goals as goal

pub overflow_sub-left : goal.overflow_sub-left
overflow_sub-left c =
    let rises = c.args.rises.now in
    let loop = c.loop-rise in
    let none : Rise = record { voter = 0; target = 0; height = 0 } in
    let differs : nat_eq (get_or c.args.rises.now c.loop-rise.rise-index (record { voter = 0; target = 0; height = 0 })).target
    (get_or c.args.lasts.now (get_or c.args.rises.now c.loop-rise.rise-index (record { voter = 0; target = 0; height = 0 })).voter 0) ≡ false = search rules in
    omega (
      arith,
      c.part_by.ensures,
      part_left c.args.snapshot.now c.args.loads.now c.args.lasts.now rises loop.rise-index none c.loop-rise-test.true loop.left loop.invariant.0 differs
          (c.requires.enough (get_or rises loop.rise-index none).voter (c.requires.rises.in_range loop.rise-index none c.loop-rise-test.true)),
    )
