use Rattle.std.proofs.Common.{◌+◌, length, ◌∙◌, ap, subst, sym, arith, List}
use Rattle.std.proofs.lemmas.Result.{err_from_is_err_and}
use Rattle.scale_wire.specs.declared.fault.ReadFault.TheVariants.{Wire}
use Rattle.scale_wire.specs.Composite.{items}
use Rattle.scale_wire.specs.Reading.{IsRead}
use Rattle.scale_wire.proofs.ListLemmas.{items_err}
use Rattle.compact_solution.specs.Solution.{Entry, entry_form}
use Rattle.compact_solution.proofs.Readers.{single_long, items_more}
use Rattle.compact_solution.proofs.reading.read_singles.Goals as goal

pub returns-in_err-take_single : goal.returns-in_err-take_single
returns-in_err-take_single c =
    let p = err_from_is_err_and c.from_residual-in_err-take_single.result c.from_residual-in_err-take_single.ensures.1 in
    rw (p.1, p.2) (items_err (entry_form 0) c.args.count c.loop.counter c.args.cursor.now c.fork-here.result
    c.loop.here c.take_single.new.cursor c.loop.entries.items (Wire c.in_err-take_single.field-0.0)
    c.fork-here.ensures c.loop-test.true c.loop.invariant.read c.in_err-take_single.ensures)

pub push_reserved-requires : goal.push_reserved-requires
push_reserved-requires c =
    let long = single_long c.loop.here c.take_single.new.cursor c.in_ok-take_single.field-0 c.in_ok-take_single.ensures in
    omega (arith, c.loop.invariant.count, c.loop.invariant.room, c.loop.invariant.bytes, c.in_ok-entries.ensures.room, ap length c.rest.ensures, long, c.loop-test.true)

pub loop-preserved : goal.loop-preserved
loop-preserved c =
    let entry = c.in_ok-take_single.field-0 in
    let long = single_long c.loop.here c.take_single.new.cursor entry c.in_ok-take_single.ensures in
    record {
      read = subst (λ (es : List Entry). IsRead (items (entry_form 0) (c.loop.counter + 1)) c.fork-here.result es c.take_single.new.cursor) (sym c.push_reserved.ensures.items)
          (items_more (entry_form 0) c.loop.counter c.fork-here.result c.loop.here c.take_single.new.cursor c.loop.entries.items entry c.loop.invariant.read c.in_ok-take_single.ensures);
      count = omega (arith, c.push_reserved.ensures.len, c.loop.invariant.count);
      room = c.push_reserved.ensures.capacity ∙ c.loop.invariant.room;
      bytes = omega (arith, long, c.loop.invariant.bytes);
    }
