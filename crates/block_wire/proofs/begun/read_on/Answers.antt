use Rattle.std.proofs.Common.{rules, arith}
use Rattle.scale_wire.specs.Reading.{IsRead}
use Rattle.block_wire.proofs.BegunLemmas.{on_same, on_more}
use Rattle.block_wire.proofs.begun.read_on.Goals as goal

pub returns-in_err-push-clause-on : goal.returns-in_err-push-clause-on
returns-in_err-push-clause-on g c =
    on_same g.T.Wire.form c.args.items.now.items c.items.items.items c.push.new.self.items c.args.cursor.now c.items.cursor c.in_err-push.ensures.items c.items.invariant.on

pub items-preserved : goal.items-preserved
items-preserved g c =
    let read : IsRead g.T.Wire.form c.items.cursor c.in_ok-item.item c.read.new.cursor = search rules in
    record {
      on = on_more g.T.Wire.form c.args.items.now.items c.items.items.items c.push.new.self.items c.args.cursor.now
          c.items.cursor c.read.new.cursor c.in_ok-item.item c.items.invariant.on read c.in_ok-push.ensures.items;
      few = omega (arith, c.items-test.true, c.in_ok-push.ensures.len);
      forward = omega (arith, c.items.invariant.forward, read.at_is);
    }
