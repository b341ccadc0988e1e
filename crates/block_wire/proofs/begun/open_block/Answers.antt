use Rattle.std.proofs.Common.{rules, ◌-◌, ap}
use Rattle.scale_wire.specs.Reading.{Place}
use Rattle.block_wire.specs.declared.begun.Begun.{Begun}
use Rattle.block_wire.specs.Begun.{IsHead}
use Rattle.block_wire.proofs.BegunLemmas.{opened}
use Rattle.block_wire.proofs.begun.open_block.Goals as goal

pub returns : goal.returns
returns c =
    let old : Place = record { at = c.args.at; rest = c.args.bytes.now } in
    let begun : Begun = record { number = c.in-Some.number; count = c.in-Some.count; calls = c.in_ok-calls.calls; size = c.at.result - c.args.at } in
    let head : IsHead old c.in-Some.number c.in-Some.count c.read_head.new.cursor = search rules in
    opened old c.read_head.new.cursor begun head (ap (λ n. n - c.args.at) c.at.ensures) c.in_ok-calls.ensures.items
