use Rattle.std.proofs.Common.{rules, ◌≡◌, ◌≤◌, ◌-◌, length, ap, arith}
use Rattle.block_wire.specs.Genesis.{endowment_form}
use Rattle.scale_wire.specs.Reading.{Place}
use Rattle.block_wire.specs.Begun.{behind}
use Rattle.block_wire.specs.BegunGenesis.{IsGenesisHead}
use Rattle.block_wire.proofs.BegunLemmas.{goes_further, items_grow}
use Rattle.block_wire.proofs.GenesisLemmas.{goes_endowments, endowed}
use Rattle.block_wire.proofs.begun_genesis.fill.Goals as goal

pub overflow_sub-begun : goal.overflow_sub-begun
overflow_sub-begun c =
    let begun = c.args.begun.now in
    let old : Place = record { at = c.args.at; rest = c.args.bytes.now } in
    let place : c.new-here.result ≡ behind begun.size old = search rules in
    let is = goes_further (λ start end. IsGenesisHead start begun.tag begun.count end) endowment_form begun.count begun.size begun.endowments.items c.read_on-read.new.items.items old c.new-here.result
    c.read_on-read.new.cursor (goes_endowments begun old) c.requires.begun place c.read_on-read.ensures.on in
    omega (arith, is.later, c.at.ensures)

pub returns-clause-begun : goal.returns-clause-begun
returns-clause-begun c =
    let begun = c.args.begun.now in
    let old : Place = record { at = c.args.at; rest = c.args.bytes.now } in
    let place : c.new-here.result ≡ behind begun.size old = search rules in
    let few : length c.read_on-read.new.items.items ≤ begun.count = search rules in
    (items_grow (λ start end. IsGenesisHead start begun.tag begun.count end) endowment_form begun.count begun.size (c.at.result - c.args.at) begun.endowments.items
    c.read_on-read.new.items.items old c.new-here.result c.read_on-read.new.cursor (goes_endowments begun old) c.requires.begun place c.read_on-read.ensures.on
    (ap (λ n. n - c.args.at) c.at.ensures) few).0

pub returns-clause-filled : goal.returns-clause-filled
returns-clause-filled c =
    let begun = c.args.begun.now in
    let old : Place = record { at = c.args.at; rest = c.args.bytes.now } in
    let place : c.new-here.result ≡ behind begun.size old = search rules in
    let few : length c.read_on-read.new.items.items ≤ begun.count = search rules in
    let grows = items_grow (λ start end. IsGenesisHead start begun.tag begun.count end) endowment_form begun.count begun.size (c.at.result - c.args.at) begun.endowments.items
    c.read_on-read.new.items.items old c.new-here.result c.read_on-read.new.cursor (goes_endowments begun old) c.requires.begun place c.read_on-read.ensures.on
    (ap (λ n. n - c.args.at) c.at.ensures) few in
    endowed (record begun { endowments = c.read_on-read.new.items; size = c.at.result - c.args.at }) old c.read_on-read.new.cursor c.read_on-read.result grows.0 grows.1
    c.read_on-read.ensures.stopped
