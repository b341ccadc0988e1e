use Rattle.std.proofs.Common.{rules, ◌≡◌, ◌≤◌, ◌+◌, ◌-◌, ◌++◌, length, sym, ◌∙◌, ap, arith}
use Rattle.block_wire.specs.Calls.{call_form}
use Rattle.scale_wire.specs.Reading.{Place}
use Rattle.block_wire.specs.Begun.{behind, begun_bytes, IsHead}
use Rattle.block_wire.proofs.BegunLemmas.{goes_calls, behind_begun, goes_further, items_grow, filled}
use Rattle.block_wire.proofs.begun.fill.Goals as goal

pub overflow_sub-begun : goal.overflow_sub-begun
overflow_sub-begun c =
    let begun = c.args.begun.now in
    let old : Place = record { at = c.args.at; rest = begun_bytes begun ++ c.args.bytes.now } in
    let place : c.new-here.result ≡ behind begun.size old = c.new-here.ensures ∙ sym (behind_begun begun c.args.at c.args.bytes.now c.requires.begun) in
    let is = goes_further (λ start end. IsHead start begun.number begun.count end) call_form begun.count begun.size begun.calls.items c.read_on-read.new.items.items old c.new-here.result
    c.read_on-read.new.cursor (goes_calls begun old) c.requires.begun place c.read_on-read.ensures.on in
    omega (arith, is.later, c.at.ensures)

pub returns-clause-grows : goal.returns-clause-grows
returns-clause-grows c =
    let at : c.new-here.result.at ≡ c.args.at + c.args.begun.now.size = ap (λ (p : Place). p.at) c.new-here.ensures in
    omega (arith, c.at.ensures, c.read_on-read.ensures.forward, at)

pub returns-clause-begun : goal.returns-clause-begun
returns-clause-begun c =
    let begun = c.args.begun.now in
    let old : Place = record { at = c.args.at; rest = begun_bytes begun ++ c.args.bytes.now } in
    let place : c.new-here.result ≡ behind begun.size old = c.new-here.ensures ∙ sym (behind_begun begun c.args.at c.args.bytes.now c.requires.begun) in
    let few : length c.read_on-read.new.items.items ≤ begun.count = search rules in
    (items_grow (λ start end. IsHead start begun.number begun.count end) call_form begun.count begun.size (c.at.result - c.args.at) begun.calls.items c.read_on-read.new.items.items old
    c.new-here.result c.read_on-read.new.cursor (goes_calls begun old) c.requires.begun place c.read_on-read.ensures.on (ap (λ n. n - c.args.at) c.at.ensures) few).0

pub returns-clause-filled : goal.returns-clause-filled
returns-clause-filled c =
    let begun = c.args.begun.now in
    let old : Place = record { at = c.args.at; rest = begun_bytes begun ++ c.args.bytes.now } in
    let place : c.new-here.result ≡ behind begun.size old = c.new-here.ensures ∙ sym (behind_begun begun c.args.at c.args.bytes.now c.requires.begun) in
    let few : length c.read_on-read.new.items.items ≤ begun.count = search rules in
    let grows = items_grow (λ start end. IsHead start begun.number begun.count end) call_form begun.count begun.size (c.at.result - c.args.at) begun.calls.items c.read_on-read.new.items.items
    old c.new-here.result c.read_on-read.new.cursor (goes_calls begun old) c.requires.begun place c.read_on-read.ensures.on (ap (λ n. n - c.args.at) c.at.ensures) few in
    filled (record begun { calls = c.read_on-read.new.items; size = c.at.result - c.args.at }) old c.read_on-read.new.cursor c.read_on-read.result grows.0 grows.1 c.read_on-read.ensures.stopped
