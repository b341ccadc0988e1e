use Rattle.std.proofs.Common.{rules, ◌≡◌, drop, None}
use Rattle.scale_wire.specs.Reading.{Place, IsRead}
use Rattle.block_wire.specs.Begun.{next_form, behind}
use Rattle.block_wire.proofs.StreamLemmas.{none_taken}
use Rattle.block_wire.proofs.stream.StreamReader.take_next.Goals as goal

pub returns-in-Last-clause-reads : goal.returns-in-Last-clause-reads
returns-in-Last-clause-reads c =
    let here : Place = record { at = c.self.inside.at; rest = drop c.self.inside.from c.self.inside.bytes.items } in
    let none : c.self.inside.begun ≡ None = search rules in
    let gone : c.take-begun.new.self ≡ None = search rules in
    let read : IsRead next_form here None (behind 1 here) = search rules in
    none_taken c.self.inside.begun c.take-begun.new.self c.self.inside.at c.self.inside.from c.self.inside.bytes.items c.args.self.now none gone c.self.view_is read
