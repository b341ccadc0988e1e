use Rattle.std.proofs.Common.{◌≡◌, Ok, map, string_bytes, rules}
use Rattle.std.specs.Process.{exit_status}
use Rattle.run_edges.specs.Status.{status_number}
use Rattle.npos_cli.specs.Ran.{traffic, calls}
use Rattle.npos_cli.specs.Says.{Says}
use Rattle.npos.proofs.finish.Goals as goal

pub returns-in-Ok-clause-says : goal.returns-in-Ok-clause-says
returns-in-Ok-clause-says g c =
    let t = traffic g.S.Source.left g.K.Sink.told g.S.Source.faults g.K.Sink.faults c.args.source.now c.run.new.source c.args.sink.now c.run.new.sink in
    let called = calls g.S.Source.asked g.K.Sink.tried c.args.source.now c.run.new.source c.args.sink.now c.run.new.sink in
    let words : c.args.words ≡ Ok c.in-Ok.words = search rules in
    let ends : exit_status c.from.result ≡ status_number c.run.result = search rules in
    let same : Says (map string_bytes c.in-Ok.words.items) t called (c.run.new.source ≡ c.args.source.now) (c.run.new.sink ≡ c.args.sink.now) c.run.result = rw c.as_slice.ensures.value at c.run.ensures in
    rw words (c.run.result, ends, same)
