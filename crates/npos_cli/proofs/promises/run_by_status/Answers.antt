use Rattle.std.proofs.Common.{map, string_bytes, true, false}
use Rattle.npos_base.specs.Outside.{Rose}
use Rattle.npos_cli.specs.Words.{job_of}
use Rattle.npos_cli.proofs.PromiseLaws.{usage_due, usage_comes, comes_owed, reads_nothing, usage_front_of, done_of, bad_of, comes_of, front_of}
use Rattle.npos_cli.proofs.PromiseLaws.{no_verdict_of}
use Rattle.npos_cli.proofs.promises.run_by_status.Goals as goal

pub returns-clause-usage_front : goal.returns-clause-usage_front
returns-clause-usage_front g c = usage_front_of (map string_bytes c.args.words.now) (g.S.Source.left c.args.source.now) (g.K.Sink.told c.args.sink.now)
    (g.K.Sink.told c.run.new.sink) c.run.ensures.front

pub returns-clause-nothing_read : goal.returns-clause-nothing_read
returns-clause-nothing_read g c = λ unformed. c.run.ensures.unread (reads_nothing (job_of (map string_bytes c.args.words.now)) unformed)

pub returns-clause-done : goal.returns-clause-done
returns-clause-done g c = λ asked is. done_of (map string_bytes c.args.words.now) asked (g.S.Source.left c.args.source.now) (g.S.Source.left c.run.new.source)
    (g.K.Sink.told c.args.sink.now) (g.K.Sink.told c.run.new.sink) c.run.result is c.run.ensures.answers c.run.ensures.drained

pub returns-clause-done_comes : goal.returns-clause-done_comes
returns-clause-done_comes g c = λ asked. comes_of (map string_bytes c.args.words.now) asked (g.S.Source.left c.args.source.now) (g.K.Sink.told c.args.sink.now)
    (g.K.Sink.told c.run.new.sink) c.run.result (Rose (g.S.Source.faults c.args.source.now) (g.S.Source.faults c.run.new.source))
    (Rose (g.K.Sink.faults c.args.sink.now) (g.K.Sink.faults c.run.new.sink)) false c.run.ensures.answers (λ is. (c.run.ensures.read_fault is).1)
    c.run.ensures.write_fault

pub returns-clause-bad : goal.returns-clause-bad
returns-clause-bad g c = λ asked is. bad_of (map string_bytes c.args.words.now) asked (g.S.Source.left c.args.source.now) (g.K.Sink.told c.args.sink.now)
    (g.K.Sink.told c.run.new.sink) c.run.result is c.run.ensures.answers

pub returns-clause-bad_comes : goal.returns-clause-bad_comes
returns-clause-bad_comes g c = λ asked. comes_of (map string_bytes c.args.words.now) asked (g.S.Source.left c.args.source.now) (g.K.Sink.told c.args.sink.now)
    (g.K.Sink.told c.run.new.sink) c.run.result (Rose (g.S.Source.faults c.args.source.now) (g.S.Source.faults c.run.new.source))
    (Rose (g.K.Sink.faults c.args.sink.now) (g.K.Sink.faults c.run.new.sink)) true c.run.ensures.answers (λ is. (c.run.ensures.read_fault is).1)
    c.run.ensures.write_fault

pub returns-clause-replay_front : goal.returns-clause-replay_front
returns-clause-replay_front g c = λ asked. front_of (map string_bytes c.args.words.now) asked (g.S.Source.left c.args.source.now) (g.K.Sink.told c.args.sink.now)
    (g.K.Sink.told c.run.new.sink) c.run.ensures.front

pub returns-clause-owed_comes : goal.returns-clause-owed_comes
returns-clause-owed_comes g c = λ text due owed. comes_owed (map string_bytes c.args.words.now) (g.S.Source.left c.args.source.now) (g.K.Sink.told c.args.sink.now)
    (g.K.Sink.told c.run.new.sink) text due owed (Rose (g.S.Source.faults c.args.source.now) (g.S.Source.faults c.run.new.source))
    (Rose (g.K.Sink.faults c.args.sink.now) (g.K.Sink.faults c.run.new.sink)) c.run.result c.run.ensures.answers (λ is. (c.run.ensures.read_fault is).1)
    c.run.ensures.write_fault

pub returns-clause-usage : goal.returns-clause-usage
returns-clause-usage g c = usage_due (map string_bytes c.args.words.now) (g.S.Source.left c.args.source.now) (g.K.Sink.told c.args.sink.now)
    (g.K.Sink.told c.run.new.sink) c.run.result c.run.ensures.answers

pub returns-clause-usage_comes : goal.returns-clause-usage_comes
returns-clause-usage_comes g c = usage_comes (map string_bytes c.args.words.now) (g.S.Source.left c.args.source.now) (g.K.Sink.told c.args.sink.now) (g.K.Sink.told c.run.new.sink)
    c.run.result (Rose (g.S.Source.faults c.args.source.now) (g.S.Source.faults c.run.new.source)) (Rose (g.K.Sink.faults c.args.sink.now) (g.K.Sink.faults c.run.new.sink))
    c.run.ensures.answers c.run.ensures.read_fault c.run.ensures.write_fault

pub returns-clause-no_verdict : goal.returns-clause-no_verdict
returns-clause-no_verdict g c = λ asked. no_verdict_of (map string_bytes c.args.words.now) asked (g.S.Source.left c.args.source.now)
    (g.K.Sink.told c.args.sink.now) (g.K.Sink.told c.run.new.sink) c.run.result c.run.ensures.answers
