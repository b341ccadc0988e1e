use Rattle.std.proofs.Common.{subst, List, ℕ, Ok, Err}
use Rattle.std.proofs.lemmas.Result.{err_from_is_err_and}
use Rattle.run_edges.specs.Owed.{Puts}
use Rattle.run_edges.proofs.EdgeLaws.{put_failed, flush_failed}
use Rattle.npos_cli.proofs.CourseLaws.{finished_cut, finished_unflushed, finished_whole}
use Rattle.npos_cli.proofs.replaying.replay.Goals as goal

pub returns-in_err-put-clause-ends : goal.returns-in_err-put-clause-ends
returns-in_err-put-clause-ends g c =
    let p = err_from_is_err_and c.from_residual-in_err-put.result c.from_residual-in_err-put.ensures.1 in
    let puts = subst (λ (t : List ℕ). Puts (g.K.Sink.told c.tell_replay.new.sink) (g.K.Sink.told c.put.new.sink) t (Err c.in_err-put.field-0.0)) c.as_slice.ensures.value c.in_err-put.ensures.puts in
    rw (p.1, p.2) (finished_cut c.args.output (g.S.Source.left c.args.source.now) (g.S.Source.left c.tell_replay.new.source) (g.K.Sink.told c.args.sink.now) (g.K.Sink.told c.tell_replay.new.sink)
    c.tell_replay.new.text.items c.in_ok-faulty.faulty c.in_ok-faulty.ensures.runs (g.K.Sink.told c.put.new.sink) c.in_err-put.field-0.0 puts)

pub returns-in_err-flush-clause-ends : goal.returns-in_err-flush-clause-ends
returns-in_err-flush-clause-ends g c =
    let p = err_from_is_err_and c.from_residual-in_err-flush.result c.from_residual-in_err-flush.ensures.1 in
    let puts = subst (λ (t : List ℕ). Puts (g.K.Sink.told c.tell_replay.new.sink) (g.K.Sink.told c.put.new.sink) t (Ok tt)) c.as_slice.ensures.value c.in_ok-put.ensures.puts in
    rw (p.1, p.2) (finished_unflushed c.args.output (g.S.Source.left c.args.source.now)
    (g.S.Source.left c.tell_replay.new.source) (g.K.Sink.told c.args.sink.now)
    (g.K.Sink.told c.tell_replay.new.sink)
    c.tell_replay.new.text.items c.in_ok-faulty.faulty c.in_ok-faulty.ensures.runs (g.K.Sink.told c.put.new.sink)
    (g.K.Sink.told c.flush.new.sink) c.in_err-flush.field-0.0 puts c.in_err-flush.ensures.flushes)

pub returns-clause-ends : goal.returns-clause-ends
returns-clause-ends g c =
    let puts = subst (λ (t : List ℕ). Puts (g.K.Sink.told c.tell_replay.new.sink) (g.K.Sink.told c.put.new.sink) t (Ok tt)) c.as_slice.ensures.value c.in_ok-put.ensures.puts in
    finished_whole c.args.output (g.S.Source.left c.args.source.now) (g.S.Source.left c.tell_replay.new.source) (g.K.Sink.told c.args.sink.now) (g.K.Sink.told c.tell_replay.new.sink)
    c.tell_replay.new.text.items c.in_ok-faulty.faulty c.in_ok-faulty.ensures.runs (g.K.Sink.told c.put.new.sink) (g.K.Sink.told c.flush.new.sink) c.replay_status.result
    puts c.in_ok-flush.ensures.flushes c.replay_status.ensures

pub returns-in_err-put-clause-quiet : goal.returns-in_err-put-clause-quiet
returns-in_err-put-clause-quiet g c =
    let p = err_from_is_err_and c.from_residual-in_err-put.result c.from_residual-in_err-put.ensures.1 in
    rw (p.1, p.2) (λ silent other. absurd (other (put_failed (g.K.Sink.told c.tell_replay.new.sink) (g.K.Sink.told c.put.new.sink) _ c.in_err-put.field-0.0 c.in_err-put.ensures.puts)))

pub returns-in_err-flush-clause-quiet : goal.returns-in_err-flush-clause-quiet
returns-in_err-flush-clause-quiet g c =
    let p = err_from_is_err_and c.from_residual-in_err-flush.result c.from_residual-in_err-flush.ensures.1 in
    rw (p.1, p.2) (λ silent other. absurd (other (flush_failed (g.K.Sink.told c.put.new.sink) (g.K.Sink.told c.flush.new.sink) c.in_err-flush.field-0.0 c.in_err-flush.ensures.flushes)))
