use Rattle.std.proofs.Common.{◌≡◌, Some, IfSome, refl, subst}
use Rattle.std.proofs.lemmas.Result.{err_from_is_err_and}
use Rattle.npos_cli.specs.declared.job.Job.TheVariants as jobs
use Rattle.election_work.specs.declared.asked.Task.{Task}
use Rattle.election_work.specs.declared.asked.Task.TheVariants as tasks
use Rattle.npos_base.specs.declared.miner.Miner.TheVariants as miners
use Rattle.election_work.specs.Sound.{IsSound}
use Rattle.run_edges.specs.Status.{status_of}
use Rattle.run_edges.specs.Owed.{Ends}
use Rattle.npos_cli.specs.Ran.{traffic}
use Rattle.npos_cli.proofs.JobLaws.{unwritten_ran, ended_ran, ends_unwritten}
use Rattle.npos_cli.proofs.top.report.Goals as goal

-- the bundle was not read whole, or memory ran out
pub returns-in_err-answer-clause-ran : goal.returns-in_err-answer-clause-ran
returns-in_err-answer-clause-ran g c =
    let p = err_from_is_err_and c.from_residual.result c.from_residual.ensures.1 in
    rw (p.1, p.2) (unwritten_ran (Some (jobs.OnBundle c.args.task))
    (traffic g.S.Source.left g.K.Sink.told g.S.Source.faults g.K.Sink.faults c.args.source.now
    c.bundle_answer.new.source c.args.sink.now c.args.sink.now)
    (record { other = λ e. cc; few = λ _. c.in_err-answer.ensures.few }) c.in_err-answer.field-0.0 refl refl (λ e. tt) c.in_err-answer.ensures.faults c.in_err-answer.ensures.unwritten)

-- what is owed was delivered, or a front of it
pub returns-clause-ran : goal.returns-clause-ran
returns-clause-ran g c =
    let answer = c.in_ok-answer.answer in
    let ends : Ends answer.text.items (status_of answer.ending) (g.K.Sink.told c.args.sink.now) (g.K.Sink.told c.deliver.new.sink) c.deliver.result =
    rw (c.as_slice.ensures.value, c.status_of.ensures) at c.deliver.ensures.ends in
    ended_ran (Some (jobs.OnBundle c.args.task)) (traffic g.S.Source.left g.K.Sink.told g.S.Source.faults
    g.K.Sink.faults c.args.source.now c.bundle_answer.new.source c.args.sink.now c.deliver.new.sink)
    (record { other = λ e. cc; few = λ _. c.in_ok-answer.ensures.few }) answer.text.items (status_of answer.ending) c.deliver.result c.in_ok-answer.ensures.due ends c.in_ok-answer.ensures.faults
    c.deliver.ensures.faults (λ judged _. c.in_ok-answer.ensures.drained judged)
    (λ task e done. let same : c.args.task ≡ task = cc in subst (λ (t : Task). IfSome (g.S.Source.left c.args.source.now) (IsSound t)) same (c.in_ok-answer.ensures.sound done))
    (λ e. let same : c.args.task ≡ tasks.Mine miners.Fill = cc in c.in_ok-answer.ensures.passes same)

pub returns-clause-unwritten : goal.returns-clause-unwritten
returns-clause-unwritten g c =
    ends_unwritten (c.deliver.new.sink ≡ c.args.sink.now) _ _ (g.K.Sink.told c.args.sink.now) (g.K.Sink.told c.deliver.new.sink) c.deliver.result c.deliver.ensures.ends
