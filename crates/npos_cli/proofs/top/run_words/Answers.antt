use Rattle.std.proofs.Common.{rules, ◌≡◌, map, string_bytes, Option, subst}
use Rattle.std.proofs.lemmas.Result.{err_from_is_err_and}
use Rattle.npos_cli.specs.declared.job.Job.{Job}
use Rattle.npos_cli.specs.Words.{job_of}
use Rattle.npos_cli.specs.Ran.{Ran, traffic}
use Rattle.npos_cli.specs.declared.output.Output.TheVariants.{Receipts, Checkpoint}
use Rattle.npos_cli.proofs.JobLaws.{starved_ran}
use Rattle.npos_cli.proofs.CourseLaws.{wary_first}
use Rattle.npos_cli.proofs.top.run_words.Goals as goal

pub returns-in_err-command-clause-ran : goal.returns-in_err-command-clause-ran
returns-in_err-command-clause-ran g c =
    let p = err_from_is_err_and c.from_residual.result c.from_residual.ensures.1 in
    rw (p.1, p.2) (starved_ran (job_of (map string_bytes c.args.words.now)) (g.S.Source.left c.args.source.now) (g.K.Sink.told c.args.sink.now)
    (g.S.Source.faults c.args.source.now) (g.K.Sink.faults c.args.sink.now))

pub returns-clause-ran : goal.returns-clause-ran
returns-clause-ran g c =
    let job : c.map.result ≡ job_of (map string_bytes c.args.words.now) = search rules in
    subst (λ (j : Option Job). Ran j (traffic g.S.Source.left g.K.Sink.told g.S.Source.faults g.K.Sink.faults
    c.args.source.now c.run_job.new.source c.args.sink.now c.run_job.new.sink) c.run_job.result)
    job c.run_job.ensures.ran

-- nothing was read
pub returns-in_err-command-clause-wary : goal.returns-in_err-command-clause-wary
returns-in_err-command-clause-wary g c = λ replays. wary_first Receipts (g.S.Source.left c.args.source.now) (g.S.Source.asked c.args.source.now).last

pub returns-in_err-command-clause-wary_checkpoint : goal.returns-in_err-command-clause-wary_checkpoint
returns-in_err-command-clause-wary_checkpoint g c = λ stops. wary_first Checkpoint (g.S.Source.left c.args.source.now) (g.S.Source.asked c.args.source.now).last
