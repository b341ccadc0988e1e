use Rattle.std.proofs.Common.{rules, ◌≡◌, Some, refl}
use Rattle.npos_cli.specs.declared.job.Job.TheVariants as jobs
use Rattle.run_edges.specs.declared.status.Status.TheVariants as statuses
use Rattle.npos_cli.specs.declared.output.Output.TheVariants.{Receipts, Checkpoint}
use Rattle.npos_cli.specs.Words.{usage_line}
use Rattle.run_edges.specs.Owed.{Ends}
use Rattle.npos_cli.specs.Ran.{traffic}
use Rattle.npos_cli.proofs.JobLaws.{usage_ran, usage_never_starves, demo_ran, replay_ran}
use Rattle.npos_cli.proofs.top.run_job.Goals as goal

pub returns-in-None-clause-ran : goal.returns-in-None-clause-ran
returns-in-None-clause-ran g c =
    let ends : Ends usage_line statuses.Usage (g.K.Sink.told c.args.sink.now) (g.K.Sink.told c.deliver.new.sink) c.deliver.result = rw c.as_bytes.ensures.value at c.deliver.ensures.ends in
    rw c.in-None.is (usage_ran (traffic g.S.Source.left g.K.Sink.told g.S.Source.faults g.K.Sink.faults c.args.source.now c.args.source.now c.args.sink.now c.deliver.new.sink)
    c.deliver.result ends refl c.deliver.ensures.faults)

pub returns-in-None-clause-usage_memory : goal.returns-in-None-clause-usage_memory
returns-in-None-clause-usage_memory g c =
    let ends : Ends usage_line statuses.Usage (g.K.Sink.told c.args.sink.now) (g.K.Sink.told c.deliver.new.sink) c.deliver.result = rw c.as_bytes.ensures.value at c.deliver.ensures.ends in
    λ none. usage_never_starves (g.K.Sink.told c.args.sink.now) (g.K.Sink.told c.deliver.new.sink) c.deliver.result ends

pub returns-in-Some-Replay-clause-ran : goal.returns-in-Some-Replay-clause-ran
returns-in-Some-Replay-clause-ran g c =
    let job : c.args.job ≡ Some jobs.Replay = search rules in
    rw job (replay_ran Receipts (traffic g.S.Source.left g.K.Sink.told g.S.Source.faults g.K.Sink.faults c.args.source.now c.replay.new.source c.args.sink.now c.replay.new.sink)
    c.replay.result c.replay.ensures.ends c.replay.ensures.reads c.replay.ensures.writes)

pub returns-in-Some-Checkpoint-clause-ran : goal.returns-in-Some-Checkpoint-clause-ran
returns-in-Some-Checkpoint-clause-ran g c =
    let job : c.args.job ≡ Some jobs.Checkpoint = search rules in
    rw job (replay_ran Checkpoint (traffic g.S.Source.left g.K.Sink.told g.S.Source.faults g.K.Sink.faults
    c.args.source.now c.replay-in-Some-Checkpoint.new.source c.args.sink.now c.replay-in-Some-Checkpoint.new.sink)
    c.replay-in-Some-Checkpoint.result c.replay-in-Some-Checkpoint.ensures.ends c.replay-in-Some-Checkpoint.ensures.reads c.replay-in-Some-Checkpoint.ensures.writes)

pub returns-in-Some-Checkpoint-clause-unwritten : goal.returns-in-Some-Checkpoint-clause-unwritten
returns-in-Some-Checkpoint-clause-unwritten g c = λ other. c.replay-in-Some-Checkpoint.ensures.quiet refl

pub returns-in-Some-Demo-clause-ran : goal.returns-in-Some-Demo-clause-ran
returns-in-Some-Demo-clause-ran g c =
    let job : c.args.job ≡ Some (jobs.Demo c.in-Some-Demo.seed c.in-Some-Demo.voters c.in-Some-Demo.seats) = search rules in
    rw job (demo_ran c.in-Some-Demo.seed c.in-Some-Demo.voters c.in-Some-Demo.seats
    (traffic g.S.Source.left g.K.Sink.told g.S.Source.faults g.K.Sink.faults c.args.source.now c.args.source.now
    c.args.sink.now c.demo.new.sink)
    c.demo.result c.demo.ensures.ends refl c.demo.ensures.faults)
