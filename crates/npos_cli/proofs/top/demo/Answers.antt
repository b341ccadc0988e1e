use Rattle.std.proofs.Common.{◌≡◌}
use Rattle.std.proofs.lemmas.Result.{err_from_is_err_and}
use Rattle.bundle_reports.specs.Demo.{demo_report}
use Rattle.run_edges.specs.declared.status.Status.TheVariants as statuses
use Rattle.run_edges.specs.Owed.{Ends}
use Rattle.npos_cli.proofs.JobLaws.{demo_starved, demo_ends, ends_unwritten}
use Rattle.npos_cli.proofs.top.demo.Goals as goal

pub returns-in_err-text-clause-ends : goal.returns-in_err-text-clause-ends
returns-in_err-text-clause-ends g c =
    let p = err_from_is_err_and c.from_residual.result c.from_residual.ensures.1 in
    rw (p.1, p.2) (demo_starved (demo_report c.args.seed c.args.voters c.args.seats).text (g.K.Sink.told c.args.sink.now))

pub returns-clause-ends : goal.returns-clause-ends
returns-clause-ends g c =
    let text = (demo_report c.args.seed c.args.voters c.args.seats).text in
    let ends : Ends text statuses.Done (g.K.Sink.told c.args.sink.now) (g.K.Sink.told c.deliver.new.sink) c.deliver.result =
    rw (c.as_slice.ensures.value, c.in_ok-text.ensures) at c.deliver.ensures.ends in
    demo_ends text (g.K.Sink.told c.args.sink.now) (g.K.Sink.told c.deliver.new.sink) c.deliver.result ends

pub returns-clause-unwritten : goal.returns-clause-unwritten
returns-clause-unwritten g c =
    ends_unwritten (c.deliver.new.sink ≡ c.args.sink.now) _ _ (g.K.Sink.told c.args.sink.now) (g.K.Sink.told c.deliver.new.sink) c.deliver.result c.deliver.ensures.ends
