use Rattle.bundle_reports.specs.Answer.{report_of}
use Rattle.npos_cli.proofs.RewriteLaws.{rewrite_found}
use Rattle.npos_cli.proofs.rewriting.rewrite_answer.Goals as goal

pub returns-clause-due : goal.returns-clause-due
returns-clause-due g c = rewrite_found c.args.way (g.S.Source.left c.args.source.now) (g.S.Source.left c.read_up_to.new.source) c.in_ok-bytes.bytes.items
    (report_of c.in_ok-answer.answer) c.in_ok-bytes.ensures.read c.in_ok-answer.ensures
