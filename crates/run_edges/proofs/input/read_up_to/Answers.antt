use Rattle.std.proofs.Common.{rules, ◌+◌}
use Rattle.run_edges.proofs.EdgeLaws.{takes_more}
use Rattle.run_edges.proofs.input.read_up_to.Goals as goal

pub returns-in_err-read_more-clause-few : goal.returns-in_err-read_more-clause-few
returns-in_err-read_more-clause-few g c =
    takes_more (g.S.Source.left c.args.source.now) (g.S.Source.left c.reads.source) (g.S.Source.left c.read_more.new.source) c.reads.bytes.items _ (c.args.most + 1)
    c.reads.invariant.2 c.in_err-read_more.ensures.few (search rules)
