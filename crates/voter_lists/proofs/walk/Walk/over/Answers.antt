-- All bags are ahead.
use Rattle.std.proofs.Common.{ap, take_all, arith}
use Rattle.voter_lists.specs.BagRows.{falling}
use Rattle.npos_base.specs.Account.{account_at}
use Rattle.voter_lists.specs.Nodes.{bags_in}
use Rattle.voter_lists.proofs.NodeLemmas.{bags_length}
use Rattle.voter_lists.proofs.walk.Walk.over.Goals as goal

pub returns : goal.returns
returns c =
    ap falling (take_all c.count.result (bags_in c.args.nodes.now) (omega (arith, c.count.ensures, bags_length c.args.nodes.now.rings (account_at c.args.nodes.now.places) c.args.nodes.now.bags)))
