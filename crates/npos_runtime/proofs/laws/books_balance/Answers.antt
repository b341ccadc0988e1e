use Rattle.npos_runtime.proofs.Rules.LiveLemmas.{live_blocks}
use Rattle.npos_runtime.proofs.laws.books_balance.Goals as goal

pub returns : goal.returns
returns c =
    λ unspent blocks fit. (live_blocks c.args.runtime.now.state blocks (c.totals.ensures.ready unspent).between.live fit).books.balanced
