use Rattle.npos_cli.proofs.BookLaws.{deposits_kept}
use Rattle.npos_cli.proofs.laws.replays_settle_deposits.Goals as goal

pub returns : goal.returns
returns c = deposits_kept c.deposits_are_settled.ensures
