use Rattle.npos_cli.proofs.BookLaws.{books_balance}
use Rattle.npos_cli.proofs.laws.replays_balance.Goals as goal

pub returns : goal.returns
returns c = books_balance
