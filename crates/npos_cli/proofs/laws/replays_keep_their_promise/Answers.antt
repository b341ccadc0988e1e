use Rattle.npos_cli.proofs.ClaimLaws.{always_chained}
use Rattle.npos_cli.proofs.laws.replays_keep_their_promise.Goals as goal

pub returns : goal.returns
returns c = always_chained c.every_history_keeps_its_promise.ensures
