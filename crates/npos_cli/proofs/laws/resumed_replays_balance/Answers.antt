use Rattle.npos_cli.proofs.ResumedLaws.{books_go_on}
use Rattle.npos_cli.proofs.laws.resumed_replays_balance.Goals as goal

pub returns : goal.returns
returns c = books_go_on c.a_state_without_a_fault_is_kept.ensures
