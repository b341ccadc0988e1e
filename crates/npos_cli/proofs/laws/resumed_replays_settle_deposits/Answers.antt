use Rattle.npos_cli.proofs.ResumedLaws.{deposits_go_on}
use Rattle.npos_cli.proofs.laws.resumed_replays_settle_deposits.Goals as goal

pub returns : goal.returns
returns c = deposits_go_on c.a_state_without_a_fault_is_kept.ensures c.deposits_go_on.ensures
