use Rattle.npos_cli.proofs.ResumedLaws.{rounds_go_on}
use Rattle.npos_cli.proofs.laws.resumed_replays_seat_each_round.Goals as goal

pub returns : goal.returns
returns c = rounds_go_on c.a_state_without_a_fault_is_kept.ensures c.every_round_ends_as_it_began.ensures
