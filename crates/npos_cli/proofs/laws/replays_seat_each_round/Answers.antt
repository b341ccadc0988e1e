use Rattle.npos_cli.proofs.SeatLaws.{rounds_seated}
use Rattle.npos_cli.proofs.laws.replays_seat_each_round.Goals as goal

pub returns : goal.returns
returns c = rounds_seated c.every_round_ends_as_it_began.ensures
