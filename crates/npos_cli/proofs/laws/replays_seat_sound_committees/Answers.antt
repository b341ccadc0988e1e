use Rattle.npos_cli.proofs.SeatLaws.{seats_sound}
use Rattle.npos_cli.proofs.laws.replays_seat_sound_committees.Goals as goal

pub returns : goal.returns
returns c = seats_sound c.every_seated_committee_is_sound.ensures.step
