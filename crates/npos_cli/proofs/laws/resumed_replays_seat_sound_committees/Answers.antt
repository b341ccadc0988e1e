use Rattle.npos_cli.proofs.ResumedLaws.{seats_go_on}
use Rattle.npos_cli.proofs.laws.resumed_replays_seat_sound_committees.Goals as goal

pub returns : goal.returns
returns c = seats_go_on c.a_state_without_a_fault_is_kept.ensures c.every_seated_committee_is_sound.ensures.blocks
