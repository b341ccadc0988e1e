use Rattle.npos_cli.proofs.ClaimLaws.{stops_and_goes_on}
use Rattle.npos_cli.proofs.laws.what_stops_goes_on.Goals as goal

pub returns : goal.returns
returns c = stops_and_goes_on c.replays_write_checkpoints.ensures c.replays_go_on_from_checkpoints.ensures
