use Rattle.npos_cli.proofs.CrowdingLaws.{none_crowded}
use Rattle.npos_cli.proofs.laws.replays_crowd_nothing_out.Goals as goal

pub returns : goal.returns
returns c = none_crowded c.nothing_valid_is_crowded_out_for_free.ensures
