use Rattle.std.proofs.Common.{◌≡◌, sym, ◌∙◌}
use Rattle.election_work.proofs.SoundLaws.{sound_finding}
use Rattle.election_work.proofs.checking.check_election.Goals as goal

pub returns-clause-sound : goal.returns-clause-sound
returns-clause-sound c = sound_finding c.args.size c.args.election c.check_work.result c.every_snapshot_is_well_formed.ensures c.check_work.ensures
