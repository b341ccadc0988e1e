use Rattle.election_work.proofs.SoundLaws.{sound_mined}
use Rattle.election_work.proofs.mining.mine_election.Goals as goal

pub returns-clause-sound : goal.returns-clause-sound
returns-clause-sound c = sound_mined c.args.miner c.args.election c.mine_snapshot.result c.every_snapshot_is_well_formed.ensures c.mine_snapshot.ensures.mined
