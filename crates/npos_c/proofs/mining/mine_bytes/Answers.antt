use Rattle.std.proofs.Common.{subst}
use Rattle.election_work.specs.declared.reading.Reading.{Reading}
use Rattle.election_work.specs.Bundles.{election_in, IsReading}
use Rattle.npos_c.proofs.YesLaws.{sound_mined}
use Rattle.npos_c.proofs.mining.mine_bytes.Goals as goal

pub returns-in-Stands-clause-sound : goal.returns-in-Stands-clause-sound
returns-in-Stands-clause-sound c = sound_mined c.args.miner c.args.bytes.now c.in-Stands.election c.mine_election.result
    (subst (λ (r : Reading). IsReading (election_in c.args.bytes.now) r) c.in-Stands.is c.in_ok-election.ensures)
    c.mine_election.ensures.sound
