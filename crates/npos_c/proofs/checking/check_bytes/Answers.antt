use Rattle.std.proofs.Common.{subst}
use Rattle.election_work.specs.declared.reading.Reading.{Reading}
use Rattle.election_work.specs.Bundles.{election_in, IsReading}
use Rattle.npos_c.proofs.YesLaws.{sound_found}
use Rattle.npos_c.proofs.checking.check_bytes.Goals as goal

pub returns-in-Stands-clause-sound : goal.returns-in-Stands-clause-sound
returns-in-Stands-clause-sound c = sound_found c.args.bytes.now c.in-Stands.election c.check_election.result
    (subst (λ (r : Reading). IsReading (election_in c.args.bytes.now) r) c.in-Stands.is c.in_ok-election.ensures)
    c.check_election.ensures.sound
