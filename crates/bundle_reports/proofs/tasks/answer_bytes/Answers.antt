use Rattle.std.proofs.Common.{◌≡◌, ℕ, List, Ok, subst}
use Rattle.election_work.specs.declared.reading.Reading.{Reading}
use Rattle.election_work.specs.Bundles.{election_in, IsReading}
use Rattle.election_work.proofs.SoundLaws.{sound_bytes}
use Rattle.bundle_reports.proofs.SoundLaws.{done_sound}
use Rattle.bundle_reports.proofs.tasks.answer_bytes.Goals as goal

pub returns-in-Stands-clause-sound : goal.returns-in-Stands-clause-sound
returns-in-Stands-clause-sound c =
    let read : election_in c.as_slice.result.now ≡ Ok c.in-Stands.election =
    subst (λ (r : Reading). IsReading (election_in c.as_slice.result.now) r) c.in-Stands.is c.in_ok-read.ensures in
    done_sound c.answer_election.result c.answer_election.ensures.sound (sound_bytes c.args.task c.args.bytes.items c.in-Stands.election
    (subst (λ (bytes : List ℕ). election_in bytes ≡ Ok c.in-Stands.election) c.as_slice.ensures.value read))
