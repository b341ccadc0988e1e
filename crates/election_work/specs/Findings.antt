-- What a check finds of a bundle.
use Rattle.std.specs.Prelude.{ℕ, ◌-◌, List, length, Result, Ok, Err}
use Rattle.block_wire.specs.declared.bundle.Work.{Work}
use Rattle.block_wire.specs.declared.bundle.Work.TheVariants.{Nothing, Packed, Plain}
use Rattle.election_snapshot.specs.Snapshot.{Snapshot}
use Rattle.election_check.specs.Plain.{verdict_plain}
use Rattle.election_check.specs.Packed.{verdict_packed}
use Rattle.election_work.specs.declared.finding.Finding.{Finding}
use Rattle.election_work.specs.declared.finding.Finding.TheVariants.{Judged, Unsolved, Unread}
use Rattle.election_work.specs.declared.reading.Election.{Election}
use Rattle.election_work.specs.declared.reading.NoElection.{NoElection}
use Rattle.election_work.specs.Bundles.{election_in}

-- The verdict on the work. Work that is nothing is spelled by its tag, the last byte of the bundle.
abbrev pub work_found : ℕ → Snapshot → Work → Finding
work_found size snapshot Nothing = Unsolved (size - 1)
work_found size snapshot (Packed claim solution) = Judged (verdict_packed snapshot claim solution)
work_found size snapshot (Plain committee edges) =
    Judged (verdict_plain snapshot (record { committee = committee; edges = edges }))

abbrev pub found_in : ℕ → Election → Finding
found_in size election = work_found size election.snapshot election.work

-- bytes without an election come to why they have none
abbrev pub found_of : ℕ → Result Election NoElection → Finding
found_of size (Ok election) = found_in size election
found_of size (Err why) = Unread why

-- what is found of the work in the bytes of a bundle
abbrev pub bundle_found : List ℕ → Finding
bundle_found bytes = found_of (length bytes) (election_in bytes)
