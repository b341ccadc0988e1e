-- The election of the bytes of a bundle, with the work of its solver.
use Rattle.std.specs.Prelude.{◌≡◌, ℕ, nat_lt, if◌then◌else◌, List, length, Result, Ok, Err}
use Rattle.scale_wire.specs.declared.fault.WireFault.{WireFault}
use Rattle.scale_wire.specs.WholeReading.{read_as}
use Rattle.block_wire.specs.declared.bundle.Bundle.{Bundle}
use Rattle.block_wire.specs.Bundles.{bundle_form}
use Rattle.block_wire.specs.BundleLaws.{bundle_laws}
use Rattle.election_snapshot.specs.declared.fault.SnapshotFault.{SnapshotFault}
use Rattle.election_snapshot.specs.Snapshot.{Snapshot}
use Rattle.election_work.specs.declared.reading.TheConstants.{MOST_BUNDLE}
use Rattle.election_work.specs.declared.reading.Election.{Election}
use Rattle.election_work.specs.declared.reading.NoElection.{NoElection}
use Rattle.election_work.specs.declared.reading.NoElection.TheVariants.{Long, Refused, Unelectable}
use Rattle.election_work.specs.declared.reading.Reading.{Reading}
use Rattle.election_work.specs.declared.reading.Reading.TheVariants as readings
use Rattle.election_work.specs.Elections.{snapshot_of}

-- the election is built before its work is looked at
abbrev pub election_of : Bundle → Result Snapshot SnapshotFault → Result Election NoElection
election_of bundle (Ok snapshot) = Ok (record { snapshot = snapshot; work = bundle.work })
election_of bundle (Err fault) = Err (Unelectable fault)

-- the bundle is read whole before its election is built
abbrev pub read_election : Result Bundle WireFault → Result Election NoElection
read_election (Ok bundle) = election_of bundle (snapshot_of bundle)
read_election (Err fault) = Err (Refused fault)

-- the election that the bytes spell, or their first fault
abbrev pub election_in : List ℕ → Result Election NoElection
election_in bytes =
    if nat_lt MOST_BUNDLE (length bytes) then Err Long
    else read_election (read_as bundle_form bundle_laws bytes)

-- what was read is the election that is due, or why there is none
abbrev pub IsReading : Result Election NoElection → Reading → Type 0
IsReading due (readings.Stands election) = due ≡ Ok election
IsReading due (readings.Refused why) = due ≡ Err why
