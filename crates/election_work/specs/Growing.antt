-- A bundle that is read part by part: each voter is added to the election as it is read, and let go.
use Rattle.std.specs.Prelude.{◌≡◌, ℕ, List, Result, Ok, Err}
use Rattle.scale_wire.specs.declared.fault.ReadFault.{ReadFault}
use Rattle.scale_wire.specs.declared.fault.ReadFault.TheVariants as faults
use Rattle.scale_wire.specs.Form.{Form}
use Rattle.scale_wire.specs.Reading.{Place, IsRead, Reads}
use Rattle.scale_wire.specs.WholeReading.{read_as}
use Rattle.npos_base.specs.declared.account.AccountId.{AccountId}
use Rattle.block_wire.specs.declared.bundle.Bundle.{Bundle}
use Rattle.block_wire.specs.declared.bundle.BundleVoter.{BundleVoter}
use Rattle.block_wire.specs.declared.bundle.Work.{Work}
use Rattle.block_wire.specs.Bundles.{bundle_form}
use Rattle.block_wire.specs.BundleLaws.{bundle_laws}
use Rattle.election_snapshot.specs.declared.fault.SnapshotFault.{SnapshotFault}
use Rattle.election_snapshot.specs.Snapshot.{Snapshot}
use Rattle.election_snapshot.specs.Draft.{Draft, finish_fault, seated}
use Rattle.election_work.specs.declared.bundle_parts.Parts.{Parts}
use Rattle.election_work.specs.declared.reading.Reading.{Reading}
use Rattle.election_work.specs.Elections.{unless, and_then, with_targets, with_voters, empty_draft, draft_of}
use Rattle.election_work.specs.Bundles.{read_election, IsReading}

-- ## What an election comes to

-- what stands, and these voters behind it
abbrev pub grown : Result Draft SnapshotFault → List BundleVoter → Result Draft SnapshotFault
grown before voters = and_then before (with_voters voters)

-- the snapshot of what stands
abbrev pub finished : Result Draft SnapshotFault → ℕ → Result Snapshot SnapshotFault
finished growing seats =
    and_then growing (λ draft. unless (finish_fault draft seats) (seated draft seats))

-- the election of the targets and the voters, and the work
abbrev pub parts_behind_seats : List AccountId × List BundleVoter × Work → Result Draft SnapshotFault × Work
parts_behind_seats parts = (grown (with_targets parts.0 empty_draft) parts.1, parts.2)

-- what is kept of a bundle
abbrev pub parts_of : Bundle → Parts
parts_of bundle = record { seats = bundle.seats; growing = draft_of bundle; work = bundle.work }

-- ## Reading

-- a value was read, and what is kept is what it makes
pub record WasRead {V T : Type 0} (form : Form V) (make : V → T) (old : Place) (kept : T)
    (new : Place) : Type 0 where
  pub value : V
  pub read : IsRead form old value new
  pub kept_is : kept ≡ make value

-- a reader that keeps what the value makes, and not the value
abbrev pub ReadsTo : {V T : Type 0} → Form V → (V → T) → Place → Result T ReadFault → Place → Type 0
ReadsTo form make old (Ok kept) new = WasRead form make old kept new
ReadsTo form make old (Err fault) new = Reads form old (Err fault) new

-- the bytes spell a bundle, and these are its parts
pub record IsKept (bytes : List ℕ) (parts : Parts) : Type 0 where
  pub bundle : Bundle
  pub read : read_as bundle_form bundle_laws bytes ≡ Ok bundle
  pub parts_are : parts ≡ parts_of bundle

-- the parts of the bundle that the bytes spell, or their fault; want of memory is free
abbrev pub KeepsParts : List ℕ → Result Parts ReadFault → Type 0
KeepsParts bytes (Ok parts) = IsKept bytes parts
KeepsParts bytes (Err (faults.Wire fault)) = read_as bundle_form bundle_laws bytes ≡ Err fault
KeepsParts bytes (Err faults.NoMemory) = Unit {0}

-- what was read is the election of each bundle with these parts, or its fault
abbrev pub IsReadingOf : Parts → Reading → Type 0
IsReadingOf parts reading =
    (bundle : Bundle) → parts ≡ parts_of bundle → IsReading (read_election (Ok bundle)) reading
