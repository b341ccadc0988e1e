-- The election of a bundle: its targets are added in their order, then its voters in theirs, and
-- then it gets its seats.
use Rattle.std.specs.Prelude.{List, [], ◌∷◌, Option, Some, None, Result, Ok, Err}
use Rattle.npos_base.specs.declared.account.AccountId.{AccountId}
use Rattle.block_wire.specs.declared.bundle.Bundle.{Bundle}
use Rattle.block_wire.specs.declared.bundle.BundleVoter.{BundleVoter}
use Rattle.election_snapshot.specs.declared.fault.SnapshotFault.{SnapshotFault}
use Rattle.election_snapshot.specs.Snapshot.{Snapshot}
use Rattle.election_snapshot.specs.Draft.{Draft, target_fault, with_target, voter_fault, with_voter, finish_fault, seated}

-- what stands where there is no fault
abbrev pub unless : {A : Type 0} → Option SnapshotFault → A → Result A SnapshotFault
unless None value = Ok value
unless (Some fault) value = Err fault

-- goes on where there was no fault
abbrev pub and_then : {A B : Type 0} → Result A SnapshotFault → (A → Result B SnapshotFault)
    → Result B SnapshotFault
and_then (Ok value) next = next value
and_then (Err fault) next = Err fault

abbrev pub with_targets : List AccountId → Draft → Result Draft SnapshotFault
with_targets [] draft = Ok draft
with_targets (who ∷ more) draft = and_then (unless (target_fault draft who) (with_target draft who))
    (with_targets more)

abbrev pub fault_of : Draft → BundleVoter → Option SnapshotFault
fault_of draft voter = voter_fault draft voter.account voter.stake voter.votes

abbrev pub draft_with : Draft → BundleVoter → Draft
draft_with draft voter = with_voter draft voter.account voter.stake voter.votes

abbrev pub with_voters : List BundleVoter → Draft → Result Draft SnapshotFault
with_voters [] draft = Ok draft
with_voters (voter ∷ more) draft = and_then (unless (fault_of draft voter) (draft_with draft voter))
    (with_voters more)

abbrev pub empty_draft : Draft
empty_draft = record { targets = []; voters = [] }

abbrev pub draft_of : Bundle → Result Draft SnapshotFault
draft_of bundle = and_then (with_targets bundle.targets empty_draft) (with_voters bundle.voters)

-- the snapshot of the election, or its first fault
abbrev pub snapshot_of : Bundle → Result Snapshot SnapshotFault
snapshot_of bundle =
    and_then (draft_of bundle) (λ draft. unless (finish_fault draft bundle.seats) (seated draft bundle.seats))
