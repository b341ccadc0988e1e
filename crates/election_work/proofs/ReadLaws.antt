-- What follows where bytes spell an election, and where they are too many.
use Rattle.std.proofs.Common.{◌≡◌, ℕ, ◌*◌, ◌<◌, ◌≤◌, ◌||◌, Bool, true, false, nat_eq, nat_lt, if◌then◌else◌, List, length, Option, Some, None, Result, Ok, Err, refl, sym, subst}
use Rattle.std.proofs.lemmas.Bool.{lt-ltb, ltb-false, true≢false}
use Rattle.npos_base.specs.declared.limits.TheConstants.{MOST_SEATS}
use Rattle.scale_wire.specs.declared.fault.WireFault.{WireFault}
use Rattle.scale_wire.specs.WholeReading.{read_as}
use Rattle.block_wire.specs.declared.bundle.Bundle.{Bundle}
use Rattle.block_wire.specs.Bundles.{bundle_form}
use Rattle.block_wire.specs.BundleLaws.{bundle_laws}
use Rattle.election_snapshot.specs.declared.fault.SnapshotFault.{SnapshotFault}
use Rattle.election_snapshot.specs.declared.fault.SnapshotFault.TheVariants.{BadSeats, Few, Poor}
use Rattle.election_snapshot.specs.Snapshot.{Snapshot, total_of}
use Rattle.election_snapshot.specs.Draft.{Draft, first_seats_fault, finish_fault, seated}
use Rattle.election_work.specs.declared.reading.TheConstants.{MOST_BUNDLE}
use Rattle.election_work.specs.declared.reading.Election.{Election}
use Rattle.election_work.specs.declared.reading.NoElection.TheVariants.{Long}
use Rattle.election_work.specs.Elections.{unless, and_then, draft_of, snapshot_of}
use Rattle.election_work.specs.Bundles.{election_of, read_election, election_in}

-- more than the limit is refused alike, whatever follows
pub election_long : (bytes : List ℕ) → MOST_BUNDLE < length bytes → election_in bytes ≡ Err Long
election_long bytes over = long (nat_lt MOST_BUNDLE (length bytes)) (lt-ltb MOST_BUNDLE (length bytes) over) where
  long : (b : Bool) → b ≡ true → (if b then Err Long else read_election (read_as bundle_form bundle_laws bytes)) ≡ Err Long
  long true e = refl
  long false e = absurd (true≢false (sym e))

-- ## Where there is an election

abbrev pub on_bundle : Snapshot → Bundle → Election
on_bundle snapshot bundle = record { snapshot = snapshot; work = bundle.work }

pub record IsRead (bytes : List ℕ) (election : Election) : Type 0 where
  pub bundle : Bundle
  pub is_bundle : read_as bundle_form bundle_laws bytes ≡ Ok bundle
  pub snapshot : Snapshot
  pub is_snapshot : snapshot_of bundle ≡ Ok snapshot
  pub is_election : on_bundle snapshot bundle ≡ election

pub was_read : (bytes : List ℕ) (election : Election) → election_in bytes ≡ Ok election → IsRead bytes election
was_read bytes election e = by (nat_lt MOST_BUNDLE (length bytes)) e where
  built : (bundle : Bundle) → read_as bundle_form bundle_laws bytes ≡ Ok bundle → (found : Result Snapshot SnapshotFault) → snapshot_of bundle ≡ found
      → election_of bundle found ≡ Ok election → IsRead bytes election
  built bundle is (Ok snapshot) found e = record {
    bundle = bundle;
    is_bundle = is;
    snapshot = snapshot;
    is_snapshot =
        found;
    is_election = let same : on_bundle snapshot bundle ≡ election = cc in same;
  }
  built bundle is (Err fault) found e = absurd (cc)

  read : (r : Result Bundle WireFault) → read_as bundle_form bundle_laws bytes ≡ r → read_election r ≡ Ok election → IsRead bytes election
  read (Ok bundle) is e = built bundle is (snapshot_of bundle) refl e
  read (Err fault) is e = absurd (cc)

  by : (b : Bool) → (if b then Err Long else read_election (read_as bundle_form bundle_laws bytes)) ≡ Ok election → IsRead bytes election
  by true e = absurd (cc)
  by false e = read (read_as bundle_form bundle_laws bytes) refl e

-- an election has a target for each seat
enough_targets : (targets total seats : ℕ) → first_seats_fault targets total seats ≡ None → seats ≤ targets
enough_targets targets total seats none = by (nat_eq seats 0 || nat_lt MOST_SEATS seats) (nat_lt targets seats) (nat_lt total (seats * seats)) refl none where
  by : (a b c : Bool) → nat_lt targets seats ≡ b
      → (if a then Some (BadSeats seats) else if b then Some (Few targets seats) else if c then Some (Poor total seats) else None) ≡ None → seats ≤ targets
  by true b c e none = absurd (cc)
  by false true c e none = absurd (cc)
  by false false c e none = ltb-false targets seats e

built_enough : (draft : Draft) (seats : ℕ) (snapshot : Snapshot) → unless (finish_fault draft seats) (seated draft seats) ≡ Ok snapshot → snapshot.seats ≤ length snapshot.targets
built_enough draft seats snapshot is = by (finish_fault draft seats) refl is where
  by : (fault : Option SnapshotFault) → finish_fault draft seats ≡ fault → unless fault (seated draft seats) ≡ Ok snapshot → snapshot.seats ≤ length snapshot.targets
  by None none is =
      let same : seated draft seats ≡ snapshot = cc in
      subst (λ (s : Snapshot). s.seats ≤ length s.targets) same (enough_targets (length draft.targets) (total_of draft.voters) seats none)
  by (Some fault) some is = absurd (cc)

snapshot_enough : (bundle : Bundle) (snapshot : Snapshot) → snapshot_of bundle ≡ Ok snapshot → snapshot.seats ≤ length snapshot.targets
snapshot_enough bundle snapshot is = by (draft_of bundle) is where
  by : (draft : Result Draft SnapshotFault) → and_then draft (λ draft. unless (finish_fault draft bundle.seats) (seated draft bundle.seats)) ≡ Ok snapshot → snapshot.seats ≤ length snapshot.targets
  by (Ok draft) is = built_enough draft bundle.seats snapshot is
  by (Err fault) is = absurd (cc)

pub election_enough : (bytes : List ℕ) (election : Election) → election_in bytes ≡ Ok election → election.snapshot.seats ≤ length election.snapshot.targets
election_enough bytes election is =
    let read = was_read bytes election is in
    subst (λ (e : Election). e.snapshot.seats ≤ length e.snapshot.targets) read.is_election (snapshot_enough read.bundle read.snapshot read.is_snapshot)
