-- A fault of the seats makes a round void.
use Rattle.std.proofs.Common.{◌≡◌, ℕ, Bool, true, false, ◌||◌, nat_eq, nat_lt, length, Some, None, refl, sym, ◌∙◌, ap₂, if◌then◌else◌}
use Rattle.election_snapshot.specs.Draft.{Draft, finish_fault}
use Rattle.election_snapshot.specs.Snapshot.{total_of}
use Rattle.election_snapshot.specs.declared.fault.SnapshotFault.{SnapshotFault}
use Rattle.election_snapshot.specs.declared.fault.SnapshotFault.TheVariants.{Few, Poor, BadSeats}
use Rattle.npos_runtime.specs.declared.chain.Chain.{Chain}
use Rattle.npos_runtime.specs.declared.round.Round.{Round}
use Rattle.npos_runtime.specs.declared.round.Round.TheVariants.{Void, Open}
use Rattle.block_receipts.specs.declared.line.Line.{Line}
use Rattle.block_receipts.specs.declared.line.Line.TheVariants as lines
use Rattle.npos_runtime.specs.Rules.Ballots.{ballot_of, snapshot_of, commissions_of}
use Rattle.chain_params.specs.Rules.{seats_of}
use Rattle.npos_runtime.specs.Rules.Rounds.{is_few, is_poor, round_now, round_line}

few_at : (bad few poor : Bool) (a b c d : SnapshotFault) (v o : Round) (x y z : Line) → ((a ≡ d) → ⊥) → ((c ≡ d) → ⊥)
    → (if bad then Some a else if few then Some b else if poor then Some c else None) ≡ Some d
    → (v ≡ (if few || poor then v else o)) × (x ≡ (if few then x else if poor then y else z))
few_at true few poor a b c d v o x y z p q e = absurd (p cc)
few_at false true poor a b c d v o x y z p q e = (refl, refl)
few_at false false true a b c d v o x y z p q e = absurd (q cc)
few_at false false false a b c d v o x y z p q e = cc

poor_at : (bad few poor : Bool) (a b c d : SnapshotFault) (v o : Round) (x y z : Line) → ((a ≡ d) → ⊥) → ((b ≡ d) → ⊥)
    → (if bad then Some a else if few then Some b else if poor then Some c else None) ≡ Some d
    → (v ≡ (if few || poor then v else o)) × (y ≡ (if few then x else if poor then y else z))
poor_at true few poor a b c d v o x y z p q e = absurd (p cc)
poor_at false true poor a b c d v o x y z p q e = absurd (q cc)
poor_at false false true a b c d v o x y z p q e = (refl, refl)
poor_at false false false a b c d v o x y z p q e = cc

bad_few : (n t s : ℕ) → BadSeats n ≡ Few t s → ⊥
bad_few n t s e = cc

poor_few : (a b t s : ℕ) → Poor a b ≡ Few t s → ⊥
poor_few a b t s e = cc

bad_poor : (n t s : ℕ) → BadSeats n ≡ Poor t s → ⊥
bad_poor n t s e = cc

few_poor : (a b t s : ℕ) → Few a b ≡ Poor t s → ⊥
few_poor a b t s e = cc

pub few_void : (chain : Chain) (draft : Draft) (seats number t s : ℕ) → draft ≡ ballot_of chain → seats ≡ seats_of chain.params → finish_fault draft seats ≡ Some (Few t s)
    → (Void number ≡ round_now chain number) × (lines.VoidFew number ≡ round_line number (snapshot_of chain))
few_void chain draft seats number t s is seated_is fault =
    few_at (nat_eq (seats_of chain.params) 0 || nat_lt 512 (seats_of chain.params)) (is_few (snapshot_of chain)) (is_poor (snapshot_of chain))
    (BadSeats (seats_of chain.params)) (Few (length (snapshot_of chain).targets) (seats_of chain.params))
    (Poor (total_of (snapshot_of chain).voters) (seats_of chain.params)) (Few t s) (Void number)
    (Open number (snapshot_of chain) (commissions_of chain.roles))
    (lines.VoidFew number) (lines.VoidPoor number) (lines.Snapshot number (length (snapshot_of chain).targets)
    (length (snapshot_of chain).voters) (total_of (snapshot_of chain).voters))
    (bad_few (seats_of chain.params) t s) (poor_few (total_of (snapshot_of chain).voters) (seats_of chain.params)
    t s)
    (sym (ap₂ finish_fault is seated_is) ∙ fault)

pub poor_void : (chain : Chain) (draft : Draft) (seats number t s : ℕ) → draft ≡ ballot_of chain → seats ≡ seats_of chain.params → finish_fault draft seats ≡ Some (Poor t s)
    → (Void number ≡ round_now chain number) × (lines.VoidPoor number ≡ round_line number (snapshot_of chain))
poor_void chain draft seats number t s is seated_is fault =
    poor_at (nat_eq (seats_of chain.params) 0 || nat_lt 512 (seats_of chain.params)) (is_few (snapshot_of chain)) (is_poor (snapshot_of chain))
    (BadSeats (seats_of chain.params)) (Few (length (snapshot_of chain).targets) (seats_of chain.params))
    (Poor (total_of (snapshot_of chain).voters) (seats_of chain.params)) (Poor t s) (Void number)
    (Open number (snapshot_of chain) (commissions_of chain.roles))
    (lines.VoidFew number) (lines.VoidPoor number) (lines.Snapshot number (length (snapshot_of chain).targets)
    (length (snapshot_of chain).voters) (total_of (snapshot_of chain).voters))
    (bad_poor (seats_of chain.params) t s) (few_poor (length (snapshot_of chain).targets) (seats_of chain.params)
    t s)
    (sym (ap₂ finish_fault is seated_is) ∙ fault)
