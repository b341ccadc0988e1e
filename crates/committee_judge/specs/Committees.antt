-- The committee of a work: the members that it lists, whatever their weights.
use Rattle.std.specs.Prelude.{◌≡◌, ⊤, ℕ, ◌-◌, ◌<◌, Bool, true, false, nat_eq, List, [], ◌∷◌, length, All, Result, Ok, Err}
use Rattle.std.specs.List.{IsDistinct}
use Rattle.scale_wire.specs.declared.fault.WireFault.{WireFault}
use Rattle.block_wire.specs.declared.bundle.Work.{Work}
use Rattle.block_wire.specs.declared.bundle.Work.TheVariants.{Nothing, Packed, Plain}
use Rattle.election_snapshot.specs.Snapshot.{Snapshot}
use Rattle.weight_book.specs.Weights.{Weights}
use Rattle.compact_solution.specs.Solution.{Entry}
use Rattle.compact_solution.specs.Decoded.{decoded}
use Rattle.election_check.specs.declared.verdict.Verdict.{Verdict}
use Rattle.election_check.specs.declared.verdict.Verdict.TheVariants.{Yes, Undecodable, Outweighed}
use Rattle.election_check.specs.First.{first_of, or_yes}
use Rattle.election_check.specs.Steps.{size_fault}
use Rattle.election_check.specs.Plain.{members_fault}
use Rattle.election_check.specs.Packed.{expand_verdict, expanded}
use Rattle.election_work.specs.declared.finding.Finding.{Finding}
use Rattle.election_work.specs.declared.finding.Finding.TheVariants.{Judged, Unsolved}
use Rattle.election_work.specs.declared.reading.Election.{Election}
use Rattle.committee_judge.specs.declared.seating.Seating.{Seating}
use Rattle.committee_judge.specs.declared.seating.Seating.TheVariants.{Stands, Refused}

-- different targets, one for each seat
pub record IsCommittee (snapshot : Snapshot) (committee : List ℕ) : Type 0 where
  pub in_range : All (λ member. member < length snapshot.targets) committee
  pub distinct : IsDistinct nat_eq committee
  pub seats_filled : length committee ≡ snapshot.seats

-- weights of these members that give them nothing
abbrev pub without_edges : List ℕ → Weights
without_edges committee = record { committee = committee; edges = [] }

-- the first fault of the members in their order, then of their number
abbrev pub list_verdict : Snapshot → List ℕ → Verdict
list_verdict snapshot committee = or_yes (first_of (
    members_fault snapshot [] committee
    ∷ size_fault snapshot (without_edges committee)
    ∷ []))

-- Members without edges may get a Yes, or a target that outweighs; any other verdict is one on the members themselves.
abbrev pub is_refusal : Verdict → Bool
is_refusal Yes = false
is_refusal (Outweighed target prescore) = false
is_refusal verdict = true

-- the committee stands where the verdict on its members is a Yes
abbrev pub unless : Verdict → List ℕ → Result (List ℕ) Finding
unless Yes committee = Ok committee
unless verdict committee = Err (Judged verdict)

-- of plain work, the members as they are listed
abbrev pub listed : Snapshot → List ℕ → Result (List ℕ) Finding
listed snapshot committee = unless (list_verdict snapshot committee) committee

-- of a packed solution, the targets in it, rising
abbrev pub unpacked : Snapshot → Result (List (List Entry)) WireFault → Result (List ℕ) Finding
unpacked snapshot (Ok solution) = unless (expand_verdict snapshot solution) (expanded snapshot solution).committee
unpacked snapshot (Err fault) = Err (Judged (Undecodable fault.at fault.why))

-- Neither plain edges nor a claimed score play a part. Work that is nothing is spelled by its tag, the last byte.
abbrev pub committee_of : ℕ → Snapshot → Work → Result (List ℕ) Finding
committee_of size snapshot Nothing = Err (Unsolved (size - 1))
committee_of size snapshot (Packed claim bytes) = unpacked snapshot (decoded bytes)
committee_of size snapshot (Plain committee edges) = listed snapshot committee

abbrev pub committee_in : ℕ → Election → Result (List ℕ) Finding
committee_in size election = committee_of size election.snapshot election.work

-- ## What the code holds

abbrev pub IsSeating : Snapshot → Result (List ℕ) Finding → Seating → Type 0
IsSeating snapshot due (Stands seated) = (seated.snapshot ≡ snapshot) × (due ≡ Ok seated.weights.plain.committee)
IsSeating snapshot due (Refused finding) = due ≡ Err finding

abbrev pub IsSeated : Seating → Type 0
IsSeated (Stands seated) = IsCommittee seated.snapshot seated.weights.plain.committee
IsSeated (Refused finding) = ⊤
