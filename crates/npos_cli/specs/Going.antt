-- What going through the items of an input comes to that was read whole, at one place and until the end.
use Rattle.std.specs.Prelude.{◌≡◌, ◌<◌, ℕ, Bool, true, false, List, [], ◌++◌, length}
use Rattle.scale_wire.specs.declared.fault.Why.TheVariants.{Trailing}
use Rattle.scale_wire.specs.Reading.{Place}
use Rattle.bundle_reports.specs.Texts.{fault_line}
use Rattle.npos_cli.specs.declared.going.Turn.{Turn}
use Rattle.npos_cli.specs.declared.going.Turn.TheVariants.{Taken, Last}
use Rattle.run_edges.specs.Replay.{Machine, Spot, IsTurn, behind, Reaches, Stops}

-- Behind the None: the line of the byte that follows, or the ending where none does.
abbrev pub EndsHere : Place → List ℕ → List ℕ → List ℕ → Turn → Type 0
EndsHere place ending old new Taken = ⊥
EndsHere place ending old new (Last true) =
    (0 < length place.rest) × (new ≡ old ++ fault_line place.at Trailing)
EndsHere place ending old new (Last false) = (place.rest ≡ []) × (new ≡ old ++ ending)

-- an item was taken and told, or the input ends here with this line
abbrev pub TakesItem : {G B S E : Type 0} → Machine G B S E → Spot S → Spot S → List ℕ → List ℕ → Turn → Type 0
TakesItem {G} {B} {S} {E} m p q old new Taken = (item : B) × IsTurn m p item q.rest
    × (q ≡ behind m p item q.rest) × (new ≡ old ++ m.lines p.state item)
TakesItem m p q old new (Last faulty) = (line : List ℕ) × Stops m p line faulty × (new ≡ old ++ line)

-- items lead from here to where the input ends
abbrev pub GoesOn : {G B S E : Type 0} → Machine G B S E → Spot S → List ℕ → List ℕ → Bool → Type 0
GoesOn {G} {B} {S} {E} m p old new faulty = (q : Spot S) × (written : List ℕ) × (line : List ℕ)
    × Reaches m p q written × Stops m q line faulty × (new ≡ old ++ (written ++ line))
