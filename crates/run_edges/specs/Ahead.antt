-- What was read of an input so far, while more of it may come.
use Rattle.std.specs.Prelude.{◌≡◌, ◌⊎◌, ⊤, ℕ, ◌≤◌, Bool, true, List, [], ◌++◌, length, Option, Result, Ok, Err}
use Rattle.npos_base.specs.Outside.{IsAtEnd}
use Rattle.scale_wire.specs.declared.fault.Why.{Why}
use Rattle.scale_wire.specs.declared.fault.Why.TheVariants.{Short}
use Rattle.scale_wire.specs.Reading.{Place}
use Rattle.run_edges.specs.declared.halt.Halt.{Halt}
use Rattle.run_edges.specs.declared.halt.Halt.TheVariants as halts
use Rattle.run_edges.specs.Owed.{LeftAfter, IsDrained}

-- the first bytes of an input
abbrev pub first_place : List ℕ → Place
first_place bytes = record { at = 0; rest = bytes }

-- these bytes may follow: none where the input has ended
abbrev pub MayFollow : Bool → List ℕ → Type 0
MayFollow ended more = ended ≡ true → more ≡ []

-- All of this was taken from what was left. Where the input has ended, it had ended before and
-- nothing was read since, or nothing is left now. Nothing is said of a source that does not tell
-- its bytes.
pub record HasSeen (old now : Option (List ℕ)) (seen : List ℕ) (before ended : Bool) : Type 0 where
  pub taken : LeftAfter old now seen
  pub at_end : ended ≡ true → ((before ≡ true) × (now ≡ old)) ⊎ IsDrained old now

-- bytes are missing only where the input has ended
abbrev pub IsSure : Bool → Why → Type 0
IsSure ended why = why ≡ Short → ended ≡ true

-- What a read came to. Its bytes stand behind those that are held; a failed read takes none.
abbrev pub Feeds : Option (List ℕ) → List ℕ → Place → Place → Result Bool Halt → Type 0
Feeds left taken old new (Ok ended) =
    (new ≡ record { at = old.at; rest = old.rest ++ taken }) × (ended ≡ true → (taken ≡ []) × IsAtEnd left)
Feeds left taken old new (Err halts.ReadFault) = taken ≡ []
Feeds left taken old new (Err halts.NoMemory) = ⊤
Feeds left taken old new (Err other) = ⊥

-- one read, of at most one piece
abbrev pub FeedsMore : Option (List ℕ) → Option (List ℕ) → Place → Place → Result Bool Halt → Type 0
FeedsMore left now old new result =
    (taken : List ℕ) × LeftAfter left now taken × (length taken ≤ 65536) × Feeds left taken old new result
