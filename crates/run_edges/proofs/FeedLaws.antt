-- What a read that feeds a reader comes to.
use Rattle.std.proofs.Common.{◌≡◌, ◌≤◌, ◌<◌, ℕ, Bool, true, List, [], ◌++◌, length, take, Option, Ok, Err, refl, ap, arith}
use Rattle.std.proofs.lemmas.List.{length-take-le}
use Rattle.npos_base.specs.Outside.{Takes, IsAtEnd}
use Rattle.scale_wire.specs.Reading.{Place}
use Rattle.run_edges.specs.declared.halt.Halt.TheVariants.{ReadFault, NoMemory}
use Rattle.run_edges.specs.Ahead.{FeedsMore}
use Rattle.npos_base.specs.declared.outside.Asked.{Asked}
use Rattle.npos_base.specs.Outside.{given_more, given_none}
use Rattle.run_edges.specs.Owed.{TakesAtMost}
use Rattle.run_edges.proofs.EdgeLaws.{left_none, left_taken}

-- nothing was read
pub feeds_nothing : (left : Option (List ℕ)) (old : Place) → FeedsMore left left old old (Err NoMemory)
feeds_nothing left old = ([], left_none left [] refl, omega arith, tt)

-- a failed read takes nothing
pub feeds_none : (left now : Option (List ℕ)) (old new : Place) → Takes left now 0 [] → FeedsMore left now old new (Err ReadFault)
feeds_none left now old new takes = ([], left_taken left now 0 [] takes, omega arith, refl)

-- a read was fed
pub feeds_some : (left now : Option (List ℕ)) (old new : Place) (n : ℕ) (buffer : List ℕ) (ended : Bool) → Takes left now n (take n buffer) × (n ≡ 0 → 0 < length buffer → IsAtEnd left)
    → n ≤ length buffer → 0 < length buffer → length buffer ≤ 65536 → new ≡ record { at = old.at; rest = old.rest ++ take n buffer } → (ended ≡ true → n ≡ 0)
    → FeedsMore left now old new (Ok ended)
feeds_some left now old new n buffer ended gives within some few is at_end = (
  take n buffer,
  left_taken left now n (take n buffer) gives.0,
  omega (arith, length-take-le n buffer within),
  (is, λ end. (ap (λ (k : ℕ). take k buffer) (at_end end), gives.1 (at_end end) some)),
)

-- what was read could not be fed
pub feeds_lost : (left now : Option (List ℕ)) (old new : Place) (n : ℕ) (buffer : List ℕ) → Takes left now n (take n buffer) × (n ≡ 0 → 0 < length buffer → IsAtEnd left)
    → n ≤ length buffer → length buffer ≤ 65536 → FeedsMore left now old new (Err NoMemory)
feeds_lost left now old new n buffer gives within few =
    (take n buffer, left_taken left now n (take n buffer) gives.0, omega (arith, length-take-le n buffer within), tt)

-- what one read gave, by what it is told to have given
pub gave_few : (left now : Option (List ℕ)) (before after : Asked) (n : ℕ) (buffer : List ℕ) → Takes left now n (take n buffer) × (n ≡ 0 → 0 < length buffer → IsAtEnd left)
    → n ≤ length buffer → after ≡ given_more before (length buffer) n → TakesAtMost after.last left now
gave_few left now before after n buffer gives within is =
    let last : after.last ≡ n = ap (λ (a : Asked). a.last) is in
    (take n buffer, left_taken left now n (take n buffer) gives.0, omega (arith, length-take-le n buffer within, last))

-- it gave no more than a piece
pub gave_piece : (before after : Asked) (n : ℕ) (buffer : List ℕ) → n ≤ length buffer → length buffer ≤ 65536 → after ≡ given_more before (length buffer) n → after.last ≤ 65536
gave_piece before after n buffer within few is =
    let last : after.last ≡ n = ap (λ (a : Asked). a.last) is in omega (arith, within, few, last)

-- a failed read gave nothing
pub gave_none : (before after : Asked) → after ≡ given_none before → after.last ≤ 65536
gave_none before after is =
    let last : after.last ≡ 0 = ap (λ (a : Asked). a.last) is in omega (arith, last)

-- by these `pieces` goes on
pub ruleset feeds = (feeds_nothing, feeds_none, feeds_some, feeds_lost, gave_piece, gave_none)
