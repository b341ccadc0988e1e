-- Reading a whole input as a function of its bytes. Spelling and refusal are relations; since each
-- list of bytes is the spelling of exactly one value, or refused at exactly one place and for
-- exactly one reason, they give one answer.
use Rattle.std.specs.Prelude.{◌≡◌, ◌⊎◌, ◌<◌, ℕ, List, [], ◌∷◌, Result, Ok, Err}
use Rattle.std.proofs.Common.{ap, ap₂, inl, inr}
use Rattle.std.proofs.Math.Decide.{dec_lt}
use Rattle.scale_wire.specs.declared.fault.Why.{Why}
use Rattle.scale_wire.specs.declared.fault.Why.TheVariants.{Short}
use Rattle.scale_wire.specs.declared.fault.WireFault.{WireFault}
use Rattle.scale_wire.specs.declared.fault.ReadFault.{ReadFault}
use Rattle.scale_wire.specs.declared.fault.ReadFault.TheVariants as faults
use Rattle.scale_wire.specs.Form.{IsBytes, Form, IsWire}
use Rattle.scale_wire.specs.Reading.{BadWhole, ReadsWhole}
use Rattle.scale_wire.specs.Laws.{IsWhole, IsRefusedWhole}
use Rattle.scale_wire.specs.DecidedLaws.{decided_whole}

bytes_or_not : (bytes : List ℕ) → Dec (IsBytes bytes)
bytes_or_not [] = yes tt
bytes_or_not (byte ∷ bytes) = both (dec_lt byte 256) (bytes_or_not bytes)
  where
    both : Dec (byte < 256) → Dec (IsBytes bytes) → Dec (IsBytes (byte ∷ bytes))
    both (yes here) (yes there) = yes (here, there)
    both (no over) there = no (λ are. over are.0)
    both (yes here) (no none) = no (λ are. none are.1)

module _ {V : Type 0} (form : Form V) (laws : IsWire form) (bytes : List ℕ) where
  -- what the law of whole inputs says of the bytes
  unfoldable answer_of : IsWhole form bytes ⊎ IsRefusedWhole form bytes → Result V WireFault
  answer_of (inl is) = Ok is.value
  answer_of (inr refused) = Err record { at = refused.at; why = refused.why }

  -- what is no list of bytes is never read
  unfoldable answer_by : Dec (IsBytes bytes) → Result V WireFault
  answer_by (yes are_bytes) = answer_of ((decided_whole form laws).either bytes are_bytes)
  answer_by (no _) = Err record { at = 0; why = Short }

  -- the value that the bytes spell, or where and why they are refused as a whole input
  pub read_as : Result V WireFault
  read_as = answer_by (bytes_or_not bytes)

  pub read_value : (value : V) → IsBytes bytes → form.in_range value → bytes ≡ form.spelling value
      → read_as ≡ Ok value
  unfolding read_as answer_by answer_of
  read_value value are_bytes fits whole = by_bytes (bytes_or_not bytes)
    where
      by_law : (either : IsWhole form bytes ⊎ IsRefusedWhole form bytes) → answer_of either ≡ Ok value
      by_law (inl is) = ap (λ v. Ok v)
          ((decided_whole form laws).one_value bytes is
          record { value = value; in_range = fits; whole = whole })
      by_law (inr refused) = absurd ((decided_whole form laws).never_both bytes
          record { value = value; in_range = fits; whole = whole } refused)

      by_bytes : (dec : Dec (IsBytes bytes)) → answer_by dec ≡ Ok value
      by_bytes (yes are) = by_law ((decided_whole form laws).either bytes are)
      by_bytes (no none) = absurd (none are_bytes)

  pub read_fault : (fault : WireFault) → IsBytes bytes → BadWhole form bytes fault.at fault.why
      → read_as ≡ Err fault
  unfolding read_as answer_by answer_of
  read_fault fault are_bytes bad = by_bytes (bytes_or_not bytes)
    where
      by_law : (either : IsWhole form bytes ⊎ IsRefusedWhole form bytes) → answer_of either ≡ Err fault
      by_law (inl is) = absurd ((decided_whole form laws).never_both bytes is
          record { at = fault.at; why = fault.why; bad = bad })
      by_law (inr refused) =
          let same = (decided_whole form laws).one_fault bytes refused
          record { at = fault.at; why = fault.why; bad = bad } in
          ap₂ (λ (at : ℕ) (why : Why). Err record { at = at; why = why }) same.0 same.1

      by_bytes : (dec : Dec (IsBytes bytes)) → answer_by dec ≡ Err fault
      by_bytes (yes are) = by_law ((decided_whole form laws).either bytes are)
      by_bytes (no none) = absurd (none are_bytes)

  -- want of memory is free, any other answer is that of the bytes
  abbrev pub AnswersAs : Result V ReadFault → Type 0
  AnswersAs (Ok value) = read_as ≡ Ok value
  AnswersAs (Err (faults.Wire fault)) = read_as ≡ Err fault
  AnswersAs (Err faults.NoMemory) = Unit {0}

  -- a reader of the whole input by the grammar gives what the bytes decide
  pub reads_as : (result : Result V ReadFault) → IsBytes bytes → ReadsWhole form bytes result
      → AnswersAs result
  reads_as (Ok value) are_bytes read = read_value value are_bytes read.0 read.1
  reads_as (Err (faults.Wire fault)) are_bytes bad = read_fault fault are_bytes bad
  reads_as (Err faults.NoMemory) are_bytes free = tt
