-- How the reader's place moves.
use Rattle.std.proofs.Common.{◌≡◌, ℕ, ◌+◌, List, ◌++◌, length, drop, Option, Some, None, IfSome, Err, sym, ◌∙◌, ap, subst, arith, append_assoc, length-append}
use Rattle.std.proofs.lemmas.List.{drop-drop, drop-append-le}
use Rattle.scale_wire.specs.Form.{Form}
use Rattle.scale_wire.specs.Parts.{tag_form, compact_u32, length_form}
use Rattle.scale_wire.specs.Composite.{items}
use Rattle.scale_wire.specs.Reading.{Place, IsRead, Reads}
use Rattle.block_wire.specs.declared.limits.TheConstants.{MOST_CALLS}
use Rattle.block_wire.specs.declared.begun.Begun.{Begun}
use Rattle.scale_wire.specs.declared.fault.ReadFault.{ReadFault}
use Rattle.block_wire.specs.declared.begun_genesis.BegunGenesis.{BegunGenesis}
use Rattle.npos_base.specs.declared.limits.TheConstants.{MOST_ENDOWMENTS}
use Rattle.block_wire.specs.Calls.{call_form}
use Rattle.block_wire.specs.Begun.{next_form, behind, IsHead, HasItems, IsBegun, begun_bytes, front_bytes}
use Rattle.block_wire.specs.BegunGenesis.{IsGenesisHead, IsBegunGenesis}
use Rattle.block_wire.specs.Genesis.{endowment_form}

-- the reader's place behind a value
pub taken : {V : Type 0} (form : Form V) (value : V) (at from size : ℕ) (bytes : List ℕ) (old : Place) → record { at = at; rest = drop from bytes } ≡ old
    → IsRead form (record { at = at; rest = drop from bytes }) value (behind size (record { at = at; rest = drop from bytes }))
    → IsRead form old value (record { at = at + size; rest = drop (from + size) bytes })
taken form value at from size bytes old place read =
    subst (λ (p : Place). IsRead form p value (record { at = at + size; rest = drop (from + size) bytes })) place
    (subst (λ (rest : List ℕ). IsRead form (record { at = at; rest = drop from bytes }) value (record { at = at + size; rest = rest })) (drop-drop size from bytes) read)

-- the same place where more bytes follow
abbrev pub further : List ℕ → Place → Place
further more p = record { at = p.at; rest = p.rest ++ more }

pub read_grows : {V : Type 0} (form : Form V) (old new : Place) (value : V) (more : List ℕ) → IsRead form old value new → IsRead form (further more old) value (further more new)
read_grows form old new value more is = record {
  in_range = is.in_range;
  whole = ap (λ (bytes : List ℕ). bytes ++ more) is.whole ∙ append_assoc (form.spelling value) new.rest more;
  at_is = is.at_is;
}

items_further : {A : Type 0} (Head : Place → Place → Type 0) (item : Form A) (count size : ℕ) (xs : List A) (old : Place) (more : List ℕ)
    → ((counted : Place) → Head old counted → Head (further more old) (further more counted)) → HasItems Head item count size xs old
    → HasItems Head item count size xs (further more old)
items_further Head item count size xs old more grows is =
    let there : further more (behind size old) ≡ behind size (further more old) =
    λ i. record { at = old.at + size; rest = sym (drop-append-le size old.rest more is.within) i } in
    record {
      counted = further more is.counted;
      head = grows is.counted is.head;
      whole = subst (λ (p : Place). IsRead (items item (length xs)) (further more is.counted) xs p) there
          (read_grows (items item (length xs)) is.counted (behind size old) xs more is.whole);
      few = is.few;
      within = omega (arith, is.within, length-append old.rest more);
    }

pub begun_further : (begun : Begun) (old : Place) (more : List ℕ) → IsBegun begun old → IsBegun begun (further more old)
begun_further begun old more is =
    items_further (λ start end. IsHead start begun.number begun.count end) call_form begun.count begun.size begun.calls.items old more
    (λ counted head. (
      further more head.0,
      further more head.1,
      read_grows (tag_form 2) old head.0 1 more head.2,
      read_grows compact_u32 head.0 head.1 begun.number more head.3,
      read_grows (length_form MOST_CALLS) head.1 counted begun.count more head.4,
    )) is

pub genesis_further : (begun : BegunGenesis) (old : Place) (more : List ℕ) → IsBegunGenesis begun old → IsBegunGenesis begun (further more old)
genesis_further begun old more is =
    items_further (λ start end. IsGenesisHead start begun.tag begun.count end) endowment_form begun.count begun.size begun.endowments.items old more
    (λ counted head. (
      further more head.0,
      read_grows (tag_form 3) old head.0 begun.tag more head.1,
      read_grows (length_form MOST_ENDOWMENTS) head.0 counted begun.count more head.2,
    )) is

-- what was begun stays begun where more bytes follow
pub fed : {B : Type 0} (Is : B → Place → Type 0) (begun : Option B) (at : ℕ) (rest more bytes : List ℕ)
    → ((some : B) (old : Place) (more : List ℕ) → Is some old → Is some (further more old)) → bytes ≡ rest ++ more
    → IfSome begun (λ some. Is some (record { at = at; rest = rest })) → IfSome begun (λ some. Is some (record { at = at; rest = bytes }))
fed Is None at rest more bytes grows is begun = tt
fed Is (Some some) at rest more bytes grows is begun =
    subst (λ (all : List ℕ). Is some (record { at = at; rest = all })) (sym is) (grows some (record { at = at; rest = rest }) more begun)

pub fed_begun : (begun : Option Begun) (at : ℕ) (rest more bytes : List ℕ) → bytes ≡ rest ++ more → IfSome begun (λ some. IsBegun some (record { at = at; rest = begun_bytes some ++ rest }))
    → IfSome begun (λ some. IsBegun some (record { at = at; rest = begun_bytes some ++ bytes }))
fed_begun None at rest more bytes is begun = tt
fed_begun (Some some) at rest more bytes is begun =
    let all : (begun_bytes some ++ rest) ++ more ≡ begun_bytes some ++ bytes = append_assoc (begun_bytes some) rest more ∙ ap (λ (s : List ℕ). begun_bytes some ++ s) (sym is) in
    subst (λ (s : List ℕ). IsBegun some (record { at = at; rest = s })) all (begun_further some (record { at = at; rest = begun_bytes some ++ rest }) more begun)

-- a refusal at the same place
pub same_fault : {V : Type 0} (form : Form V) (old here new : Place) (fault : ReadFault) → here ≡ old → new ≡ old → Reads form here (Err fault) here → Reads form old (Err fault) new
same_fault form old here new fault is same reads =
    subst (λ (p : Place). Reads form old (Err fault) p) (sym same) (subst (λ (p : Place). Reads form p (Err fault) p) is reads)

-- nothing was begun, and the None was taken
pub none_taken : (begun new : Option Begun) (at from : ℕ) (bytes : List ℕ) (old : Place) → begun ≡ None → new ≡ None → record { at = at; rest = front_bytes begun ++ drop from bytes } ≡ old
    → IsRead next_form (record { at = at; rest = drop from bytes }) None (behind 1 (record { at = at; rest = drop from bytes }))
    → IsRead next_form old None (record { at = at + 1; rest = front_bytes new ++ drop (from + 1) bytes })
none_taken None None at from bytes old none gone place read = taken next_form None at from 1 bytes old place read
none_taken (Some begun) new at from bytes old none gone place read = absurd (some none)
  where
    some : Some begun ≡ None → ⊥
    some e = cc
none_taken None (Some new) at from bytes old none gone place read = absurd (some gone)
  where
    some : Some new ≡ None → ⊥
    some e = cc
