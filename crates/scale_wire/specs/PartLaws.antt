-- Proofs: parts keep the laws of a form.
use Rattle.std.specs.Prelude.{◌≡◌, ◌≢◌, ◌⊎◌, ℕ, ◌^◌, ◌<◌, ◌≤◌, Bool, false, List, [], ◌∷◌, ◌++◌, length, take, drop, slice_index, nat_le, Option, Some, None, refl}
use Rattle.std.proofs.Common.{sym, ◌∙◌, ap, subst, inl, inr, arith, length-append}
use Rattle.std.proofs.lemmas.Bool.{ltb-true, ltb-false, le-ltb, leb-false, lt-leb}
use Rattle.std.proofs.lemmas.List.{append_cancel_left, take-append-drop, length-take-le, take_at}
use Rattle.scale_wire.specs.declared.fault.Why.{Why}
use Rattle.scale_wire.specs.declared.fault.Why.TheVariants.{Short, BadTag, Trailing}
use Rattle.scale_wire.specs.Form.{Form, Begins, IsRefused, IsWire, IsBytes, part}
use Rattle.scale_wire.specs.FormLaws.{IsBytes-front}
use Rattle.scale_wire.specs.TableLaws.{by_reason}
use Rattle.scale_wire.specs.LittleEndian.{little_endian, number_from}
use Rattle.scale_wire.specs.LittleEndianLaws.{length-little_endian, number_from-little_endian, little_endian-number_from, number_from-bound}
use Rattle.scale_wire.specs.Refusal.{lacks}
use Rattle.scale_wire.specs.Parts.{missing_refusal, fixed, byte_string, tag_refusal, tag_form}

-- ## A part with a way to read it

-- The bytes begin with the spelling of the value, which has this many bytes.
pub record IsHead {V : Type 0} (form : Form V) (bytes : List ℕ) (value : V) (size : ℕ) : Type 0 where
  pub in_range : form.in_range value
  pub whole : bytes ≡ form.spelling value ++ drop size bytes
  pub size_is : length (form.spelling value) ≡ size

-- `value` and `size` read the bytes that are not refused.
pub record IsPart {V : Type 0} (spelling : V → List ℕ) (fits : V → Type 0) (refusal : List ℕ → Option Why) (most : ℕ) (value : List ℕ → V) (size : List ℕ → ℕ) : Type 0 where
  pub head : (bytes : List ℕ) → IsBytes bytes → refusal bytes ≡ None
      → IsHead (part spelling fits refusal most) bytes (value bytes) (size bytes)
  pub kept : (x : V) (rest : List ℕ) → fits x → refusal (spelling x ++ rest) ≡ None
  pub back : (x : V) (rest : List ℕ) → fits x → value (spelling x ++ rest) ≡ x
  pub persists : (bytes more : List ℕ) (why : Why) → why ≢ Short → refusal bytes ≡ Some why → refusal (bytes ++ more) ≡ Some why
  pub no_trailing : (bytes : List ℕ) → refusal bytes ≡ Some Trailing → ⊥
  pub bounded : (x : V) → fits x → length (spelling x) ≤ most
  pub short : (bytes : List ℕ) → refusal bytes ≡ Some Short → length bytes < most

is_refused_or_not : (answer : Option Why) → (answer ≡ None) ⊎ ((why : Why) × (answer ≡ Some why))
is_refused_or_not None = inl refl
is_refused_or_not (Some why) = inr (why, refl)

module _ {V : Type 0} (spelling : V → List ℕ) (fits : V → Type 0) (refusal : List ℕ
    → Option Why) (most : ℕ) (value : List ℕ → V) (size : List ℕ
    → ℕ) (laws : IsPart spelling fits refusal most value size) where
  part_reading : (x y : V) (rest more : List ℕ) → fits x → fits y → spelling x ++ rest ≡ spelling y ++ more → (x ≡ y) × (rest ≡ more)
  part_reading x y rest more x_fits y_fits same =
      let one : x ≡ y = sym (laws.back x rest x_fits) ∙ (ap value same ∙ laws.back y more y_fits) in
      (one, append_cancel_left (spelling x) rest more (same ∙ ap (λ (v : V). spelling v ++ more) (sym one)))

  part_covers : (bytes : List ℕ) → IsBytes bytes → Begins (part spelling fits refusal most) bytes ⊎ IsRefused (part spelling fits refusal most) bytes
  part_covers bytes are_bytes =
      elim (is_refused_or_not (refusal bytes)) [
        | inl kept ↦
            let is_head = laws.head bytes are_bytes kept in
            inl record { value = value bytes; in_range = is_head.in_range; rest = drop (size bytes) bytes; whole = is_head.whole }
        | inr refused ↦ inr record { at = 0; why = refused.0; bad = (refl, refused.1) }
      ]

  pub part_laws : IsWire (part spelling fits refusal most)
  part_laws = record {
    one_reading = part_reading;
    covers = part_covers;
    exclusive = λ x rest at why x_fits bad. let kept : refusal (spelling x ++ rest) ≡ None = laws.kept x rest x_fits in let no : refusal (spelling x ++ rest) ≡ Some why = bad.1 in cc;
    one_fault = λ bytes at at' why why' bad bad'. let one : refusal bytes ≡ Some why = bad.1 in let other : refusal bytes ≡ Some why' = bad'.1 in (bad.0 ∙ sym bad'.0, cc);
    persists = λ bytes more at why are_bytes not_short bad. (bad.0, laws.persists bytes more why not_short bad.1);
    no_trailing = λ bytes at bad. laws.no_trailing bytes bad.1;
    bounded = laws.bounded;
    short = λ bytes at bad. laws.short bytes bad.1;
  }

-- ## Parts of a fixed number of bytes

pub not_lacking : (count : ℕ) (bytes : List ℕ) → count ≤ length bytes → lacks count bytes ≡ false
not_lacking count bytes whole = le-ltb (length bytes) count whole

pub some_left : (byte : ℕ) (bytes : List ℕ) → lacks 1 (byte ∷ bytes) ≡ false
some_left byte bytes = not_lacking 1 (byte ∷ bytes) (omega arith)

pub whole_from_none : (count : ℕ) (bytes : List ℕ) → missing_refusal count bytes ≡ None → count ≤ length bytes
whole_from_none count bytes =
    by_reason (λ answer. answer ≡ None → count ≤ length bytes) ((lacks count bytes, Short) ∷ []) []
    ((λ lacking is. cc), (λ enough is. ltb-false (length bytes) count enough))

pub none_from_whole : (count : ℕ) (bytes : List ℕ) → count ≤ length bytes → missing_refusal count bytes ≡ None
none_from_whole count bytes whole = rw (not_lacking count bytes whole)

pub short_from_some : (count : ℕ) (bytes : List ℕ) (why : Why) → missing_refusal count bytes ≡ Some why
    → (why ≡ Short) × (length bytes < count)
short_from_some count bytes why =
    by_reason (λ answer. answer ≡ Some why → (why ≡ Short) × (length bytes < count)) ((lacks count bytes, Short) ∷ []) []
    ((λ lacking is. (cc, ltb-true (length bytes) count lacking)), (λ enough is. cc))

-- What reads exactly `count` bytes, and is given back by its spelling, makes a part.
pub record IsFixedSize {V : Type 0} (count : ℕ) (spelling : V → List ℕ) (fits : V → Type 0) (value : List ℕ → V) : Type 0 where
  pub long : (x : V) → fits x → length (spelling x) ≡ count
  pub in_range : (bytes : List ℕ) → IsBytes bytes → length bytes ≡ count → fits (value bytes)
  pub spelled : (bytes : List ℕ) → IsBytes bytes → length bytes ≡ count → spelling (value bytes) ≡ bytes
  pub back : (x : V) → fits x → value (spelling x) ≡ x

module _ {V : Type 0} (count : ℕ) (spelling : V → List ℕ) (fits : V → Type 0) (value : List ℕ → V) (whole : IsFixedSize count spelling fits value) where
  whole_head : (bytes : List ℕ) → IsBytes bytes → missing_refusal count bytes ≡ None
      → IsHead (part spelling fits (missing_refusal count) count) bytes (value (take count bytes)) count
  whole_head bytes are_bytes none =
      let long : length (take count bytes) ≡ count = length-take-le count bytes (whole_from_none count bytes none) in
      let joined : take count bytes ++ drop count bytes ≡ bytes = take-append-drop count bytes in
      let taken : IsBytes (take count bytes) = IsBytes-front (take count bytes) (drop count bytes) (subst (λ b. IsBytes b) (sym joined) are_bytes) in
      record {
        in_range = whole.in_range (take count bytes) taken long;
        whole = sym (ap (λ s. s ++ drop count bytes) (whole.spelled (take count bytes) taken long) ∙ joined);
        size_is = ap length (whole.spelled (take count bytes) taken long) ∙ long;
      }

  pub whole_part : IsPart spelling fits (missing_refusal count) count (λ bytes. value (take count bytes)) (λ _. count)
  whole_part = record {
    head = whole_head;
    kept = λ x rest x_fits. let long : length (spelling x) ≡ count = whole.long x x_fits in none_from_whole count (spelling x ++ rest) (omega (arith, length-append (spelling x) rest));
    back = λ x rest x_fits. ap value (take_at (spelling x) rest count (whole.long x x_fits)) ∙ whole.back x x_fits;
    persists = λ bytes more why not_short some. absurd (not_short (short_from_some count bytes why some).0);
    no_trailing = λ bytes some. let other : Trailing ≡ Short = (short_from_some count bytes Trailing some).0 in cc;
    bounded = λ x x_fits. let long : length (spelling x) ≡ count = whole.long x x_fits in omega arith;
    short = λ bytes some. (short_from_some count bytes Short some).1;
  }

  pub whole_laws : IsWire (part spelling fits (missing_refusal count) count)
  whole_laws = part_laws spelling fits (missing_refusal count) count (λ bytes. value (take count bytes)) (λ _. count) whole_part

fixed_whole : (count : ℕ) → IsFixedSize count (little_endian count) (λ number. number < 256 ^ count) number_from
fixed_whole count = record {
  long = λ x _. length-little_endian count x;
  in_range = λ bytes are_bytes long. subst (λ n. number_from bytes < 256 ^ n) long (number_from-bound bytes are_bytes);
  spelled = λ bytes are_bytes long. subst (λ n. little_endian n (number_from bytes) ≡ bytes) long (little_endian-number_from bytes are_bytes);
  back = number_from-little_endian count;
}

pub fixed_laws : (count : ℕ) → IsWire (fixed count)
fixed_laws count = whole_laws count (little_endian count) (λ number. number < 256 ^ count) number_from (fixed_whole count)

string_whole : (count : ℕ) → IsFixedSize count (λ bytes. bytes) (λ bytes. (length bytes ≡ count) × IsBytes bytes) (λ bytes. bytes)
string_whole count = record {
  long = λ x x_fits. x_fits.0;
  in_range = λ bytes are_bytes long. (long, are_bytes);
  spelled = λ bytes _ _. refl;
  back = λ x _. refl;
}

pub byte_string_laws : (count : ℕ) → IsWire (byte_string count)
byte_string_laws count =
    whole_laws count (λ bytes. bytes) (λ bytes. (length bytes ≡ count) × IsBytes bytes) (λ bytes. bytes) (string_whole count)

-- ## Tags

abbrev tag_reasons : ℕ → List ℕ → List (Bool × Why)
tag_reasons below bytes = (lacks 1 bytes, Short) ∷ (nat_le below (slice_index bytes 0), BadTag) ∷ []

tag_head : (below : ℕ) (bytes : List ℕ) → IsBytes bytes → tag_refusal below bytes ≡ None
    → IsHead (tag_form below) bytes (slice_index bytes 0) 1
tag_head below [] are_bytes none = cc
tag_head below (tag ∷ rest) are_bytes none =
    by_reason (λ answer. answer ≡ None → IsHead (tag_form below) (tag ∷ rest) tag 1) (tag_reasons below (tag ∷ rest)) [] (
      (λ lacking is. cc),
      (λ some. ((λ bad is. cc), (λ fits is. record { in_range = leb-false below tag fits; whole = refl; size_is = refl }))),
    ) none

tag_persists : (below : ℕ) (bytes more : List ℕ) (why : Why) → why ≢ Short → tag_refusal below bytes ≡ Some why
    → tag_refusal below (bytes ++ more) ≡ Some why
tag_persists below [] more why not_short some = absurd (not_short cc)
tag_persists below (tag ∷ rest) more why not_short some = rw (some_left tag (rest ++ more)) (rw (some_left tag rest) at some)

tag_short : (below : ℕ) (bytes : List ℕ) → tag_refusal below bytes ≡ Some Short → length bytes < 1
tag_short below bytes =
    by_reason (λ answer. answer ≡ Some Short → length bytes < 1) (tag_reasons below bytes) []
    ((λ lacking is. ltb-true (length bytes) 1 lacking), (λ some. ((λ bad is. cc), (λ fits is. cc))))

tag_no_trailing : (below : ℕ) (bytes : List ℕ) → tag_refusal below bytes ≡ Some Trailing → ⊥
tag_no_trailing below bytes =
    by_reason (λ answer. answer ≡ Some Trailing → ⊥) (tag_reasons below bytes) []
    ((λ lacking is. cc), (λ some. ((λ bad is. cc), (λ fits is. cc))))

tag_part : (below : ℕ)
    → IsPart (λ tag. tag ∷ []) (λ tag. tag < below) (tag_refusal below) 1 (λ bytes. slice_index bytes 0) (λ _. 1)
tag_part below = record {
  head = tag_head below;
  kept = λ tag rest fits. rw (some_left tag rest, lt-leb below tag fits);
  back = λ x rest _. refl;
  persists = tag_persists below;
  no_trailing = tag_no_trailing below;
  bounded = λ x _. omega arith;
  short = tag_short below;
}

pub tag_laws : (below : ℕ) → IsWire (tag_form below)
tag_laws below =
    part_laws (λ tag. tag ∷ []) (λ tag. tag < below) (tag_refusal below) 1 (λ bytes. slice_index bytes 0) (λ _. 1) (tag_part below)
