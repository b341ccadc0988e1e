-- The laws of a form, as they are told to users.
use Rattle.std.proofs.Common.{◌≡◌, ◌⊎◌, ℕ, List, [], ◌∷◌, ◌++◌, length, refl, sym, ◌∙◌, ap, subst, inl, inr}
use Rattle.std.proofs.lemmas.List.{append-nil}
use Rattle.scale_wire.specs.declared.fault.Why.{Why}
use Rattle.scale_wire.specs.declared.fault.Why.TheVariants.{Trailing}
use Rattle.scale_wire.specs.Form.{IsBytes, Form, Begins, IsRefused, IsWire}
use Rattle.scale_wire.specs.Reading.{HasRest, BadWhole}
use Rattle.scale_wire.specs.Laws.{IsReadBack, IsDecided, IsWhole, IsRefusedWhole, IsDecidedWhole, FaultsPersist, NeverTrails, IsBounded}

module _ {V : Type 0} (form : Form V) (laws : IsWire form) where
  never_both : (bytes : List ℕ) → Begins form bytes → IsRefused form bytes → ⊥
  never_both bytes begins refused = laws.exclusive begins.value begins.rest refused.at refused.why begins.in_range (subst (λ (s : List ℕ). form.bad s refused.at refused.why) begins.whole refused.bad)

  pub read_back : IsReadBack form
  read_back x rest fits read =
      let p = laws.one_reading x read.value rest read.rest fits read.in_range read.whole in
      (sym p.0, sym p.1)

  pub decided : IsDecided form
  decided = record {
    either = laws.covers;
    never_both = never_both;
    one_value = λ bytes a b. laws.one_reading a.value b.value a.rest b.rest a.in_range b.in_range (sym a.whole ∙ b.whole);
    one_fault = λ bytes a b. laws.one_fault bytes a.at b.at a.why b.why a.bad b.bad;
  }

  -- ## The whole input

  whole_begins : (bytes : List ℕ) → IsWhole form bytes → Begins form bytes
  whole_begins bytes is = record {
    value = is.value;
    in_range = is.in_range;
    rest = [];
    whole = is.whole ∙ sym (append-nil (form.spelling is.value));
  }

  rest_begins : (bytes : List ℕ) (at : ℕ) → HasRest form bytes at → Begins form bytes
  rest_begins bytes at has = record {
    value = has.value;
    in_range = has.in_range;
    rest = has.next ∷ has.rest;
    whole = has.whole;
  }

  whole_or_rest : (bytes : List ℕ) (value : V) (rest : List ℕ) → form.in_range value → bytes ≡ form.spelling value ++ rest → IsWhole form bytes ⊎ IsRefusedWhole form bytes
  whole_or_rest bytes value [] fits whole = inl record { value = value; in_range = fits; whole = whole ∙ append-nil (form.spelling value) }
  whole_or_rest bytes value (next ∷ rest) fits whole = inr record {
    at = length (form.spelling value);
    why = Trailing;
    bad = inr (refl, record { value = value; in_range = fits; next = next; rest = rest; whole = whole; at_is = refl });
  }

  either_whole : (bytes : List ℕ) → IsBytes bytes → IsWhole form bytes ⊎ IsRefusedWhole form bytes
  either_whole bytes are_bytes =
      elim (laws.covers bytes are_bytes) [
        | inl begins ↦ whole_or_rest bytes begins.value begins.rest begins.in_range begins.whole
        | inr refused ↦ inr record { at = refused.at; why = refused.why; bad = inl refused.bad }
      ]

  no_rest : (xs ys : List ℕ) → xs ≡ [] → xs ≡ ys → (y : ℕ) (more : List ℕ) → ys ≡ y ∷ more → ⊥
  no_rest xs ys none same y more is = let nil : [] ≡ y ∷ more = sym none ∙ (same ∙ is) in cc

  never_both_whole : (bytes : List ℕ) → IsWhole form bytes → IsRefusedWhole form bytes → ⊥
  never_both_whole bytes is refused =
      elim refused.bad [
        | inl bad ↦ never_both bytes (whole_begins bytes is) record { at = refused.at; why = refused.why; bad = bad }
        | inr trailing ↦
            let p = laws.one_reading is.value trailing.1.value [] (trailing.1.next ∷ trailing.1.rest) is.in_range trailing.1.in_range
            (append-nil (form.spelling is.value) ∙ (sym is.whole ∙ trailing.1.whole)) in
            no_rest [] (trailing.1.next ∷ trailing.1.rest) refl p.1 trailing.1.next trailing.1.rest refl
      ]

  one_fault_whole : (bytes : List ℕ) (at at' : ℕ) (why why' : Why) → BadWhole form bytes at why → BadWhole form bytes at' why' → (at ≡ at') × (why ≡ why')
  one_fault_whole bytes at at' why why' bad bad' =
      elim bad [
        | inl here ↦ elim bad' [
          | inl here' ↦ laws.one_fault bytes at at' why why' here here'
          | inr there' ↦ absurd (never_both bytes (rest_begins bytes at' there'.1) record { at = at; why = why; bad = here })
        ]
        | inr there ↦ elim bad' [
          | inl here' ↦ absurd (never_both bytes (rest_begins bytes at there.1) record { at = at'; why = why'; bad = here' })
          | inr there' ↦
              let p = laws.one_reading there.1.value there'.1.value (there.1.next ∷ there.1.rest)
              (there'.1.next ∷ there'.1.rest) there.1.in_range there'.1.in_range (sym there.1.whole
              ∙ there'.1.whole) in
              (there.1.at_is ∙ (ap (λ (v : V). length (form.spelling v)) p.0 ∙ sym there'.1.at_is), there.0 ∙ sym there'.0)
        ]
      ]

  pub decided_whole : IsDecidedWhole form
  decided_whole = record {
    either = either_whole;
    never_both = never_both_whole;
    one_value = λ bytes a b. (laws.one_reading a.value b.value [] [] a.in_range b.in_range (ap (λ (s : List ℕ). s ++ []) (sym a.whole ∙ b.whole))).0;
    one_fault = λ bytes a b. one_fault_whole bytes a.at b.at a.why b.why a.bad b.bad;
  }

  pub persist : FaultsPersist form
  persist = laws.persists

  pub never_trails : NeverTrails form
  never_trails = laws.no_trailing

  pub bounds : IsBounded form
  bounds = record { spelling = laws.bounded; missing = laws.short }
