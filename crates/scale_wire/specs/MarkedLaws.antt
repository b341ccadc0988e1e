-- Proofs: two forms with a mark before the wide one keep the laws of a form.
use Rattle.std.specs.Prelude.{◌≡◌, ◌≢◌, ◌⊎◌, ℕ, ◌+◌, Bool, true, false, List, [], ◌∷◌, ◌++◌, length, drop, Option, Some, refl}
use Rattle.std.proofs.Common.{sym, ◌∙◌, ap, subst, inl, inr, arith, true≢false}
use Rattle.std.proofs.lemmas.Bool.Decides.{eqb_tells}
use Rattle.scale_wire.specs.declared.fault.Why.{Why}
use Rattle.scale_wire.specs.declared.fault.Why.TheVariants.{Short, NotShortest, TooWide, BadTag, TooMany, Trailing}
use Rattle.scale_wire.specs.Form.{Form, Begins, IsRefused, IsWire, IsBytes, IsAtMost, IsBelow, both}
use Rattle.scale_wire.specs.FormLaws.{one_within, other_within, at_most_within, below_within, both_at_most, both_below}
use Rattle.scale_wire.specs.Marked.{begins_with, marked_bytes, BadBehindMark, BadMarked, marked}

-- `is_wide` tells the forms apart. The plain form has a value, and refuses all bytes that begin with
-- the mark.
pub record AreApart {V : Type 0} (mark : ℕ) (is_wide : V → Bool) (plain wide : Form V) : Type 0 where
  pub plain_is : (value : V) → plain.in_range value → is_wide value ≡ false
  pub wide_is : (value : V) → wide.in_range value → is_wide value ≡ true
  pub marked_refused : (rest : List ℕ) → IsRefused plain (mark ∷ rest)
  pub some : V
  pub some_fits : plain.in_range some

short_or_not : (why : Why) → (why ≡ Short) ⊎ (why ≢ Short)
short_or_not Short = inl refl
short_or_not NotShortest = inr (λ same. cc)
short_or_not TooWide = inr (λ same. cc)
short_or_not BadTag = inr (λ same. cc)
short_or_not TooMany = inr (λ same. cc)
short_or_not Trailing = inr (λ same. cc)

module _ {V : Type 0} (mark : ℕ) (is_wide : V → Bool) (plain wide : Form V) (plain_laws : IsWire plain) (wide_laws : IsWire wide) (apart : AreApart mark is_wide plain wide) where
  abbrev form : Form V
  form = marked mark is_wide plain wide

  pub plain_spelled : (x : V) → plain.in_range x → form.spelling x ≡ plain.spelling x
  plain_spelled x fits = ap (λ (b : Bool). marked_bytes mark plain wide b x) (apart.plain_is x fits)

  pub wide_spelled : (x : V) → wide.in_range x → form.spelling x ≡ mark ∷ wide.spelling x
  wide_spelled x fits = ap (λ (b : Bool). marked_bytes mark plain wide b x) (apart.wide_is x fits)

  -- no spelling of the plain form begins with the mark
  pub unmarked : (x : V) (rest : List ℕ) → plain.in_range x → begins_with mark (plain.spelling x ++ rest) ≡ false
  unmarked x rest fits = at (plain.spelling x ++ rest) refl where
    at : (bytes : List ℕ) → plain.spelling x ++ rest ≡ bytes → begins_with mark bytes ≡ false
    at [] is = refl
    at (first ∷ more) is = elim (eqb_tells first mark) [
      | inl same ↦
          (let refused = apart.marked_refused more in
          absurd (plain_laws.exclusive x rest refused.at refused.why fits
          (subst (λ (s : List ℕ). plain.bad s refused.at refused.why) (sym (is ∙ ap (λ (b : ℕ). b ∷ more) same.1)) refused.bad)))
      | inr other ↦ other.0
    ]

  mark_is : (rest : List ℕ) → begins_with mark (mark ∷ rest) ≡ true
  mark_is rest = elim (eqb_tells mark mark) [
    | inl same ↦ same.0
    | inr other ↦ absurd (other.1 refl)
  ]

  bad_as : (b : Bool) (bytes : List ℕ) (at : ℕ) (why : Why) → begins_with mark bytes ≡ b → form.bad bytes at why → BadMarked plain wide b bytes at why
  bad_as b bytes at why is bad = subst (λ (c : Bool). BadMarked plain wide c bytes at why) is bad

  bad_by : (b : Bool) (bytes : List ℕ) (at : ℕ) (why : Why) → begins_with mark bytes ≡ b → BadMarked plain wide b bytes at why → form.bad bytes at why
  bad_by b bytes at why is bad = subst (λ (c : Bool). BadMarked plain wide c bytes at why) (sym is) bad

  same_plain : (x y : V) (rest more : List ℕ) → plain.in_range x → plain.in_range y → form.spelling x ++ rest ≡ form.spelling y ++ more → (x ≡ y) × (rest ≡ more)
  same_plain x y rest more x_fits y_fits same =
      plain_laws.one_reading x y rest more x_fits y_fits
      (ap (λ (s : List ℕ). s ++ rest) (sym (plain_spelled x x_fits)) ∙ (same ∙ ap (λ (s : List ℕ). s ++ more) (plain_spelled y y_fits)))

  same_wide : (x y : V) (rest more : List ℕ) → wide.in_range x → wide.in_range y → form.spelling x ++ rest ≡ form.spelling y ++ more → (x ≡ y) × (rest ≡ more)
  same_wide x y rest more x_fits y_fits same =
      let whole : mark ∷ (wide.spelling x ++ rest) ≡ mark ∷ (wide.spelling y ++ more) =
      ap (λ (s : List ℕ). s ++ rest) (sym (wide_spelled x x_fits)) ∙ (same ∙ ap (λ (s : List ℕ). s ++ more) (wide_spelled y y_fits)) in
      wide_laws.one_reading x y rest more x_fits y_fits (ap (drop 1) whole)

  never_same : (x y : V) (rest more : List ℕ) → plain.in_range x → wide.in_range y → form.spelling x ++ rest ≡ form.spelling y ++ more → ⊥
  never_same x y rest more x_fits y_fits same =
      let whole : plain.spelling x ++ rest ≡ mark ∷ (wide.spelling y ++ more) =
      ap (λ (s : List ℕ). s ++ rest) (sym (plain_spelled x x_fits)) ∙ (same ∙ ap (λ (s : List ℕ). s ++ more) (wide_spelled y y_fits)) in
      true≢false (sym (mark_is (wide.spelling y ++ more)) ∙ (ap (begins_with mark) (sym whole) ∙ unmarked x rest x_fits))

  marked_reading : (x y : V) (rest more : List ℕ) → form.in_range x → form.in_range y → form.spelling x ++ rest ≡ form.spelling y ++ more → (x ≡ y) × (rest ≡ more)
  marked_reading x y rest more (inl x_fits) (inl y_fits) same = same_plain x y rest more x_fits y_fits same
  marked_reading x y rest more (inl x_fits) (inr y_fits) same = absurd (never_same x y rest more x_fits y_fits same)
  marked_reading x y rest more (inr x_fits) (inl y_fits) same = absurd (never_same y x more rest y_fits x_fits (sym same))
  marked_reading x y rest more (inr x_fits) (inr y_fits) same = same_wide x y rest more x_fits y_fits same

  plain_covers : (bytes : List ℕ) → IsBytes bytes → begins_with mark bytes ≡ false → Begins form bytes ⊎ IsRefused form bytes
  plain_covers bytes are_bytes is =
      elim (plain_laws.covers bytes are_bytes) [
        | inl begins ↦ inl record {
          value = begins.value;
          in_range = inl begins.in_range;
          rest = begins.rest;
          whole = begins.whole ∙ ap (λ (s : List ℕ). s ++ begins.rest) (sym (plain_spelled begins.value begins.in_range));
        }
        | inr refused ↦ inr record {
          at = refused.at;
          why = refused.why;
          bad = bad_by false bytes refused.at refused.why is refused.bad;
        }
      ]

  wide_covers : (first : ℕ) (rest : List ℕ) → IsBytes rest → begins_with mark (first ∷ rest) ≡ true → first ≡ mark → Begins form (first ∷ rest) ⊎ IsRefused form (first ∷ rest)
  wide_covers first rest are_bytes is first_is =
      elim (wide_laws.covers rest are_bytes) [
        | inl begins ↦ inl record {
          value = begins.value;
          in_range = inr begins.in_range;
          rest = begins.rest;
          whole = ap (λ (b : ℕ). b ∷ rest) first_is ∙ (ap (λ (s : List ℕ). mark ∷ s) begins.whole
              ∙ ap (λ (s : List ℕ). s ++ begins.rest) (sym (wide_spelled begins.value begins.in_range)));
        }
        | inr refused ↦ inr record {
          at = 1 + refused.at;
          why = refused.why;
          bad = bad_by true (first ∷ rest) (1 + refused.at) refused.why is record { place = refused.at; at_is = refl; refused = refused.bad };
        }
      ]

  marked_covers : (bytes : List ℕ) → IsBytes bytes → Begins form bytes ⊎ IsRefused form bytes
  marked_covers [] are_bytes = plain_covers [] are_bytes refl
  marked_covers (first ∷ rest) are_bytes = elim (eqb_tells first mark) [
    | inl same ↦ wide_covers first rest are_bytes.1 same.0 same.1
    | inr other ↦ plain_covers (first ∷ rest) are_bytes other.0
  ]

  marked_exclusive : (x : V) (rest : List ℕ) (at : ℕ) (why : Why) → form.in_range x → form.bad (form.spelling x ++ rest) at why → ⊥
  marked_exclusive x rest at why (inl fits) bad =
      let here : form.bad (plain.spelling x ++ rest) at why = subst (λ (s : List ℕ). form.bad (s ++ rest) at why) (plain_spelled x fits) bad in
      plain_laws.exclusive x rest at why fits (bad_as false (plain.spelling x ++ rest) at why (unmarked x rest fits) here)
  marked_exclusive x rest at why (inr fits) bad =
      let here : form.bad (mark ∷ (wide.spelling x ++ rest)) at why = subst (λ (s : List ℕ). form.bad (s ++ rest) at why) (wide_spelled x fits) bad in
      let behind : BadBehindMark wide.bad (mark ∷ (wide.spelling x ++ rest)) at why = bad_as true (mark ∷ (wide.spelling x ++ rest)) at why (mark_is (wide.spelling x ++ rest)) here in
      wide_laws.exclusive x rest behind.place why fits behind.refused

  marked_one_fault : (bytes : List ℕ) (at at' : ℕ) (why why' : Why) → form.bad bytes at why → form.bad bytes at' why' → (at ≡ at') × (why ≡ why')
  marked_one_fault bytes at at' why why' = by (begins_with mark bytes) where
    by : (b : Bool) → BadMarked plain wide b bytes at why → BadMarked plain wide b bytes at' why' → (at ≡ at') × (why ≡ why')
    by true bad bad' =
        let p = wide_laws.one_fault (drop 1 bytes) bad.place bad'.place why why' bad.refused bad'.refused in
        (bad.at_is ∙ (ap (λ (n : ℕ). 1 + n) p.0 ∙ sym bad'.at_is), p.1)
    by false bad bad' = plain_laws.one_fault bytes at at' why why' bad bad'

  -- of no bytes at all the plain form says that they are missing: any other refusal would stand before a value
  empty_short : (at : ℕ) (why : Why) → plain.bad [] at why → why ≡ Short
  empty_short at why bad = elim (short_or_not why) [
    | inl short ↦ short
    | inr other ↦ absurd (plain_laws.exclusive apart.some [] at why apart.some_fits
        (plain_laws.persists [] (plain.spelling apart.some ++ []) at why tt other bad))
  ]

  marked_persists : (bytes more : List ℕ) (at : ℕ) (why : Why) → IsBytes bytes → why ≢ Short → form.bad bytes at why → form.bad (bytes ++ more) at why
  marked_persists [] more at why are_bytes not_short bad = absurd (not_short (empty_short at why bad))
  marked_persists (first ∷ rest) more at why are_bytes not_short bad = by (begins_with mark (first ∷ rest)) bad where
    by : (b : Bool) → BadMarked plain wide b (first ∷ rest) at why → BadMarked plain wide b ((first ∷ rest) ++ more) at why
    by true bad = record {
      place = bad.place;
      at_is = bad.at_is;
      refused = wide_laws.persists rest more bad.place why are_bytes.1 not_short bad.refused;
    }
    by false bad = plain_laws.persists (first ∷ rest) more at why are_bytes not_short bad

  marked_no_trailing : (bytes : List ℕ) (at : ℕ) → form.bad bytes at Trailing → ⊥
  marked_no_trailing bytes at = by (begins_with mark bytes) where
    by : (b : Bool) → BadMarked plain wide b bytes at Trailing → ⊥
    by true bad = wide_laws.no_trailing (drop 1 bytes) bad.place bad.refused
    by false bad = plain_laws.no_trailing bytes at bad

  abbrev marked_longest : Option ℕ
  marked_longest = both (Some 1) wide.longest

  marked_bounded : (x : V) → form.in_range x → IsAtMost (length (form.spelling x)) form.longest
  marked_bounded x (inl fits) =
      subst (λ (s : List ℕ). IsAtMost (length s) form.longest) (sym (plain_spelled x fits))
      (at_most_within (length (plain.spelling x)) plain.longest form.longest (plain_laws.bounded x fits) (one_within plain.longest marked_longest))
  marked_bounded x (inr fits) =
      subst (λ n. IsAtMost n form.longest) (sym (let same = ap length (wide_spelled x fits) in omega (arith, same)))
      (at_most_within (1 + length (wide.spelling x)) marked_longest form.longest
      (both_at_most 1 (length (wide.spelling x)) (Some 1) wide.longest (omega arith) (wide_laws.bounded x fits)) (other_within plain.longest marked_longest))

  marked_short : (bytes : List ℕ) (at : ℕ) → form.bad bytes at Short → IsBelow (length bytes) form.longest
  marked_short bytes at bad = by (begins_with mark bytes) refl bad where
    plain_short : plain.bad bytes at Short → IsBelow (length bytes) form.longest
    plain_short here = below_within (length bytes) plain.longest form.longest (plain_laws.short bytes at here) (one_within plain.longest marked_longest)

    wide_short : (place : ℕ) → wide.bad (drop 1 bytes) place Short → length bytes ≡ 1 + length (drop 1 bytes) → IsBelow (length bytes) form.longest
    wide_short place here size =
        below_within (length bytes) marked_longest form.longest
        (subst (λ n. IsBelow n marked_longest) (sym size) (both_below 1 (length (drop 1 bytes)) (Some 1) wide.longest (omega arith) (wide_laws.short (drop 1 bytes) place here)))
        (other_within plain.longest marked_longest)

    some_marked : (bs : List ℕ) → begins_with mark bs ≡ true → length bs ≡ 1 + length (drop 1 bs)
    some_marked [] is = cc
    some_marked (first ∷ rest) is = omega arith

    by : (b : Bool) → begins_with mark bytes ≡ b → BadMarked plain wide b bytes at Short → IsBelow (length bytes) form.longest
    by true is bad = wide_short bad.place bad.refused (some_marked bytes is)
    by false is bad = plain_short bad

  pub marked_laws : IsWire (marked mark is_wide plain wide)
  marked_laws = record {
    one_reading = marked_reading;
    covers = marked_covers;
    exclusive = marked_exclusive;
    one_fault = marked_one_fault;
    persists = marked_persists;
    no_trailing = marked_no_trailing;
    bounded = marked_bounded;
    short = marked_short;
  }
