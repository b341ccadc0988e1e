-- Proofs: forms that are made of others keep the laws of a form.
use Rattle.std.specs.Prelude.{◌≡◌, ◌≢◌, ◌⊎◌, ℕ, zero, suc, ◌+◌, ◌%◌, ◌^◌, ◌<◌, ◌≤◌, List, [], ◌∷◌, ◌++◌, length, Option, Some, None, IfSome, MatchOption, refl}
use Rattle.std.proofs.Common.{sym, ◌∙◌, ap, ap₂, subst, inl, inr, arith, lit<, append_assoc, length-append}
use Rattle.std.proofs.Math.Nat.{mul-le-mul_right, mod-lt}
use Rattle.scale_wire.specs.declared.fault.Why.{Why}
use Rattle.scale_wire.specs.declared.fault.Why.TheVariants.{Short, Trailing}
use Rattle.scale_wire.specs.Form.{Form, Begins, IsRefused, IsWire, IsBytes, IsAtMost, IsBelow, IsShorter, both, times, either}
use Rattle.scale_wire.specs.Parts.{byte_string, length_form, tag_form}
use Rattle.scale_wire.specs.Composite.{BadThen, pair, triple, seen, nothing, items, row, IsRow, longest_row, list, byte_list, optional}
use Rattle.scale_wire.specs.Composite.{optional_bytes, BadOptional, Fields, variant_at, longest_variant, Choice, choice, behind_tag}

pub IsBytes-rest : (front rest : List ℕ) → IsBytes (front ++ rest) → IsBytes rest
IsBytes-rest [] rest bytes = bytes
IsBytes-rest (byte ∷ front) rest bytes = IsBytes-rest front rest bytes.1

pub IsBytes-front : (front rest : List ℕ) → IsBytes (front ++ rest) → IsBytes front
IsBytes-front [] rest bytes = tt
IsBytes-front (byte ∷ front) rest bytes = (bytes.0, IsBytes-front front rest bytes.1)

pub IsBytes-append : (front rest : List ℕ) → IsBytes front → IsBytes rest → IsBytes (front ++ rest)
IsBytes-append [] rest here there = there
IsBytes-append (byte ∷ front) rest here there = (here.0, IsBytes-append front rest here.1 there)

-- ## Longest spellings

-- what has room in one has room in the other
abbrev pub IsWithin : Option ℕ → Option ℕ → Type 0
IsWithin _ None = Unit {0}
IsWithin None (Some most) = ⊥
IsWithin (Some least) (Some most) = least ≤ most

pub within_itself : (longest : Option ℕ) → IsWithin longest longest
within_itself None = tt
within_itself (Some most) = omega arith

pub zero_within : (longest : Option ℕ) → IsWithin (Some 0) longest
zero_within None = tt
zero_within (Some most) = omega arith

pub one_within : (one other : Option ℕ) → IsWithin one (either one other)
one_within one None = no_bound one where
  no_bound : (one : Option ℕ) → IsWithin one (either one None)
  no_bound None = tt
  no_bound (Some most) = tt
one_within None (Some most) = tt
one_within (Some least) (Some most) = omega arith

pub other_within : (one other : Option ℕ) → IsWithin other (either one other)
other_within None other = tt
other_within (Some least) None = tt
other_within (Some least) (Some most) = omega arith

pub within_within : (a b c : Option ℕ) → IsWithin a b → IsWithin b c → IsWithin a c
within_within a b None ab bc = tt
within_within a None (Some most) ab bc = absurd bc
within_within None (Some mid) (Some most) ab bc = absurd ab
within_within (Some least) (Some mid) (Some most) ab bc = omega (arith, ab, bc)

pub times_within : (count limit : ℕ) (longest : Option ℕ) → count ≤ limit → IsWithin (times count longest) (times limit longest)
times_within count limit None below = tt
times_within count limit (Some most) below = mul-le-mul_right most below

pub more_within : (count : ℕ) (longest : Option ℕ) → IsWithin (both longest (times count longest)) (times (suc count) longest)
more_within count None = tt
more_within count (Some most) = omega arith

pub no_times : (longest : Option ℕ) → IsWithin (Some 0) (times 0 longest)
no_times None = tt
no_times (Some most) = omega arith

pub at_most_within : (size : ℕ) (a b : Option ℕ) → IsAtMost size a → IsWithin a b → IsAtMost size b
at_most_within size a None here within = tt
at_most_within size None (Some most) here within = absurd within
at_most_within size (Some least) (Some most) here within = omega (arith, here, within)

pub below_within : (size : ℕ) (a b : Option ℕ) → IsBelow size a → IsWithin a b → IsBelow size b
below_within size a None here within = tt
below_within size None (Some most) here within = absurd within
below_within size (Some least) (Some most) here within = omega (arith, here, within)

pub both_at_most : (size more : ℕ) (a b : Option ℕ) → IsAtMost size a → IsAtMost more b → IsAtMost (size + more) (both a b)
both_at_most size more None b here there = tt
both_at_most size more (Some least) None here there = tt
both_at_most size more (Some least) (Some most) here there = omega (arith, here, there)

pub both_below : (size more : ℕ) (a b : Option ℕ) → IsAtMost size a → IsBelow more b → IsBelow (size + more) (both a b)
both_below size more None b here there = tt
both_below size more (Some least) None here there = tt
both_below size more (Some least) (Some most) here there = omega (arith, here, there)

pub first_below : (size : ℕ) (a b : Option ℕ) → IsBelow size a → IsBelow size (both a b)
first_below size None b here = tt
first_below size (Some least) None here = tt
first_below size (Some least) (Some most) here = omega (arith, here)

-- a form whose longest spelling is below a number has no longer one, and lacks bytes only below it
module _ {V : Type 0} (form : Form V) (laws : IsWire form) (limit : ℕ) (shorter : IsShorter form limit) where
  under : (longest : Option ℕ) (size : ℕ) → MatchOption longest ⊥ (λ most. most < limit) → IsAtMost size longest → size < limit
  under None size none here = absurd none
  under (Some most) size some here = omega (arith, some, here)

  lacking : (longest : Option ℕ) (size : ℕ) → MatchOption longest ⊥ (λ most. most < limit) → IsBelow size longest → size < limit
  lacking None size none here = absurd none
  lacking (Some most) size some here = omega (arith, some, here)

  pub spelled_below : (x : V) → form.in_range x → length (form.spelling x) < limit
  spelled_below x fits = under form.longest (length (form.spelling x)) shorter (laws.bounded x fits)

  pub missing_below : (bytes : List ℕ) (at : ℕ) → form.bad bytes at Short → length bytes < limit
  missing_below bytes at bad = lacking form.longest (length bytes) shorter (laws.short bytes at bad)

-- ## A form whose values are made of another's

-- Each value in range is made of one of the other form, which has its spelling and its refusals.
pub record IsMadeOf {V W : Type 0} (form : Form V) (of : Form W) (make : W → V) : Type 0 where
  pub fits : (w : W) → of.in_range w → form.in_range (make w)
  pub spelled : (w : W) → of.in_range w → form.spelling (make w) ≡ of.spelling w
  pub comes : (v : V) → form.in_range v → (w : W) × of.in_range w × (make w ≡ v)
  pub bad_from : (bytes : List ℕ) (at : ℕ) (why : Why) → form.bad bytes at why → of.bad bytes at why
  pub bad_to : (bytes : List ℕ) (at : ℕ) (why : Why) → of.bad bytes at why → form.bad bytes at why
  pub within : IsWithin of.longest form.longest

module _ {V W : Type 0} (form : Form V) (of : Form W) (make : W → V) (made : IsMadeOf form of make) (laws : IsWire of) where
  made_spelling : (v : V) (in_range : form.in_range v) → form.spelling v ≡ of.spelling (made.comes v in_range).0
  made_spelling v in_range =
      let from = made.comes v in_range in
      ap form.spelling (sym from.2) ∙ made.spelled from.0 from.1

  made_reading : (x y : V) (rest more : List ℕ) → form.in_range x → form.in_range y → form.spelling x ++ rest ≡ form.spelling y ++ more → (x ≡ y) × (rest ≡ more)
  made_reading x y rest more x_fits y_fits same =
      let from_x = made.comes x x_fits in
      let from_y = made.comes y y_fits in
      let p = laws.one_reading from_x.0 from_y.0 rest more from_x.1 from_y.1
      (ap (λ (s : List ℕ). s ++ rest) (sym (made_spelling x x_fits))
      ∙ (same ∙ ap (λ (s : List ℕ). s ++ more) (made_spelling y y_fits))) in
      (sym from_x.2 ∙ (ap make p.0 ∙ from_y.2), p.1)

  made_covers : (bytes : List ℕ) → IsBytes bytes → Begins form bytes ⊎ IsRefused form bytes
  made_covers bytes are_bytes =
      elim (laws.covers bytes are_bytes) [
        | inl begins ↦ inl record {
          value = make begins.value;
          in_range = made.fits begins.value begins.in_range;
          rest = begins.rest;
          whole = begins.whole ∙ ap (λ (s : List ℕ). s ++ begins.rest) (sym (made.spelled begins.value begins.in_range));
        }
        | inr refused ↦ inr record {
          at = refused.at;
          why = refused.why;
          bad = made.bad_to bytes refused.at refused.why refused.bad;
        }
      ]

  pub made_laws : IsWire form
  made_laws = record {
    one_reading = made_reading;
    covers = made_covers;
    exclusive = λ x rest at why x_fits bad.
        let from = made.comes x x_fits in
        laws.exclusive from.0 rest at why from.1 (subst (λ (s : List ℕ). of.bad (s ++ rest) at why) (made_spelling x x_fits) (made.bad_from (form.spelling x ++ rest) at why bad));
    one_fault = λ bytes at at' why why' bad bad'.
        laws.one_fault bytes at at' why why' (made.bad_from bytes at why bad) (made.bad_from bytes at' why' bad');
    persists = λ bytes more at why are_bytes not_short bad.
        made.bad_to (bytes ++ more) at why (laws.persists bytes more at why are_bytes not_short (made.bad_from bytes at why bad));
    no_trailing = λ bytes at bad. laws.no_trailing bytes at (made.bad_from bytes at Trailing bad);
    bounded = λ x x_fits.
        let from = made.comes x x_fits in
        at_most_within (length (form.spelling x)) of.longest form.longest
        (subst (λ (s : List ℕ). IsAtMost (length s) of.longest) (sym (made_spelling x x_fits)) (laws.bounded from.0 from.1)) made.within;
    short = λ bytes at bad.
        below_within (length bytes) of.longest form.longest (laws.short bytes at (made.bad_from bytes at Short bad)) made.within;
  }

pub nothing_laws : IsWire nothing
nothing_laws = record {
  one_reading = λ x y rest more x_fits y_fits same. (refl, same);
  covers = λ bytes are_bytes. inl record { value = tt; in_range = tt; rest = bytes; whole = refl };
  exclusive = λ x rest at why x_fits bad. bad;
  one_fault = λ bytes at at' why why' bad bad'. absurd bad;
  persists = λ bytes more at why are_bytes not_short bad. bad;
  no_trailing = λ bytes at bad. bad;
  bounded = λ x x_fits. omega arith;
  short = λ bytes at bad. absurd bad;
}

-- ## A part behind another

-- The form of values that are spelled as a head and then as what the head leaves due.
abbrev pub followed : {A W : Type 0} → Form A → (W → A) → (A → Form W) → Option ℕ → Form W
followed head first_of tail most = record {
  spelling = λ w. head.spelling (first_of w) ++ (tail (first_of w)).spelling w;
  in_range = λ w. head.in_range (first_of w) × (tail (first_of w)).in_range w;
  bad = BadThen head (λ first. (tail first).bad);
  longest = both head.longest most;
}

module _ {A W : Type 0} (head : Form A) (first_of : W → A) (tail : A
    → Form W) (most : Option ℕ) (head_laws : IsWire head) (tail_laws : (a : A) → head.in_range a
    → IsWire (tail a)) (agrees : (a : A) (w : W) → (tail a).in_range w → first_of w ≡ a) (within : (a : A)
    → head.in_range a → IsWithin (tail a).longest most) where
  tail_reading : (a a' : A) → a ≡ a' → head.in_range a → (x y : W) (rest more : List ℕ) → (tail a).in_range x
      → (tail a').in_range y → (tail a).spelling x ++ rest ≡ (tail a').spelling y ++ more → (x ≡ y) × (rest ≡ more)
  tail_reading a a' path a_fits x y rest more x_fits y_fits same =
      let y_at_a : (tail a).in_range y = subst (λ (b : A). (tail b).in_range y) (sym path) y_fits in
      let same_at_a : (tail a).spelling x ++ rest ≡ (tail a).spelling y ++ more = subst (λ (b : A). (tail a).spelling x ++ rest ≡ (tail b).spelling y ++ more) (sym path) same in
      (tail_laws a a_fits).one_reading x y rest more x_fits y_at_a same_at_a

  followed_reading : (x y : W) (rest more : List ℕ) → (followed head first_of tail most).in_range x
      → (followed head first_of tail most).in_range y → (followed head first_of tail most).spelling x ++ rest
      ≡ (followed head first_of tail most).spelling y ++ more → (x ≡ y) × (rest ≡ more)
  followed_reading x y rest more x_fits y_fits same =
      let p = head_laws.one_reading (first_of x) (first_of y) ((tail (first_of x)).spelling x
      ++ rest) ((tail (first_of y)).spelling y ++ more) x_fits.0 y_fits.0
      (sym (append_assoc (head.spelling (first_of x)) ((tail (first_of x)).spelling x) rest)
      ∙ (same ∙ append_assoc (head.spelling (first_of y)) ((tail (first_of y)).spelling y) more)) in
      tail_reading (first_of x) (first_of y) p.0 x_fits.0 x y rest more x_fits.1 y_fits.1 p.1

  followed_begins : (bytes : List ℕ) (here : Begins head bytes) → Begins (tail here.value) here.rest → Begins (followed head first_of tail most) bytes
  followed_begins bytes here there =
      let at_first : first_of there.value ≡ here.value = agrees here.value there.value there.in_range in
      record {
        value = there.value;
        in_range = subst (λ (a : A). head.in_range a × (tail a).in_range there.value) (sym at_first) (here.in_range, there.in_range);
        rest = there.rest;
        whole = here.whole ∙ (ap (λ (s : List ℕ). head.spelling here.value ++ s) there.whole
            ∙ (sym (append_assoc (head.spelling here.value) ((tail here.value).spelling there.value) there.rest)
            ∙ ap (λ (a : A). (head.spelling a ++ (tail a).spelling there.value) ++ there.rest) (sym at_first)));
      }

  followed_covers : (bytes : List ℕ) → IsBytes bytes → Begins (followed head first_of tail most) bytes ⊎ IsRefused (followed head first_of tail most) bytes
  followed_covers bytes are_bytes =
      elim (head_laws.covers bytes are_bytes) [
        | inl here ↦ elim ((tail_laws here.value here.in_range).covers here.rest (IsBytes-rest (head.spelling here.value) here.rest (subst IsBytes here.whole are_bytes))) [
          | inl there ↦ inl (followed_begins bytes here there)
          | inr refused ↦ inr record {
            at = length (head.spelling here.value) + refused.at;
            why = refused.why;
            bad = inr record {
              first = here.value;
              in_range = here.in_range;
              rest = here.rest;
              whole = here.whole;
              place = refused.at;
              at_is = refl;
              refused = refused.bad;
            };
          }
        ]
        | inr refused ↦ inr record { at = refused.at; why = refused.why; bad = inl refused.bad }
      ]

  tail_exclusive : (a a' : A) → a ≡ a' → head.in_range a → (x : W) (rest more : List ℕ) (at : ℕ) (why : Why) → (tail a).in_range x → (tail a).spelling x ++ rest ≡ more → (tail a').bad more at why → ⊥
  tail_exclusive a a' path a_fits x rest more at why x_fits same bad =
      (tail_laws a a_fits).exclusive x rest at why x_fits (subst (λ (s : List ℕ). (tail a).bad s at why) (sym same) (subst (λ (b : A). (tail b).bad more at why) (sym path) bad))

  followed_exclusive : (x : W) (rest : List ℕ) (at : ℕ) (why : Why) → (followed head first_of tail most).in_range x
      → (followed head first_of tail most).bad ((followed head first_of tail most).spelling x ++ rest) at why → ⊥
  followed_exclusive x rest at why x_fits bad =
      let apart : (head.spelling (first_of x) ++ (tail (first_of x)).spelling x) ++ rest ≡ head.spelling (first_of x)
      ++ ((tail (first_of x)).spelling x ++ rest) = append_assoc (head.spelling (first_of x))
      ((tail (first_of x)).spelling x) rest in
      elim bad [
        | inl at_head ↦ head_laws.exclusive (first_of x) ((tail (first_of x)).spelling x ++ rest) at why x_fits.0 (subst (λ (s : List ℕ). head.bad s at why) apart at_head)
        | inr behind ↦
            let p = head_laws.one_reading (first_of x) behind.first ((tail (first_of x)).spelling x ++ rest) behind.rest x_fits.0 behind.in_range (sym apart ∙ behind.whole) in
            tail_exclusive (first_of x) behind.first p.0 x_fits.0 x rest behind.rest behind.place why x_fits.1 p.1 behind.refused
      ]

  tail_one_fault : (a a' : A) → a ≡ a' → head.in_range a → (rest rest' : List ℕ) → rest ≡ rest'
      → (at at' : ℕ) (why why' : Why) → (tail a).bad rest at why → (tail a').bad rest' at' why'
      → (at ≡ at') × (why ≡ why')
  tail_one_fault a a' path a_fits rest rest' same at at' why why' bad bad' =
      (tail_laws a a_fits).one_fault rest at at' why why' bad (subst (λ (s : List ℕ). (tail a).bad s at' why') (sym same) (subst (λ (b : A). (tail b).bad rest' at' why') (sym path) bad'))

  followed_one_fault : (bytes : List ℕ) (at at' : ℕ) (why why' : Why)
      → (followed head first_of tail most).bad bytes at why → (followed head first_of tail most).bad bytes at' why'
      → (at ≡ at') × (why ≡ why')
  followed_one_fault bytes at at' why why' bad bad' =
      elim bad [
        | inl here ↦ elim bad' [
          | inl here' ↦ head_laws.one_fault bytes at at' why why' here here'
          | inr there' ↦ absurd (head_laws.exclusive there'.first there'.rest at why there'.in_range (subst (λ (s : List ℕ). head.bad s at why) there'.whole here))
        ]
        | inr there ↦ elim bad' [
          | inl here' ↦ absurd (head_laws.exclusive there.first there.rest at' why' there.in_range (subst (λ (s : List ℕ). head.bad s at' why') there.whole here'))
          | inr there' ↦
              let p = head_laws.one_reading there.first there'.first there.rest there'.rest there.in_range there'.in_range (sym there.whole ∙ there'.whole) in
              let q = tail_one_fault there.first there'.first p.0 there.in_range there.rest there'.rest p.1 there.place there'.place why why' there.refused there'.refused in
              (there.at_is ∙ (ap₂ (λ (a : A) (n : ℕ). length (head.spelling a) + n) p.0 q.0 ∙ sym there'.at_is), q.1)
        ]
      ]

  followed_persists : (bytes more : List ℕ) (at : ℕ) (why : Why) → IsBytes bytes → why ≢ Short
      → (followed head first_of tail most).bad bytes at why
      → (followed head first_of tail most).bad (bytes ++ more) at why
  followed_persists bytes more at why are_bytes not_short bad =
      elim bad [
        | inl here ↦ inl (head_laws.persists bytes more at why are_bytes not_short here)
        | inr there ↦ inr record {
          first = there.first;
          in_range = there.in_range;
          rest = there.rest ++ more;
          whole = ap (λ (s : List ℕ). s ++ more) there.whole ∙ append_assoc (head.spelling there.first) there.rest more;
          place = there.place;
          at_is = there.at_is;
          refused = (tail_laws there.first there.in_range).persists there.rest more there.place why
              (IsBytes-rest (head.spelling there.first) there.rest (subst IsBytes there.whole are_bytes)) not_short
              there.refused;
        }
      ]

  followed_no_trailing : (bytes : List ℕ) (at : ℕ) → (followed head first_of tail most).bad bytes at Trailing → ⊥
  followed_no_trailing bytes at bad =
      elim bad [
        | inl here ↦ head_laws.no_trailing bytes at here
        | inr there ↦ (tail_laws there.first there.in_range).no_trailing there.rest there.place there.refused
      ]

  followed_bounded : (x : W) → (followed head first_of tail most).in_range x → IsAtMost (length ((followed head first_of tail most).spelling x)) (both head.longest most)
  followed_bounded x x_fits =
      let there = at_most_within (length ((tail (first_of x)).spelling x)) (tail (first_of x)).longest most ((tail_laws (first_of x) x_fits.0).bounded x x_fits.1) (within (first_of x) x_fits.0) in
      subst (λ n. IsAtMost n (both head.longest most)) (sym (length-append (head.spelling (first_of x)) ((tail (first_of x)).spelling x)))
      (both_at_most (length (head.spelling (first_of x))) (length ((tail (first_of x)).spelling x)) head.longest most (head_laws.bounded (first_of x) x_fits.0) there)

  followed_short : (bytes : List ℕ) (at : ℕ) → (followed head first_of tail most).bad bytes at Short → IsBelow (length bytes) (both head.longest most)
  followed_short bytes at bad =
      elim bad [
        | inl here ↦ first_below (length bytes) head.longest most (head_laws.short bytes at here)
        | inr there ↦
            let behind = below_within (length there.rest) (tail there.first).longest most
            ((tail_laws there.first there.in_range).short there.rest there.place there.refused)
            (within there.first there.in_range) in
            let size : length bytes ≡ length (head.spelling there.first) + length there.rest = ap length there.whole ∙ length-append (head.spelling there.first) there.rest in
            subst (λ n. IsBelow n (both head.longest most)) (sym size)
            (both_below (length (head.spelling there.first)) (length there.rest) head.longest most (head_laws.bounded there.first there.in_range) behind)
      ]

  pub followed_laws : IsWire (followed head first_of tail most)
  followed_laws = record {
    one_reading = followed_reading;
    covers = followed_covers;
    exclusive = followed_exclusive;
    one_fault = followed_one_fault;
    persists = followed_persists;
    no_trailing = followed_no_trailing;
    bounded = followed_bounded;
    short = followed_short;
  }

-- ## Pairs, triples and structs

module _ {A B : Type 0} (a : Form A) (b : Form B) (a_laws : IsWire a) (b_laws : IsWire b) where
  -- what follows the first of a pair
  abbrev second_of : A → Form (A × B)
  second_of first = record {
    spelling = λ p. b.spelling p.1;
    in_range = λ p. b.in_range p.1 × (p.0 ≡ first);
    bad = b.bad;
    longest = b.longest;
  }

  second_laws : (first : A) → IsWire (second_of first)
  second_laws first = made_laws (second_of first) b (λ y. (first, y)) record {
    fits = λ y y_fits. (y_fits, refl);
    spelled = λ y y_fits. refl;
    comes = λ p p_fits. (p.1, p_fits.0, ap (λ (x : A). (x, p.1)) (sym p_fits.1));
    bad_from = λ bytes at why bad. bad;
    bad_to = λ bytes at why bad. bad;
    within = within_itself b.longest;
  } b_laws

  abbrev first_of_pair : A × B → A
  first_of_pair p = p.0

  pub pair_laws : IsWire (pair a b)
  pair_laws = made_laws (pair a b) (followed a first_of_pair second_of b.longest) (λ p. p) record {
    fits = λ p p_fits. (p_fits.0, p_fits.1.0);
    spelled = λ p p_fits. refl;
    comes = λ p p_fits. (p, (p_fits.0, (p_fits.1, refl)), refl);
    bad_from = λ bytes at why bad. bad;
    bad_to = λ bytes at why bad. bad;
    within = within_itself (both a.longest b.longest);
  } (followed_laws a first_of_pair second_of b.longest a_laws (λ first fits. second_laws first) (λ first p p_fits. p_fits.1) (λ first fits. within_itself b.longest))

pub triple_laws : {A B C : Type 0} (a : Form A) (b : Form B) (c : Form C) → IsWire a → IsWire b → IsWire c → IsWire (triple a b c)
triple_laws a b c a_laws b_laws c_laws = made_laws (triple a b c) (pair a (pair b c)) (λ p. (p.0, p.1.0, p.1.1)) record {
  fits = λ p p_fits. (p_fits.0, p_fits.1.0, p_fits.1.1);
  spelled = λ p p_fits. refl;
  comes = λ t t_fits. ((t.0, (t.1, t.2)), (t_fits.0, (t_fits.1, t_fits.2)), refl);
  bad_from = λ bytes at why bad. bad;
  bad_to = λ bytes at why bad. bad;
  within = within_itself (both a.longest (both b.longest c.longest));
} (pair_laws a (pair b c) a_laws (pair_laws b c b_laws c_laws))

pub seen_laws : {V W : Type 0} (form : Form V) (fields : W → V) (make : V → W) → ((w : W) → make (fields w) ≡ w) → ((v : V) → fields (make v) ≡ v) → IsWire form → IsWire (seen form fields)
seen_laws form fields make back forth laws = made_laws (seen form fields) form make record {
  fits = λ v v_fits. subst (λ u. form.in_range u) (sym (forth v)) v_fits;
  spelled = λ v v_fits. ap form.spelling (forth v);
  comes = λ w w_fits. (fields w, w_fits, back w);
  bad_from = λ bytes at why bad. bad;
  bad_to = λ bytes at why bad. bad;
  within = within_itself form.longest;
} laws

-- ## Items in a row

module _ {A : Type 0} (item : Form A) (item_laws : IsWire item) where
  no_items_come : (xs : List A) → (items item 0).in_range xs → (none : Unit {0}) × Unit {0} × ([] ≡ xs)
  no_items_come [] fits = (tt, tt, refl)
  no_items_come (x ∷ xs) fits = absurd (omega (arith, fits.1))

  more_items_come : (count : ℕ) (xs : List A) → (items item (suc count)).in_range xs → (p : A × List A) × (pair item (items item count)).in_range p × (p.0 ∷ p.1 ≡ xs)
  more_items_come count [] fits = absurd (omega (arith, fits.1))
  more_items_come count (x ∷ xs) fits = ((x, xs), (fits.0.0, (fits.0.1, omega (arith, fits.1))), refl)

  pub items_laws : (count : ℕ) → IsWire (items item count)
  items_laws zero = made_laws (items item 0) nothing (λ _. []) record {
    fits = λ none none_fits. (tt, refl);
    spelled = λ none none_fits. refl;
    comes = no_items_come;
    bad_from = λ bytes at why bad. bad;
    bad_to = λ bytes at why bad. bad;
    within = no_times item.longest;
  } nothing_laws
  items_laws (suc count) = made_laws (items item (suc count)) (pair item (items item count)) (λ p. p.0 ∷ p.1) record {
    fits = λ p p_fits. ((p_fits.0, p_fits.1.0), omega (arith, p_fits.1.1));
    spelled = λ p p_fits. refl;
    comes = more_items_come count;
    bad_from = λ bytes at why bad. bad;
    bad_to = λ bytes at why bad. bad;
    within = more_within count item.longest;
  } (pair_laws item (items item count) item_laws (items_laws count))

module _ {A : Type 0} (item : ℕ → Form A) (item_laws : (position : ℕ) → IsWire (item position)) where
  no_row_comes : (first : ℕ) (xs : List A) → IsRow item first 0 xs → (none : Unit {0}) × Unit {0} × ([] ≡ xs)
  no_row_comes first [] fits = (tt, tt, refl)
  no_row_comes first (x ∷ xs) fits = absurd fits

  more_row_comes : (first count : ℕ) (xs : List A) → IsRow item first (suc count) xs → (p : A × List A) × (pair (item first) (row item (suc first) count)).in_range p × (p.0 ∷ p.1 ≡ xs)
  more_row_comes first count [] fits = absurd fits
  more_row_comes first count (x ∷ xs) fits = ((x, xs), fits, refl)

  pub row_laws : (first count : ℕ) → IsWire (row item first count)
  row_laws first zero = made_laws (row item first 0) nothing (λ _. []) record {
    fits = λ none none_fits. tt;
    spelled = λ none none_fits. refl;
    comes = no_row_comes first;
    bad_from = λ bytes at why bad. bad;
    bad_to = λ bytes at why bad. bad;
    within = omega arith;
  } nothing_laws
  row_laws first (suc count) = made_laws (row item first (suc count)) (pair (item first) (row item (suc first) count)) (λ p. p.0 ∷ p.1) record {
    fits = λ p p_fits. p_fits;
    spelled = λ p p_fits. refl;
    comes = more_row_comes first count;
    bad_from = λ bytes at why bad. bad;
    bad_to = λ bytes at why bad. bad;
    within = within_itself (both (item first).longest (longest_row item (suc first) count));
  } (pair_laws (item first) (row item (suc first) count) (item_laws first) (row_laws (suc first) count))

-- ## Lists

pub limit_fits : (limit : ℕ) → limit % 2 ^ 32 < 2 ^ 32
limit_fits limit = mod-lt limit (lit< tt)

pub list_laws : {A : Type 0} (item : Form A) (limit : ℕ) → IsWire (length_form limit) → IsWire item → IsWire (list item limit)
list_laws item limit length_laws item_laws = made_laws (list item limit) (followed (length_form limit) length (items item) (times limit item.longest)) (λ xs. xs) record {
  fits = λ xs fits. (fits.0, fits.1.0);
  spelled = λ xs fits. refl;
  comes = λ xs fits. (xs, (fits.0, (fits.1, refl)), refl);
  bad_from = λ bytes at why bad. bad;
  bad_to = λ bytes at why bad. bad;
  within = within_itself (both (Some 5) (times limit item.longest));
} (followed_laws (length_form limit) length (items item) (times limit item.longest) length_laws
    (λ count fits. items_laws item item_laws count) (λ count xs fits. fits.1) (λ count fits. times_within count limit item.longest fits))

pub byte_list_laws : (limit : ℕ) → IsWire (length_form limit) → ((count : ℕ) → IsWire (byte_string count)) → IsWire (byte_list limit)
byte_list_laws limit length_laws string_laws = made_laws (byte_list limit) (followed (length_form limit) length byte_string (Some limit)) (λ bytes. bytes) record {
  fits = λ bytes fits. (fits.0, fits.1.1);
  spelled = λ bytes fits. refl;
  comes = λ bytes fits. (bytes, (fits.0, (refl, fits.1)), refl);
  bad_from = λ bytes at why bad. bad;
  bad_to = λ bytes at why bad. bad;
  within = omega arith;
} (followed_laws (length_form limit) length byte_string (Some limit) length_laws
    (λ count fits. string_laws count) (λ count bytes fits. fits.0) (λ count fits. fits))

-- ## Options

module _ {A : Type 0} (value : Form A) (value_laws : IsWire value) where
  abbrev option_tag : Option A → ℕ
  option_tag None = 0
  option_tag (Some x) = 1

  abbrev some_bytes : Option A → List ℕ
  some_bytes None = []
  some_bytes (Some x) = value.spelling x

  -- what follows the tag of an option
  abbrev option_tail : ℕ → Form (Option A)
  option_tail tag = record {
    spelling = some_bytes;
    in_range = λ option. IfSome option value.in_range × (option_tag option ≡ tag);
    bad = BadOptional value tag;
    longest = value.longest;
  }

  none_comes : (option : Option A) → (option_tail 0).in_range option → (none : Unit {0}) × Unit {0} × (None ≡ option)
  none_comes None fits = (tt, tt, refl)
  none_comes (Some x) fits = absurd (omega (arith, fits.1))

  some_comes : (option : Option A) → (option_tail 1).in_range option → (x : A) × value.in_range x × (Some x ≡ option)
  some_comes None fits = absurd (omega (arith, fits.1))
  some_comes (Some x) fits = (x, fits.0, refl)

  option_tail_laws : (tag : ℕ) → tag < 2 → IsWire (option_tail tag)
  option_tail_laws zero below = made_laws (option_tail 0) nothing (λ _. None) record {
    fits = λ none fits. (tt, refl);
    spelled = λ none fits. refl;
    comes = none_comes;
    bad_from = λ bytes at why bad. omega (arith, bad.0);
    bad_to = λ bytes at why bad. absurd bad;
    within = zero_within value.longest;
  } nothing_laws
  option_tail_laws (suc zero) below = made_laws (option_tail 1) value (λ x. Some x) record {
    fits = λ x fits. (fits, refl);
    spelled = λ x fits. refl;
    comes = some_comes;
    bad_from = λ bytes at why bad. bad.1;
    bad_to = λ bytes at why bad. (refl, bad);
    within = within_itself value.longest;
  } value_laws
  option_tail_laws (suc (suc tag)) below = absurd (omega (arith, below))

  option_fits : (option : Option A) → IfSome option value.in_range → (followed (tag_form 2) option_tag option_tail value.longest).in_range option
  option_fits None fits = (omega arith, (fits, refl))
  option_fits (Some x) fits = (omega arith, (fits, refl))

  option_spelled : (option : Option A) → optional_bytes value option ≡ (followed (tag_form 2) option_tag option_tail value.longest).spelling option
  option_spelled None = refl
  option_spelled (Some x) = refl

  pub optional_laws : IsWire (tag_form 2) → IsWire (optional value)
  optional_laws tag_laws = made_laws (optional value) (followed (tag_form 2) option_tag option_tail value.longest) (λ option. option) record {
    fits = λ option fits. fits.1.0;
    spelled = λ option fits. option_spelled option;
    comes = λ option fits. (option, option_fits option fits, refl);
    bad_from = λ bytes at why bad. bad;
    bad_to = λ bytes at why bad. bad;
    within = within_itself (both (Some 1) value.longest);
  } (followed_laws (tag_form 2) option_tag option_tail value.longest tag_laws option_tail_laws (λ tag option fits. fits.1) (λ tag fits. within_itself value.longest))

-- ## Enums

-- each variant keeps the laws
abbrev pub AreLawful : List Fields → Type 0
AreLawful [] = Unit {0}
AreLawful (variant ∷ variants) = IsWire variant.form × AreLawful variants

variant_at_laws : (variants : List Fields) → AreLawful variants → (tag : ℕ) → tag < length variants
    → IsWire (variant_at variants tag).form
variant_at_laws [] lawful tag below = absurd (omega (arith, below))
variant_at_laws (variant ∷ variants) lawful zero below = lawful.0
variant_at_laws (variant ∷ variants) lawful (suc tag) below = variant_at_laws variants lawful.1 tag (omega (arith, below))

variant_at_within : (variants : List Fields) (tag : ℕ) → IsWithin (variant_at variants tag).form.longest (longest_variant variants)
variant_at_within [] tag = omega arith
variant_at_within (variant ∷ variants) zero = one_within variant.form.longest (longest_variant variants)
variant_at_within (variant ∷ variants) (suc tag) =
    within_within (variant_at variants tag).form.longest (longest_variant variants) (either variant.form.longest (longest_variant variants))
    (variant_at_within variants tag) (other_within variant.form.longest (longest_variant variants))

-- only a tag of a variant has values
tag_below : (variants : List Fields) (tag : ℕ) (values : (variant_at variants tag).Values)
    → (variant_at variants tag).form.in_range values → tag < length variants
tag_below [] tag values fits = absurd fits
tag_below (variant ∷ variants) zero values fits = omega arith
tag_below (variant ∷ variants) (suc tag) values fits =
    let below : tag < length variants = tag_below variants tag values fits in omega arith

module _ (variants : List Fields) (tag_laws : IsWire (tag_form (length variants))) (lawful : AreLawful variants) where
  -- what follows a tag
  abbrev choice_tail : ℕ → Form (Choice variants)
  choice_tail = behind_tag variants (λ chosen. chosen)

  tail_comes : (tag : ℕ) (chosen : Choice variants) → (choice_tail tag).in_range chosen
      → (values : (variant_at variants tag).Values) × (variant_at variants tag).form.in_range values
      × (record { tag = tag; values = values } ≡ chosen)
  tail_comes tag chosen fits =
      subst (λ (t : ℕ). (values : (variant_at variants t).Values) × (variant_at variants t).form.in_range values
      × (record { tag = t; values = values } ≡ chosen)) fits.0 (chosen.values, fits.1, refl)

  choice_tail_laws : (tag : ℕ) → tag < length variants → IsWire (choice_tail tag)
  choice_tail_laws tag below = made_laws (choice_tail tag) (variant_at variants tag).form (λ values. record { tag = tag; values = values }) record {
    fits = λ values fits. (refl, fits);
    spelled = λ values fits. refl;
    comes = tail_comes tag;
    bad_from = λ bytes at why bad. bad;
    bad_to = λ bytes at why bad. bad;
    within = within_itself (variant_at variants tag).form.longest;
  } (variant_at_laws variants lawful tag below)

  pub choice_laws : IsWire (choice variants)
  choice_laws = made_laws (choice variants) (followed (tag_form (length variants)) (λ chosen. chosen.tag) choice_tail (longest_variant variants)) (λ chosen. chosen) record {
    fits = λ chosen fits. fits.1.1;
    spelled = λ chosen fits. refl;
    comes = λ chosen fits. (chosen, (tag_below variants chosen.tag chosen.values fits, (refl, fits)), refl);
    bad_from = λ bytes at why bad. bad;
    bad_to = λ bytes at why bad. bad;
    within = within_itself (both (Some 1) (longest_variant variants));
  } (followed_laws (tag_form (length variants)) (λ chosen. chosen.tag) choice_tail (longest_variant variants) tag_laws
      choice_tail_laws (λ tag chosen fits. fits.0) (λ tag below. variant_at_within variants tag))

-- Each variant keeps the laws, and each choice of it is given by something.
abbrev pub AreVariants : (variants : List Fields) → ((tag : ℕ) → (variant_at variants tag).Values → Type 0) → Type 0
AreVariants [] Given = Unit {0}
AreVariants (variant ∷ variants) Given =
    IsWire variant.form × ((values : variant.Values) → Given 0 values) × AreVariants variants (λ tag. Given (suc tag))

variants_lawful : (variants : List Fields) (Given : (tag : ℕ) → (variant_at variants tag).Values → Type 0)
    → AreVariants variants Given → AreLawful variants
variants_lawful [] Given are = tt
variants_lawful (variant ∷ variants) Given are = (are.0, variants_lawful variants (λ tag. Given (suc tag)) are.2)

abbrev pub given_at : (variants : List Fields) (Given : (tag : ℕ) → (variant_at variants tag).Values → Type 0)
    → AreVariants variants Given → (tag : ℕ) (values : (variant_at variants tag).Values) → Given tag values
given_at [] Given are tag values = absurd values
given_at (variant ∷ variants) Given are zero values = are.1 values
given_at (variant ∷ variants) Given are (suc tag) values = given_at variants (λ t. Given (suc t)) are.2 tag values

-- the value whose choice this is
abbrev pub HasChoice : {W : Type 0} (variants : List Fields) → (W → Choice variants) → (tag : ℕ) → (variant_at variants tag).Values → Type 0
HasChoice {W} variants choose tag values = (w : W) × (choose w ≡ record { tag = tag; values = values })

-- An enum has one value for each choice: the one that `are` gives, and by `back` no other.
pub enum_laws : {W : Type 0} (variants : List Fields) (choose : W → Choice variants) (are : AreVariants variants (HasChoice variants choose))
    → ((w : W) → (given_at variants (HasChoice variants choose) are (choose w).tag (choose w).values).0 ≡ w)
    → IsWire (tag_form (length variants)) → IsWire (seen (choice variants) choose)
enum_laws variants choose are back tag_laws =
    let given = given_at variants (HasChoice variants choose) are in
    seen_laws (choice variants) choose (λ c. (given c.tag c.values).0) back (λ c. (given c.tag c.values).1)
    (choice_laws variants tag_laws (variants_lawful variants (HasChoice variants choose) are))
