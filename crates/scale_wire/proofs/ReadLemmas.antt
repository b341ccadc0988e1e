-- What readers and writers answer, where one part stands behind another.
use Rattle.std.proofs.Common.{◌≡◌, ◌≢◌, ℕ, ◌+◌, ◌<◌, List, [], ◌∷◌, ◌++◌, length, refl, sym, ◌∙◌, ap, subst, inr, arith, append_assoc, append-nil}
use Rattle.std.specs.Prelude.{Result, Ok, Err, nat_eq}
use Rattle.scale_wire.specs.declared.fault.Why.{Why}
use Rattle.scale_wire.specs.declared.fault.Why.TheVariants.{Trailing}
use Rattle.scale_wire.specs.declared.fault.WireFault.{WireFault}
use Rattle.scale_wire.specs.declared.fault.ReadFault.{ReadFault}
use Rattle.scale_wire.specs.declared.fault.ReadFault.TheVariants.{Wire, NoMemory}
use Rattle.scale_wire.specs.Form.{Form}
use Rattle.scale_wire.specs.Composite.{BadThen, pair, triple, seen, optional, BadOptional, Fields, variant_at, Choice, choice, behind_tag}
use Rattle.scale_wire.specs.Parts.{tag_form}
use Rattle.scale_wire.specs.Values.{flag_form}
use Rattle.scale_wire.specs.ValueLaws.{flag_is}
use Rattle.scale_wire.specs.Reading.{Place, Refuses, IsRead, IsFault, Reads, HasRest, BadWhole, HasFront, Writes}

-- what is refused behind the head is refused as the whole
pub behind_fault : {A : Type 0} (head : Form A) (bad : A → List ℕ → ℕ → Why
    → Type 0) (old mid new : Place) (first : A) (fault : WireFault) → IsRead head old first mid
    → Refuses (bad first) mid fault new → Refuses (BadThen head bad) old fault old
behind_fault head bad old mid new first fault read refused = record {
  place = length (head.spelling first) + refused.place;
  bad = inr record {
    first = first;
    in_range = read.in_range;
    rest = mid.rest;
    whole = read.whole;
    place = refused.place;
    at_is = refl;
    refused = refused.bad;
  };
  at_is = omega (arith, refused.at_is, read.at_is);
  unchanged = refl;
}

-- the second of a pair was refused
pub pair_err : {A B : Type 0} (a : Form A) (b : Form B) (old mid new : Place) (first : A) (fault : ReadFault)
    → IsRead a old first mid → Reads b mid (Err fault) new → Reads (pair a b) old (Err fault) old
pair_err a b old mid new first (Wire fault) read refused = behind_fault a (λ _. b.bad) old mid new first fault read refused
pair_err a b old mid new first NoMemory read refused = refl

-- what follows the first of a triple was refused
pub triple_err : {A B C : Type 0} (a : Form A) (b : Form B) (c : Form C) (old mid new : Place) (first : A)
    (fault : ReadFault) → IsRead a old first mid → Reads (pair b c) mid (Err fault) new
    → Reads (triple a b c) old (Err fault) old
triple_err a b c old mid new first (Wire fault) read refused = behind_fault a (λ _. (pair b c).bad) old mid new first fault read refused
triple_err a b c old mid new first NoMemory read refused = refl

-- a byte follows the value that was read
pub bad_whole : {V : Type 0} (form : Form V) (bytes : List ℕ) (value : V) (end : Place)
    → IsRead form (record { at = 0; rest = bytes }) value end → 0 < length end.rest
    → BadWhole form bytes end.at Trailing
bad_whole form bytes value end read more = inr (refl, rest_of end.rest read.whole more)
  where
    rest_of : (rest : List ℕ) → bytes ≡ form.spelling value ++ rest → 0 < length rest → HasRest form bytes end.at
    rest_of [] whole more = absurd (omega (arith, more))
    rest_of (next ∷ rest) whole more = record {
      value = value;
      in_range = read.in_range;
      next = next;
      rest = rest;
      whole = whole;
      at_is = omega (arith, read.at_is);
    }

-- a front of the first was appended
pub front_more : (first second old new : List ℕ) → HasFront first old new → HasFront (first ++ second) old new
front_more first second old new has = record {
  front = has.front;
  rest = has.rest ++ second;
  split = ap (λ (s : List ℕ). s ++ second) has.split ∙ append_assoc has.front has.rest second;
  new_is = has.new_is;
}

-- the first was appended, and a front of the second
pub front_behind : (first second old mid new : List ℕ) → mid ≡ old ++ first → HasFront second mid new → HasFront (first ++ second) old new
front_behind first second old mid new first_is has = record {
  front = first ++ has.front;
  rest = has.rest;
  split = ap (λ (s : List ℕ). first ++ s) has.split ∙ sym (append_assoc first has.front has.rest);
  new_is = has.new_is ∙ (ap (λ (s : List ℕ). s ++ has.front) first_is ∙ append_assoc old first has.front);
}

-- the first was appended, and then the second was written
pub writes_behind : {E : Type 0} (first second old mid : List ℕ) (result : Result Unit E) (new : List ℕ) → mid ≡ old ++ first → Writes second mid result new → Writes (first ++ second) old result new
writes_behind first second old mid (Ok done) new first_is written = written ∙ (ap (λ (s : List ℕ). s ++ second) first_is ∙ append_assoc old first second)
writes_behind first second old mid (Err e) new first_is has = front_behind first second old mid new first_is has

-- the value behind the tag of an option was refused; `here` is a copy of the cursor as it was
pub optional_err : {A : Type 0} (value : Form A) (old here mid new : Place) (tag : ℕ) (fault : ReadFault) → here ≡ old
    → tag ≢ 0 → IsRead (tag_form 2) here tag mid → Reads value mid (Err fault) new
    → Reads (optional value) old (Err fault) old
optional_err value old here mid new tag (Wire fault) same not_none read refused =
    let is_some : tag ≡ 1 = omega (arith, read.in_range) in
    subst (λ (o : Place). IsFault (optional value) o fault o) same (behind_fault (tag_form 2) (BadOptional value) here mid new tag fault read record {
      place = refused.place;
      bad = (is_some, refused.bad);
      at_is = refused.at_is;
      unchanged = refused.unchanged;
    })
optional_err value old here mid new tag NoMemory same not_none read refused = refl

-- the first of three was appended, and a front of the second
pub second_front : (first second third old mid new : List ℕ) → mid ≡ old ++ first → HasFront second mid new → HasFront (first ++ (second ++ third)) old new
second_front first second third old mid new first_is has = front_behind first (second ++ third) old mid new first_is (front_more second third mid new has)

-- two of three were appended, and then the third was written
pub third_written : {E : Type 0} (first second third old mid next : List ℕ) (result : Result Unit E) (new : List ℕ)
    → mid ≡ old ++ first → next ≡ mid ++ second → Writes third next result new
    → Writes (first ++ (second ++ third)) old result new
third_written first second third old mid next result new first_is second_is written =
    writes_behind first (second ++ third) old mid result new first_is (writes_behind second third mid next result new second_is written)

pub nothing_written : (old : List ℕ) → old ≡ old ++ []
nothing_written old = sym (append-nil old)

-- the tag of a truth value was read
pub flag_read : (old new : Place) (tag : ℕ) → IsRead (tag_form 2) old tag new → IsRead flag_form old (nat_eq tag 1) new
flag_read old new tag read = record {
  in_range = subst (λ n. n < 2) (sym (flag_is tag read.in_range)) read.in_range;
  whole = read.whole ∙ ap (λ n. n ∷ new.rest) (sym (flag_is tag read.in_range));
  at_is = read.at_is;
}

-- ## Enums

module _ {W : Type 0} (variants : List Fields) (choose : W → Choice variants) where
  -- the fields behind the tag were refused; `here` is a copy of the cursor as it was
  pub fields_err : (old here mid new : Place) (tag : ℕ) (fault : ReadFault) → here ≡ old
      → IsRead (tag_form (length variants)) here tag mid → Reads (behind_tag variants choose tag) mid (Err fault) new
      → Reads (seen (choice variants) choose) old (Err fault) old
  fields_err old here mid new tag (Wire fault) same read refused =
      subst (λ (o : Place). IsFault (seen (choice variants) choose) o fault o) same
      (behind_fault (tag_form (length variants)) (λ t. (variant_at variants t).form.bad) here mid new tag fault read refused)
  fields_err old here mid new tag NoMemory same read refused = refl
