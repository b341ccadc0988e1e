-- What the parts of a block that was begun add up to, and what a refusal of one of them is a refusal of.
use Rattle.std.proofs.Common.{◌≡◌, ◌≢◌, ℕ, ◌+◌, ◌-◌, ◌<◌, ◌≤◌, List, [], ◌∷◌, ◌++◌, length, drop, Option, Some, None, IfSome}
use Rattle.std.proofs.Common.{Result, Ok, Err, MatchResult, refl, sym, ◌∙◌, ap, subst, inl, arith, append_assoc, length-append}
use Rattle.std.specs.List.{AllByRecursion, flat_map}
use Rattle.std.proofs.lemmas.List.{append-nil, drop_at, length-drop}
use Rattle.std.proofs.Math.Seq.{drop-append-add}
use Rattle.scale_wire.specs.declared.fault.WireFault.{WireFault}
use Rattle.scale_wire.specs.declared.fault.ReadFault.{ReadFault}
use Rattle.scale_wire.specs.declared.fault.ReadFault.TheVariants.{Wire}
use Rattle.scale_wire.specs.Form.{Form, IsBytes}
use Rattle.scale_wire.specs.FormLaws.{IsBytes-front, IsBytes-append}
use Rattle.scale_wire.specs.Parts.{tag_form, compact_u32, length_form}
use Rattle.scale_wire.specs.Composite.{items, list, pair}
use Rattle.scale_wire.specs.Reading.{Place, IsRead, IsFault, Reads}
use Rattle.scale_wire.proofs.ReadLemmas.{pair_err, optional_err}
use Rattle.scale_wire.proofs.ListLemmas.{list_err, items_err}
use Rattle.block_wire.specs.declared.limits.TheConstants.{MOST_CALLS}
use Rattle.block_wire.specs.declared.call.Call.{Call}
use Rattle.block_wire.specs.declared.begun.Begun.{Begun}
use Rattle.block_wire.specs.declared.begun.Step.TheVariants.{Whole}
use Rattle.block_wire.specs.Calls.{call_form, block_form}
use Rattle.block_wire.specs.Begun.{next_form, behind, IsHead, HasItems, IsBegun, begun_bytes, front_bytes, begun_size, ReadsOn, Opens, IsWholeBlock, Keeps, Steps}

-- ## Places

-- some bytes lead from one place to another
pub record Goes (old new : Place) : Type 0 where
  pub bytes : List ℕ
  pub whole : old.rest ≡ bytes ++ new.rest
  pub at_is : new.at ≡ old.at + length bytes

pub goes_by : {V : Type 0} (form : Form V) (old new : Place) (value : V) → IsRead form old value new → Goes old new
goes_by form old new value read = record { bytes = form.spelling value; whole = read.whole; at_is = read.at_is }

pub goes_on : (old mid new : Place) → Goes old mid → Goes mid new → Goes old new
goes_on old mid new first then = record {
  bytes = first.bytes ++ then.bytes;
  whole = first.whole ∙ (ap (λ (s : List ℕ). first.bytes ++ s) then.whole ∙ sym (append_assoc first.bytes then.bytes new.rest));
  at_is = omega (arith, first.at_is, then.at_is, length-append first.bytes then.bytes);
}

-- the later place is so many bytes behind the earlier
pub record IsBehind (old new : Place) : Type 0 where
  pub place_is : behind (new.at - old.at) old ≡ new
  pub later : old.at ≤ new.at
  pub within : new.at - old.at ≤ length old.rest
  pub fits : new.at + length new.rest ≡ old.at + length old.rest

pub is_behind : (old new : Place) → Goes old new → IsBehind old new
is_behind old new goes =
    let size : length goes.bytes ≡ new.at - old.at = omega (arith, goes.at_is) in
    let at_is : old.at + (new.at - old.at) ≡ new.at = omega (arith, goes.at_is) in
    let rest_is : drop (new.at - old.at) old.rest ≡ new.rest = ap (drop (new.at - old.at)) goes.whole ∙ drop_at goes.bytes new.rest (new.at - old.at) size in
    let long : length old.rest ≡ length goes.bytes + length new.rest = ap length goes.whole ∙ length-append goes.bytes new.rest in
    record {
      place_is = λ i. record { at = at_is i; rest = rest_is i };
      later = omega (arith, goes.at_is);
      within = omega (arith, goes.at_is, long);
      fits = omega (arith, goes.at_is, long);
    }

-- ## The head

-- the None was read
pub none_head : (old new : Place) (tag : ℕ) → tag ≡ 0 → IsRead (tag_form 2) old tag new → IsRead next_form old None new
none_head old new tag none read = record {
  in_range = tt;
  whole = read.whole ∙ ap (λ (t : ℕ). t ∷ new.rest) none;
  at_is = read.at_is;
}

pub tag_fault : (old new : Place) (fault : WireFault) → IsFault (tag_form 2) old fault new → IsFault next_form old fault old
tag_fault old new fault refused = record { place = refused.place; bad = inl refused.bad; at_is = refused.at_is; unchanged = refl }

abbrev calls_form : Form (List Call)
calls_form = list call_form MOST_CALLS

pub number_fault : (old mid new : Place) (tag : ℕ) (fault : WireFault) → tag ≢ 0 → IsRead (tag_form 2) old tag mid → IsFault compact_u32 mid fault new → IsFault next_form old fault old
number_fault old mid new tag fault some read refused =
    optional_err block_form old old mid mid tag (Wire fault) refl some read
    (record { place = refused.place; bad = inl refused.bad; at_is = refused.at_is; unchanged = refl })

pub count_fault : (old mid here new : Place) (tag number : ℕ) (fault : WireFault) → tag ≢ 0 → IsRead (tag_form 2) old tag mid → IsRead compact_u32 mid number here
    → IsFault (length_form MOST_CALLS) here fault new → IsFault next_form old fault old
count_fault old mid here new tag number fault some read numbered refused =
    optional_err block_form old old mid mid tag (Wire fault) refl some read
    (pair_err compact_u32 calls_form mid here here number (Wire fault) numbered
    (record { place = refused.place; bad = inl refused.bad; at_is = refused.at_is; unchanged = refl }))

pub head_read : (old mid here new : Place) (tag number count : ℕ) → tag ≢ 0 → IsRead (tag_form 2) old tag mid → IsRead compact_u32 mid number here
    → IsRead (length_form MOST_CALLS) here count new → IsHead old number count new
head_read old mid here new tag number count some tagged numbered counted =
    let is_some : tag ≡ 1 = omega (arith, tagged.in_range, some) in
    (mid, here, subst (λ (t : ℕ). IsRead (tag_form 2) old t mid) is_some tagged, numbered, counted)

goes_head : (old new : Place) (number count : ℕ) → IsHead old number count new → Goes old new
goes_head old new number count head =
    goes_on old head.0 new (goes_by (tag_form 2) old head.0 1 head.2)
    (goes_on head.0 head.1 new (goes_by compact_u32 head.0 head.1 number head.3) (goes_by (length_form MOST_CALLS) head.1 new count head.4))

-- the None has one byte
pub opened_none : (old new : Place) → IsRead next_form old None new → Opens old (Ok None)
opened_none old new read =
    let is = is_behind old new (goes_by next_form old new None read) in
    let one : new.at - old.at ≡ 1 = omega (arith, read.at_is) in (
      subst (λ (p : Place). IsRead next_form old None p) (sym is.place_is ∙ ap (λ (n : ℕ). behind n old) one) read,
      subst (λ (n : ℕ). n ≤ length old.rest) one is.within,
    )

-- ## The calls

pub no_more : {A : Type 0} (item : Form A) (xs ys : List A) (old : Place) → ys ≡ xs → ReadsOn item xs old ys old
no_more item xs ys old same = λ start read. subst (λ (zs : List _). IsRead (items item (length zs)) start zs old) (sym same) read

flat_more : {A : Type 0} (f : A → List ℕ) (xs : List A) (y : A) → flat_map f (xs ++ y ∷ []) ≡ flat_map f xs ++ f y
flat_more f [] y = append-nil (f y)
flat_more f (x ∷ xs) y = ap (λ (s : List ℕ). f x ++ s) (flat_more f xs y) ∙ sym (append_assoc (f x) (flat_map f xs) (f y))

all_more : {A : Type 0} (P : A → Type 0) (xs : List A) (y : A) → AllByRecursion P xs → P y → AllByRecursion P (xs ++ y ∷ [])
all_more P [] y all one = (one, tt)
all_more P (x ∷ xs) y all one = (all.0, all_more P xs y all.1 one)

pub on_same : {A : Type 0} (item : Form A) (xs ys zs : List A) (old new : Place) → zs ≡ ys → ReadsOn item xs old ys new → ReadsOn item xs old zs new
on_same item xs ys zs old new same on = λ start first. subst (λ (all : List _). IsRead (items item (length all)) start all new) (sym same) (on start first)

-- one item more was read
pub on_more : {A : Type 0} (item : Form A) (xs ys zs : List A) (old mid new : Place) (y : A) → ReadsOn item xs old ys mid → IsRead item mid y new → zs ≡ ys ++ y ∷ [] → ReadsOn item xs old zs new
on_more item xs ys zs old mid new y on read same = λ start first.
    let so_far = on start first in
    subst (λ (all : List _). IsRead (items item (length all)) start all new) (sym same) record {
      in_range = (all_more item.in_range ys y so_far.in_range.0 read.in_range, refl);
      whole = so_far.whole ∙ (ap (λ (s : List ℕ). flat_map item.spelling ys ++ s) read.whole
          ∙ (sym (append_assoc (flat_map item.spelling ys) (item.spelling y) new.rest) ∙ ap (λ (s : List ℕ). s ++ new.rest) (sym (flat_more item.spelling ys y))));
      at_is = omega (arith, so_far.at_is, read.at_is, length-append (flat_map item.spelling ys) (item.spelling y), ap length (flat_more item.spelling ys y));
    }

-- where the reader goes on behind the items that were whole
pub goes_further : {A : Type 0} (Head : Place → Place → Type 0) (item : Form A) (count size : ℕ) (xs ys : List A) (old here there : Place)
    → ((counted : Place) → Head old counted → Goes old counted) → HasItems Head item count size xs old → here ≡ behind size old → ReadsOn item xs here ys there
    → IsBehind old there
goes_further Head item count size xs ys old here there goes is place on =
    let read = on is.counted (subst (λ (p : Place). IsRead (items item (length xs)) is.counted xs p) (sym place) is.whole) in
    is_behind old there (goes_on old is.counted there (goes is.counted is.head) (goes_by (items item (length ys)) is.counted there ys read))

-- more of the items were read
pub items_grow : {A : Type 0} (Head : Place → Place → Type 0) (item : Form A) (count size more : ℕ) (xs ys : List A) (old here there : Place)
    → ((counted : Place) → Head old counted → Goes old counted) → HasItems Head item count size xs old → here ≡ behind size old → ReadsOn item xs here ys there
    → more ≡ there.at - old.at → length ys ≤ count → HasItems Head item count more ys old × (there ≡ behind more old)
items_grow Head item count size more xs ys old here there goes is place on size_is few =
    let read = on is.counted (subst (λ (p : Place). IsRead (items item (length xs)) is.counted xs p) (sym place) is.whole) in
    let stands = goes_further Head item count size xs ys old here there goes is place on in
    let there_is : there ≡ behind more old = sym stands.place_is ∙ ap (λ (n : ℕ). behind n old) (sym size_is) in (
      record {
        counted = is.counted;
        head = is.head;
        whole = subst (λ (p : Place). IsRead (items item (length ys)) is.counted ys p) there_is read;
        few = few;
        within = subst (λ (n : ℕ). n ≤ length old.rest) (sym size_is) stands.within;
      },
      there_is,
    )

-- nothing but the head was read
pub no_items : {A : Type 0} (Head : Place → Place → Type 0) (item : Form A) (count size : ℕ) (xs : List A) (old new : Place)
    → ((counted : Place) → Head old counted → Goes old counted) → Head old new → size ≡ new.at - old.at → xs ≡ [] → HasItems Head item count size xs old
no_items Head item count size xs old new goes head size_is none =
    let is = is_behind old new (goes new head) in
    let place : new ≡ behind size old = sym is.place_is ∙ ap (λ (n : ℕ). behind n old) (sym size_is) in
    let here : IsRead (items item 0) new [] new = record { in_range = (tt, refl); whole = refl; at_is = omega arith } in
    record {
      counted = new;
      head = head;
      whole = subst (λ (p : Place). IsRead (items item (length xs)) new xs p) place
          (subst (λ (ys : List _). IsRead (items item (length ys)) new ys new) (sym none) here);
      few = omega (arith, ap length none);
      within = subst (λ (n : ℕ). n ≤ length old.rest) (sym size_is) is.within;
    }

-- where the reader goes on in a block
pub goes_calls : (begun : Begun) (old counted : Place) → IsHead old begun.number begun.count counted → Goes old counted
goes_calls begun old counted head = goes_head old counted begun.number begun.count head

-- a block was begun, and none of its calls was read
pub opened : (old new : Place) (begun : Begun) → IsHead old begun.number begun.count new → begun.size ≡ new.at - old.at → begun.calls.items ≡ [] → IsBegun begun old
opened old new begun head size none =
    no_items (λ start end. IsHead start begun.number begun.count end) call_form begun.count begun.size begun.calls.items old new (goes_calls begun old) head size none

-- one part behind another
pub behind_read : {A B : Type 0} (a : Form A) (b : Form B) (old mid new : Place) (x : A) (y : B) → IsRead a old x mid → IsRead b mid y new → IsRead (pair a b) old (x, y) new
behind_read a b old mid new x y first then = record {
  in_range = (first.in_range, then.in_range);
  whole = first.whole ∙ (ap (λ (s : List ℕ). a.spelling x ++ s) then.whole ∙ sym (append_assoc (a.spelling x) (b.spelling y) new.rest));
  at_is = omega (arith, first.at_is, then.at_is, length-append (a.spelling x) (b.spelling y));
}

-- all calls were read
pub whole_block : (begun : Begun) (old : Place) → IsBegun begun old → length begun.calls.items ≡ begun.count → IsWholeBlock begun old
whole_block begun old is all =
    let there = behind begun.size old in
    let head = is.head in
    let counted : IsRead (length_form MOST_CALLS) head.1 (length begun.calls.items) is.counted = subst (λ (n : ℕ). IsRead (length_form MOST_CALLS) head.1 n is.counted) (sym all) head.4 in
    let calls = behind_read (length_form MOST_CALLS) (items call_form (length begun.calls.items)) head.1 is.counted there (length begun.calls.items) begun.calls.items counted is.whole in
    let listed : IsRead calls_form head.1 begun.calls.items there = record { in_range = (counted.in_range, is.whole.in_range.0); whole = calls.whole; at_is = calls.at_is } in
    let block = behind_read compact_u32 calls_form head.0 head.1 there begun.number begun.calls.items head.3 listed in
    let some = behind_read (tag_form 2) (pair compact_u32 calls_form) old head.0 there 1 (begun.number, begun.calls.items) head.2 block in
    (record { in_range = block.in_range; whole = some.whole; at_is = some.at_is }, is.within)

-- a call was refused, or memory ran out
pub cut_block : (begun : Begun) (old there : Place) (fault : ReadFault) → IsBegun begun old → there ≡ behind begun.size old → length begun.calls.items < begun.count
    → Reads call_form there (Err fault) there → Reads next_form old (Err fault) old
cut_block begun old there fault is place fewer refused =
    let head = is.head in
    let here : IsRead (items call_form (length begun.calls.items)) is.counted begun.calls.items there =
    subst (λ (p : Place). IsRead (items call_form (length begun.calls.items)) is.counted begun.calls.items p) (sym place) is.whole in
    optional_err block_form old old head.0 head.0 1 fault refl (λ e. cc) head.2
    (pair_err compact_u32 calls_form head.0 head.1 head.1 begun.number fault head.3
    (list_err call_form MOST_CALLS head.1 head.1 is.counted is.counted begun.count fault refl head.4
    (items_err call_form begun.count (length begun.calls.items) is.counted is.counted there there begun.calls.items fault refl fewer here refused)))

-- what the calls came to is what the block comes to
pub filled : (begun : Begun) (old there : Place) (result : Result (Unit {0}) ReadFault) → IsBegun begun old → there ≡ behind begun.size old
    → MatchResult result (λ _. length begun.calls.items ≡ begun.count) (λ fault. (length begun.calls.items < begun.count) × Reads call_form there (Err fault) there)
    → MatchResult result (λ _. IsWholeBlock begun old) (λ fault. Reads next_form old (Err fault) old)
filled begun old there (Ok done) is place all = whole_block begun old is all
filled begun old there (Err fault) is place cut = cut_block begun old there fault is place cut.0 cut.1

-- ## The bytes of what was begun

-- they stand at the front, and are as many as its size
pub record IsFront (begun : Begun) (old : Place) : Type 0 where
  pub whole : old.rest ≡ begun_bytes begun ++ drop begun.size old.rest
  pub size_is : length (begun_bytes begun) ≡ begun.size

pub is_front : (begun : Begun) (old : Place) → IsBegun begun old → IsFront begun old
is_front begun old is =
    let head = is.head in
    let number = compact_u32.spelling begun.number in
    let count = (length_form MOST_CALLS).spelling begun.count in
    let calls = flat_map call_form.spelling begun.calls.items in
    let end = drop begun.size old.rest in
    let counted : head.1.rest ≡ (count ++ calls) ++ end = head.4.whole ∙ (ap (λ (s : List ℕ). count ++ s) is.whole.whole ∙ sym (append_assoc count calls end)) in
    let numbered : head.0.rest ≡ (number ++ (count ++ calls)) ++ end =
    head.3.whole ∙ (ap (λ (s : List ℕ). number ++ s) counted ∙ sym (append_assoc number (count ++ calls) end)) in
    record {
      whole = head.2.whole ∙ ap (λ (s : List ℕ). 1 ∷ s) numbered;
      size_is = omega (arith, head.2.at_is, head.3.at_is, head.4.at_is, is.whole.at_is, length-append number (count ++ calls), length-append count calls);
    }

-- the bytes behind it
pub behind_begun : (begun : Begun) (at : ℕ) (bytes : List ℕ) → IsBegun begun (record { at = at; rest = begun_bytes begun ++ bytes })
    → behind begun.size (record { at = at; rest = begun_bytes begun ++ bytes }) ≡ record { at = at + begun.size; rest = bytes }
behind_begun begun at bytes is =
    let front = is_front begun (record { at = at; rest = begun_bytes begun ++ bytes }) is in
    λ i. record { at = at + begun.size; rest = drop_at (begun_bytes begun) bytes begun.size front.size_is i }

-- More was begun: of the bytes behind what was begun before, so many belong to it.
pub record IsFurther (begun : Option Begun) (more : Begun) (bytes : List ℕ) : Type 0 where
  pub whole : front_bytes begun ++ bytes ≡ begun_bytes more ++ drop (more.size - begun_size begun) bytes
  pub rest_is : drop more.size (front_bytes begun ++ bytes) ≡ drop (more.size - begun_size begun) bytes
  pub within : more.size - begun_size begun ≤ length bytes

pub front_size : (begun : Option Begun) (at : ℕ) (bytes : List ℕ)
    → IfSome begun (λ some. IsBegun some (record { at = at; rest = begun_bytes some ++ bytes }))
    → length (front_bytes begun) ≡ begun_size begun
front_size None at bytes is = refl
front_size (Some begun) at bytes is = (is_front begun (record { at = at; rest = begun_bytes begun ++ bytes }) is).size_is

pub is_further : (begun : Option Begun) (more : Begun) (at : ℕ) (bytes : List ℕ) → IfSome begun (λ some. IsBegun some (record { at = at; rest = begun_bytes some ++ bytes }))
    → IsBegun more (record { at = at; rest = front_bytes begun ++ bytes }) → begun_size begun ≤ more.size → IsFurther begun more bytes
is_further begun more at bytes is more_is grows =
    let old : Place = record { at = at; rest = front_bytes begun ++ bytes } in
    let front = is_front more old more_is in
    let before = front_size begun at bytes is in
    let more_by : more.size ≡ length (front_bytes begun) + (more.size - begun_size begun) = omega (arith, before, grows) in
    let rest_is : drop more.size (front_bytes begun ++ bytes) ≡ drop (more.size - begun_size begun) bytes =
    ap (λ (n : ℕ). drop n (front_bytes begun ++ bytes)) more_by ∙ drop-append-add (front_bytes begun) bytes (more.size - begun_size begun) in
    record {
      whole = front.whole ∙ ap (λ (s : List ℕ). begun_bytes more ++ s) rest_is;
      rest_is = rest_is;
      within = omega (arith, more_is.within, length-append (front_bytes begun) bytes, before);
    }

-- a whole block was read
pub whole_taken : (begun : Option Begun) (more : Begun) (at : ℕ) (bytes : List ℕ) → IsFurther begun more bytes → IsWholeBlock more (record { at = at; rest = front_bytes begun ++ bytes })
    → Steps begun at bytes (Whole more (more.size - begun_size begun))
whole_taken begun more at bytes further whole =
    let taken = more.size - begun_size begun in (
      subst (λ (rest : List ℕ). IsRead next_form (record { at = at; rest = front_bytes begun ++ bytes })
          (Some record { number = more.number; calls = more.calls.items })
          (record { at = at + more.size; rest = rest }))
          further.rest_is whole.0,
      further.within,
      omega (arith, ap length further.rest_is, length-drop more.size (front_bytes begun ++ bytes), whole.1),
    )

-- the block was cut or refused
pub kept : (begun : Option Begun) (more : Begun) (at : ℕ) (bytes : List ℕ) → IsFurther begun more bytes → IsBegun more (record { at = at; rest = front_bytes begun ++ bytes })
    → IsBytes (front_bytes begun) → IsBytes bytes → Keeps begun (Some more) at (more.size - begun_size begun) bytes
kept begun more at bytes further is front rest = record {
  whole = further.whole;
  within = further.within;
  are_bytes = IsBytes-front (begun_bytes more) (drop (more.size - begun_size begun) bytes) (subst (λ (s : List ℕ). IsBytes s) further.whole (IsBytes-append (front_bytes begun) bytes front rest));
  is = subst (λ (s : List ℕ). IsBegun more (record { at = at; rest = s })) further.whole is;
}

-- by these `begun` goes on
pub ruleset heads = (none_head, tag_fault, number_fault, count_fault)
