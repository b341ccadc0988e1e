-- Words are read as the options that they spell.
use Rattle.std.proofs.Common.{◌≡◌, ◌∙◌, ◌⊎◌, inl, inr, ◌+◌, ℕ, Bool, true, false, suc, refl, sym, ap, ap₂, subst, arith, List, []}
use Rattle.std.proofs.Common.{◌∷◌, ◌++◌, take, drop, Option, Some, None, codes, All, true≢false, append-nil, append_assoc, eqb-true}
use Rattle.std.specs.List.{list_any, before_first, after_first, position_or_len}
use Rattle.std.specs.Prelude.{◌==◌, is_some, unwrap_or}
use Rattle.std.specs.Str.{bytes_eq}
use Rattle.std.proofs.lemmas.List.Elements.{All-head, All-tail, All-cons, All-nil}
use Rattle.std.proofs.lemmas.Bool.{or_parts}
use Rattle.npos_words.specs.Options.{Text, Setting, begins_with_hyphen, flag_of, flag_text, is_among, is_equals_sign, is_given}
use Rattle.npos_words.specs.Options.{name_and_value, options_from, with_flag, with_next_word, with_setting, with_value}
use Rattle.npos_words.specs.Laws.{AreApart, IsName, NamesAreNames, ReadsWhatIsSpelled, Spell, flag_word, joined_word}
use Rattle.npos_words.proofs.OptionLemmas.{is_blank, same_text, equal_self}

-- ## Names and values

first_here : (x : ℕ) (xs : Text) → is_equals_sign x ≡ false → position_or_len is_equals_sign (x ∷ xs) ≡ suc (position_or_len is_equals_sign xs)
first_here x xs other = let step : 1 + position_or_len is_equals_sign xs ≡ suc (position_or_len is_equals_sign xs) = omega arith in rw other step

before_more : (x : ℕ) (xs : Text) → is_equals_sign x ≡ false → before_first is_equals_sign (x ∷ xs) ≡ x ∷ before_first is_equals_sign xs
before_more x xs other = ap (λ n. take n (x ∷ xs)) (first_here x xs other)

after_more : (x : ℕ) (xs : Text) → is_equals_sign x ≡ false → after_first is_equals_sign (x ∷ xs) ≡ after_first is_equals_sign xs
after_more x xs other =
    let n = position_or_len is_equals_sign xs in
    let step : position_or_len is_equals_sign (x ∷ xs) + 1 ≡ suc (n + 1) = omega (arith, first_here x xs other) in
    ap (λ n. drop n (x ∷ xs)) step

no_sign : (text : Text) → list_any is_equals_sign text ≡ false → before_first is_equals_sign text ≡ text
no_sign [] none = refl
no_sign (x ∷ xs) none =
    let parts = or_parts (is_equals_sign x) (list_any is_equals_sign xs) none in
    before_more x xs parts.0 ∙ ap (λ rest. x ∷ rest) (no_sign xs parts.1)

-- the text is cut at its first sign
cut_at : (text : Text) → list_any is_equals_sign text ≡ true → text ≡ before_first is_equals_sign text ++ (61 ∷ after_first is_equals_sign text)
cut_at [] some = absurd (true≢false (sym some))
cut_at (x ∷ xs) some = go (is_equals_sign x) refl (cut_at xs)
  where
    go : (b : Bool) → is_equals_sign x ≡ b → (list_any is_equals_sign xs ≡ true → xs ≡ before_first is_equals_sign xs ++ (61 ∷ after_first is_equals_sign xs))
        → x ∷ xs ≡ before_first is_equals_sign (x ∷ xs) ++ (61 ∷ after_first is_equals_sign (x ∷ xs))
    go true same later = rw same (ap (λ y. y ∷ xs) (eqb-true x 61 same))
    go false other later =
        rw (before_more x xs other, after_more x xs other) (ap (λ rest. x ∷ rest) (later (rw other at some)))

-- a name with no sign stands before the first
named_cut : (name value : Text) → list_any is_equals_sign name ≡ false
    → (before_first is_equals_sign (name ++ 61 ∷ value) ≡ name) × (after_first is_equals_sign (name ++ 61 ∷ value) ≡ value)
    × (list_any is_equals_sign (name ++ 61 ∷ value) ≡ true)
named_cut [] value none = (refl, refl, refl)
named_cut (x ∷ xs) value none =
    let parts = or_parts (is_equals_sign x) (list_any is_equals_sign xs) none in
    let later = named_cut xs value parts.1 in
    (before_more x (xs ++ 61 ∷ value) parts.0 ∙ ap (λ rest. x ∷ rest) later.0, after_more x (xs ++ 61 ∷ value) parts.0 ∙ later.1, rw parts.0 later.2)

-- ## Flags

-- a word that is read as a flag is spelled by it
data Flag (word : Text) (name : Text) (v : Option Text) : Type 0 where
  attached : (value : Text) → v ≡ Some value → word ≡ joined_word (record { name = name; value = value }) → Flag word name v
  bare : v ≡ None → word ≡ codes "--" ++ name → Flag word name v

none_some : {X : Type 0} (x : X) → None ≡ Some x → ⊥
none_some x is = true≢false (sym (ap is_some is))

text_spells : (text name : Text) (v : Option Text) → flag_text text ≡ Some (name, v) → Flag (45 ∷ 45 ∷ text) name v
text_spells [] name v is = absurd (none_some (name, v) is)
text_spells (x ∷ xs) name v is = go (list_any is_equals_sign (x ∷ xs)) refl
  where
    pair : name_and_value (x ∷ xs) ≡ (name, v)
    pair = ap (λ (o : Option (Text × Option Text)). unwrap_or o (name, v)) is

    names : before_first is_equals_sign (x ∷ xs) ≡ name
    names = ap (λ (p : Text × Option Text). p.0) pair

    values : (name_and_value (x ∷ xs)).1 ≡ v
    values = ap (λ (p : Text × Option Text). p.1) pair

    go : (b : Bool) → list_any is_equals_sign (x ∷ xs) ≡ b → Flag (45 ∷ 45 ∷ x ∷ xs) name v
    go true some =
        attached (after_first is_equals_sign (x ∷ xs)) (sym (rw some at values))
        (ap (λ (t : Text). 45 ∷ 45 ∷ t) (cut_at (x ∷ xs) some ∙ ap (λ (n : Text). n ++ (61 ∷ after_first is_equals_sign (x ∷ xs))) names))
    go false none = bare (sym (rw none at values)) (ap (λ (t : Text). 45 ∷ 45 ∷ t) (sym (no_sign (x ∷ xs) none) ∙ names))

second_spells : (rest name : Text) (v : Option Text) → flag_of (45 ∷ rest) ≡ Some (name, v) → Flag (45 ∷ rest) name v
second_spells [] name v is = absurd (none_some (name, v) is)
second_spells (x ∷ rest) name v is = go (x == 45) refl
  where
    go : (b : Bool) → (x == 45) ≡ b → Flag (45 ∷ x ∷ rest) name v
    go true same =
        let here : x ≡ 45 = eqb-true x 45 same in
        subst (λ y. Flag (45 ∷ y ∷ rest) name v) (sym here) (text_spells rest name v (subst (λ y. flag_of (45 ∷ y ∷ rest) ≡ Some (name, v)) here is))
    go false other = absurd (none_some (name, v) (rw other at is))

word_spells : (word name : Text) (v : Option Text) → flag_of word ≡ Some (name, v) → Flag word name v
word_spells [] name v is = absurd (none_some (name, v) is)
word_spells (x ∷ rest) name v is = go (x == 45) refl
  where
    go : (b : Bool) → (x == 45) ≡ b → Flag (x ∷ rest) name v
    go true same =
        let here : x ≡ 45 = eqb-true x 45 same in
        subst (λ y. Flag (y ∷ rest) name v) (sym here) (second_spells rest name v (subst (λ y. flag_of (y ∷ rest) ≡ Some (name, v)) here is))
    go false other = absurd (none_some (name, v) (rw other at is))

-- and a word that is spelled so is read so
joined_text : (name value : Text) → IsName name → flag_text (name ++ (61 ∷ value)) ≡ Some (name, Some value)
joined_text [] value is = absurd (is.0 refl)
joined_text (x ∷ xs) value is =
    let cut = named_cut (x ∷ xs) value is.1 in
    ap₂ (λ (n : Text) (v : Option Text). Some (n, v)) cut.0 (rw cut.2 (ap Some cut.1))

flag_only : (name : Text) → IsName name → flag_text name ≡ Some (name, None)
flag_only [] is = absurd (is.0 refl)
flag_only (x ∷ xs) is =
    let none = is.1 in
    ap₂ (λ (n : Text) (v : Option Text). Some (n, v)) (no_sign (x ∷ xs) none) (rw none refl)

-- ## Names given

not_same : (a b : Text) → bytes_eq a b ≡ false → bytes_eq b a ≡ false
not_same a b other = go (bytes_eq b a) refl
  where
    go : (c : Bool) → bytes_eq b a ≡ c → c ≡ false
    go false is = refl
    go true is = absurd (true≢false (sym (equal_self a) ∙ subst (λ (t : Text). bytes_eq a t ≡ false) (same_text b a is) other))

given_more : (given : List Setting) (setting : Setting) (name : Text) → is_given (given ++ setting ∷ []) name ≡ false
    → (is_given given name ≡ false) × (bytes_eq setting.name name ≡ false)
given_more [] setting name none = (refl, (or_parts (bytes_eq setting.name name) false none).0)
given_more (first ∷ given) setting name none =
    let parts = or_parts (bytes_eq first.name name) (is_given (given ++ setting ∷ []) name) none in
    let later = given_more given setting name parts.1 in
    (rw parts.0 later.0, later.1)

more_given : (given : List Setting) (setting : Setting) (name : Text) → is_given given name ≡ false → bytes_eq setting.name name ≡ false
    → is_given (given ++ setting ∷ []) name ≡ false
more_given [] setting name none other = rw other refl
more_given (first ∷ given) setting name none other =
    let parts = or_parts (bytes_eq first.name name) (is_given given name) none in
    rw parts.0 (more_given given setting name parts.1 other)

abbrev AreNew : List Setting → List Setting → Type 0
AreNew given more = All (λ setting. is_given given setting.name ≡ false) more

abbrev AreKnown : List Text → List Setting → Type 0
AreKnown names more = All (λ setting. is_among names setting.name ≡ true) more

-- those that are new behind one more are new, and other than that one
new_before : (given more : List Setting) (setting : Setting) → AreNew (given ++ setting ∷ []) more → AreNew given more × (is_given more setting.name ≡ false)
new_before given [] setting new = (All-nil (λ other. is_given given other.name ≡ false), refl)
new_before given (first ∷ more) setting new =
    let here = given_more given setting first.name (All-head (λ other. is_given (given ++ setting ∷ []) other.name ≡ false) first more new) in
    let later = new_before given more setting (All-tail (λ other. is_given (given ++ setting ∷ []) other.name ≡ false) first more new) in
    let other = not_same setting.name first.name here.1 in
    (All-cons (λ other. is_given given other.name ≡ false) first more here.0 later.0, rw other later.1)

new_behind : (given more : List Setting) (setting : Setting) → AreNew given more → is_given more setting.name ≡ false → AreNew (given ++ setting ∷ []) more
new_behind given [] setting new apart = All-nil (λ other. is_given (given ++ setting ∷ []) other.name ≡ false)
new_behind given (first ∷ more) setting new apart =
    let parts = or_parts (bytes_eq first.name setting.name) (is_given more setting.name) apart in
    All-cons (λ other. is_given (given ++ setting ∷ []) other.name ≡ false) first more
    (more_given given setting first.name (All-head (λ other. is_given given other.name ≡ false) first more new) (not_same first.name setting.name parts.0))
    (new_behind given more setting (All-tail (λ other. is_given given other.name ≡ false) first more new) parts.1)

name_of : (names : List Text) (name : Text) → All IsName names → is_among names name ≡ true → IsName name
name_of [] name are own = absurd (true≢false (sym own))
name_of (first ∷ names) name are own = go (bytes_eq first name) (name_of names name (All-tail IsName first names are)) refl
  where
    go : (b : Bool) → (is_among names name ≡ true → IsName name) → bytes_eq first name ≡ b → IsName name
    go true later same = subst IsName (same_text first name same) (All-head IsName first names are)
    go false later other = later (rw other at own)

-- ## From words to what they spell

record Spelled (names words : List (List ℕ)) (given all : List Setting) : Type 0 where
  more : List Setting
  is : all ≡ given ++ more
  spell : Spell words more
  known : AreKnown names more
  new : AreNew given more
  apart : AreApart more

setting_inv : (names : List Text) (given : List Setting) (setting : Setting) (rest : List Setting → Option (List Setting)) (all : List Setting)
    → with_setting names given setting rest ≡ Some all
    → (is_among names setting.name ≡ true) × (is_given given setting.name ≡ false) × (rest (given ++ setting ∷ []) ≡ Some all)
setting_inv names given setting rest all is = go (is_among names setting.name) (is_given given setting.name) refl refl
  where
    go : (a b : Bool) → is_among names setting.name ≡ a → is_given given setting.name ≡ b
        → (is_among names setting.name ≡ true) × (is_given given setting.name ≡ false) × (rest (given ++ setting ∷ []) ≡ Some all)
    go false b own new = absurd (none_some all (rw own at is))
    go true true own new = absurd (none_some all (rw (own, new) at is))
    go true false own new = (own, new, rw (own, new) at is)

-- one more setting in front
one_more : (names words rest : List Text) (given all : List Setting) (setting : Setting) → is_among names setting.name ≡ true → is_given given setting.name ≡ false
    → ((words ≡ joined_word setting ∷ rest) ⊎ ((words ≡ flag_word setting ∷ setting.value ∷ rest) × (begins_with_hyphen setting.value ≡ false)))
    → Spelled names rest (given ++ setting ∷ []) all → Spelled names words given all
one_more names words rest given all setting own new spelled later =
    let before = new_before given later.more setting later.new in
    record {
      more = setting ∷ later.more;
      is = later.is ∙ append_assoc given (setting ∷ []) later.more;
      spell = (rest, later.spell, spelled);
      known = All-cons (λ other. is_among names other.name ≡ true) setting later.more own later.known;
      new = All-cons (λ other. is_given given other.name ≡ false) setting later.more new before.0;
      apart = (before.1, later.apart);
    }

flag_spells : (names : List Text) (word : Text) (rest : List Text) (given all : List Setting) (apart : Text → Option (List Setting))
    → ((more : List Setting) → options_from names rest more ≡ Some all → Spelled names rest more all)
    → ((name : Text) → flag_of word ≡ Some (name, None) → apart name ≡ Some all → Spelled names (word ∷ rest) given all)
    → with_flag names given (flag_of word) (options_from names rest) apart ≡ Some all → Spelled names (word ∷ rest) given all
flag_spells names word rest given all apart later apart_spells is = by (flag_of word) refl is
  where
    joined : (name value : Text) → flag_of word ≡ Some (name, Some value) → with_setting names given (record { name = name; value = value }) (options_from names rest) ≡ Some all
        → Spelled names (word ∷ rest) given all
    joined name value flag is =
        let setting : Setting = record { name = name; value = value } in
        let parts = setting_inv names given setting (options_from names rest) all is in
        one_more names (word ∷ rest) rest given all setting parts.0 parts.1
        (inl (ap (λ (w : Text). w ∷ rest) (elim (word_spells word name (Some value) flag) [
          | attached own same spelled ↦ spelled ∙ ap (λ (t : Text). joined_word (record { name = name; value = t })) (sym (ap (λ (o : Option Text). unwrap_or o own) same))
          | bare none spelled ↦ absurd (none_some value (sym none))
        ])))
        (later (given ++ setting ∷ []) parts.2)

    by_value : (name : Text) (v : Option Text) → flag_of word ≡ Some (name, v) → with_value names given name v (options_from names rest) (apart name) ≡ Some all
        → Spelled names (word ∷ rest) given all
    by_value name (Some value) flag is = joined name value flag is
    by_value name None flag is = apart_spells name flag is

    by : (o : Option (Text × Option Text)) → flag_of word ≡ o → with_flag names given o (options_from names rest) apart ≡ Some all → Spelled names (word ∷ rest) given all
    by None flag is = absurd (none_some all is)
    by (Some p) flag is = by_value p.0 p.1 flag is

next_spells : (names : List Text) (word next : Text) (rest : List Text) (given all : List Setting)
    → ((more : List Setting) → options_from names rest more ≡ Some all → Spelled names rest more all)
    → (name : Text) → flag_of word ≡ Some (name, None) → with_next_word names given name next (options_from names rest) ≡ Some all → Spelled names (word ∷ next ∷ rest) given all
next_spells names word next rest given all later name flag is = go (begins_with_hyphen next) refl
  where
    go : (b : Bool) → begins_with_hyphen next ≡ b → Spelled names (word ∷ next ∷ rest) given all
    go true begins = absurd (none_some all (rw begins at is))
    go false begins =
        let setting : Setting = record { name = name; value = next } in
        let parts = setting_inv names given setting (options_from names rest) all (rw begins at is) in
        one_more names (word ∷ next ∷ rest) rest given all setting parts.0 parts.1
        (inr (
          ap (λ (w : Text). w ∷ next ∷ rest) (elim (word_spells word name None flag) [
            | attached own same spelled ↦ absurd (none_some own same)
            | bare none spelled ↦ spelled
          ]),
          begins,
        ))
        (later (given ++ setting ∷ []) parts.2)

read_spells : (names words : List Text) (given all : List Setting) → options_from names words given ≡ Some all → Spelled names words given all
read_spells names [] given all is = record {
  more = [];
  is = sym (ap (λ (o : Option (List Setting)). unwrap_or o all) is) ∙ sym (append-nil given);
  spell = refl;
  known = All-nil (λ other. is_among names other.name ≡ true);
  new = All-nil (λ other. is_given given other.name ≡ false);
  apart = tt;
}
read_spells names (word ∷ []) given all is =
    flag_spells names word [] given all (λ name. None) (λ more. read_spells names [] more all) (λ name flag none. absurd (none_some all none)) is
read_spells names (word ∷ next ∷ rest) given all is =
    flag_spells names word (next ∷ rest) given all (λ name. with_next_word names given name next (options_from names rest))
    (λ more. read_spells names (next ∷ rest) more all) (next_spells names word next rest given all (λ more. read_spells names rest more all)) is

-- ## From what is spelled to its reading

with_joined : (names : List Text) (word name value : Text) (given : List Setting) → flag_of word ≡ Some (name, Some value) → (rest : List Text)
    → options_from names (word ∷ rest) given ≡ with_setting names given (record { name = name; value = value }) (options_from names rest)
with_joined names word name value given is [] = ap (λ (o : Option (Text × Option Text)). with_flag names given o (λ all. Some all) (λ name. None)) is
with_joined names word name value given is (next ∷ rest) =
    ap (λ (o : Option (Text × Option Text)). with_flag names given o (options_from names (next ∷ rest)) (λ name. with_next_word names given name next (options_from names rest))) is

taken : (names : List Text) (given : List Setting) (setting : Setting) (rest : List Setting → Option (List Setting)) → is_among names setting.name ≡ true
    → is_given given setting.name ≡ false → with_setting names given setting rest ≡ rest (given ++ setting ∷ [])
taken names given setting rest own new = rw (own, new) refl

spell_reads : (names : List Text) → All IsName names → (more : List Setting) (words : List Text) (given : List Setting) → Spell words more → AreKnown names more
    → AreNew given more → AreApart more → options_from names words given ≡ Some (given ++ more)
spell_reads names are [] words given spell known new apart =
    ap (λ (ws : List Text). options_from names ws given) spell ∙ ap Some (sym (append-nil given))
spell_reads names are (setting ∷ more) words given (rest, later, spelled) known new apart =
    let own = All-head (λ other. is_among names other.name ≡ true) setting more known in
    let fresh = All-head (λ other. is_given given other.name ≡ false) setting more new in
    let is_name = name_of names setting.name are own in
    let reads : options_from names rest (given ++ setting ∷ []) ≡ Some (given ++ setting ∷ more) =
    spell_reads names are more rest (given ++ setting ∷ []) later (All-tail (λ other. is_among names other.name ≡ true) setting more known)
    (new_behind given more setting (All-tail (λ other. is_given given other.name ≡ false) setting more new) apart.0) apart.1
    ∙ ap Some (append_assoc given (setting ∷ []) more) in
    elim spelled [
      | inl is ↦
          ap (λ (ws : List Text). options_from names ws given) is
          ∙ with_joined names (joined_word setting) setting.name setting.value given (joined_text setting.name setting.value is_name) rest
          ∙ taken names given setting (options_from names rest) own fresh ∙ reads
      | inr is ↦
          let no_hyphen = is.1 in
          ap (λ (ws : List Text). options_from names ws given) is.0
          ∙ ap (λ (o : Option (Text × Option Text)). with_flag names given o (options_from names (setting.value ∷ rest))
          (λ name. with_next_word names given name setting.value (options_from names rest))) (flag_only setting.name is_name)
          ∙ rw no_hyphen (taken names given setting (options_from names rest) own fresh ∙ reads)
    ]

all_new : (more : List Setting) → AreNew [] more
all_new [] = All-nil (λ other. is_given [] other.name ≡ false)
all_new (setting ∷ more) = All-cons (λ other. is_given [] other.name ≡ false) setting more refl (all_new more)

pub reads_what_is_spelled : ReadsWhatIsSpelled
reads_what_is_spelled names words given are = (
  λ is.
      let found = read_spells names words [] given is in
      subst (λ (all : List Setting). Spell words all × AreKnown names all × AreApart all) (sym found.is) (found.spell, found.known, found.apart),
  λ h. spell_reads names are given words [] h.0 h.1 (all_new given) h.2,
)

named : (x : ℕ) (xs : Text) → list_any is_equals_sign (x ∷ xs) ≡ false → IsName (x ∷ xs)
named x xs none = (λ e. true≢false (sym (ap is_blank e)), none)

pub names_are_names : NamesAreNames
names_are_names = (
  All-cons IsName (codes "miner") (codes "rounds" ∷ []) (named _ _ refl) (All-cons IsName (codes "rounds") [] (named _ _ refl) (All-nil IsName)),
  All-cons IsName (codes "seed") (codes "voters" ∷ codes "seats" ∷ []) (named _ _ refl)
      (All-cons IsName (codes "voters") (codes "seats" ∷ []) (named _ _ refl) (All-cons IsName (codes "seats") [] (named _ _ refl) (All-nil IsName))),
)
