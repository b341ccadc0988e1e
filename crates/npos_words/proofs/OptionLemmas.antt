-- clap, on a command with options alone, finds the options of the definition.
use Rattle.std.proofs.Common.{◌≡◌, ◌∙◌, ◌&&◌, ℕ, Bool, cond, true, false, refl, sym, ap, ap₂, subst, subst₂, List, [], ◌∷◌, ◌++◌, map, Option, Some, None, true≢false, append-nil, eqb-true}
use Rattle.std.specs.List.{All, fold, list_any}
use Rattle.std.specs.Option.{is_some}
use Rattle.std.specs.Prelude.{◌==◌, slice_get, not, IsUtf8, codes}
use Rattle.std.specs.Char.{encode_utf8}
use Rattle.std.specs.Str.{bytes_eq, chars, encode_utf8_all}
use Rattle.std.proofs.lemmas.Slice.Eq.{bytes_eq-Decides}
use Rattle.std.proofs.lemmas.List.{map-append}
use Rattle.std.proofs.lemmas.Str.{encodes-chars, IsUtf8-past_char}
use Rattle.std.proofs.lemmas.List.Elements.{All-head, All-tail}
use Rattle.std.proofs.lemmas.Bool.{or_parts}
use Rattle.clap.proofs.WalkLemmas.{list_any-map}
use Rattle.clap.specs.Lexer.{long_of, short_of}
use Rattle.clap.specs.Walk.{Held, Row, Rule, Text, Waiting, Walk, idle, option, after_step, at_row, arg_by_id}
use Rattle.clap.specs.Walk.{arg_by_index, arg_by_long, arg_by_short, finished, has_row, long_or_other, more_values}
use Rattle.clap.specs.Walk.{reading_by, settled, subcommand_met, used, walk_from, walked, with_default, with_values}
use Rattle.clap.specs.Simple.{Shape, built, filled}
use Rattle.clap.specs.Kinds.{Kinds, or_else}
use Rattle.clap.specs.Takes.{is_given as is_given_row}
use Rattle.clap.specs.Faults.{bundle_fault, check_fault, defaults_fault, flag_word_fault, flags_fault, long_fault, settle_fault, step_fault, turn_fault, use_fault, walk_fault}
use Rattle.clap.specs.declared.error.kind.ErrorKind.{ErrorKind}
use Rattle.clap.specs.declared.parser.matches.ValueSource.TheVariants.{CommandLine}
use Rattle.npos_words.specs.Found.{app_with, option_rule}
use Rattle.npos_words.specs.Options.{Setting, begins_with_hyphen, is_among, is_given, options_from, with_flag, with_next_word, with_setting}
use Rattle.npos_words.specs.Words.{is_bare}

-- ## Kinds

abbrev pub Fails : Kinds → Type 0
Fails kinds = kinds ≡ [] → ⊥

abbrev is_nil : Kinds → Bool
is_nil [] = true
is_nil (k ∷ ks) = false

one_fails : (k : ErrorKind) (ks : Kinds) → Fails (k ∷ ks)
one_fails k ks e = true≢false (sym (ap is_nil e))

first_fails : (a b : Kinds) → Fails a → Fails (or_else a b)
first_fails [] b f = absurd (f refl)
first_fails (k ∷ ks) b f = one_fails k ks

second_fails : (a b : Kinds) → Fails b → Fails (or_else a b)
second_fails [] b f = f
second_fails (k ∷ ks) b f = one_fails k ks

or_both : (a b : Kinds) → a ≡ [] → b ≡ [] → or_else a b ≡ []
or_both a b e f = ap₂ or_else e f

-- ## Texts

pub same_text : (a b : Text) → bytes_eq a b ≡ true → a ≡ b
same_text a b e = (bytes_eq-Decides a b).0 e

pub equal_self : (a : Text) → bytes_eq a a ≡ true
equal_self a = (bytes_eq-Decides a a).1 refl

not_dashes : (word : Text) → is_bare word ≡ false → bytes_eq word (45 ∷ 45 ∷ []) ≡ false
not_dashes word e = (or_parts (bytes_eq word (codes "-")) _ e).1

-- what clap sees in a word
data Look (word : Text) : Type 0 where
  long : (flag : Text × Option Text) → long_of word ≡ Some flag → begins_with_hyphen word ≡ true → Look word
  short : (x : ℕ) (xs : Text) → long_of word ≡ None → short_of word ≡ Some (x ∷ xs) → IsUtf8 (x ∷ xs) → begins_with_hyphen word ≡ true → Look word
  plain : long_of word ≡ None → short_of word ≡ None → begins_with_hyphen word ≡ false → Look word

look_third : (rest : Text) → is_bare (45 ∷ 45 ∷ rest) ≡ false → Look (45 ∷ 45 ∷ rest)
look_third [] e = absurd (true≢false e)
look_third (x ∷ rest) e = long _ refl refl

look_second : (rest : Text) → IsUtf8 (45 ∷ rest) → is_bare (45 ∷ rest) ≡ false → Look (45 ∷ rest)
unfolding encode_utf8
look_second [] u e = absurd (true≢false e)
look_second (x ∷ rest) u e = go (x == 45) refl
  where
    go : (b : Bool) → (x == 45) ≡ b → Look (45 ∷ x ∷ rest)
    go true same =
        let is : x ≡ 45 = eqb-true x 45 same in
        subst (λ y. Look (45 ∷ y ∷ rest)) (sym is) (look_third rest (subst (λ y. is_bare (45 ∷ y ∷ rest) ≡ false) is e))
    go false other = short x rest (rw other refl) (rw other refl) (IsUtf8-past_char (45 ∷ x ∷ rest) (x ∷ rest) 45 u refl) refl

look : (word : Text) → IsUtf8 word → is_bare word ≡ false → Look word
look [] u e = plain refl refl refl
look (x ∷ rest) u e = go (x == 45) refl
  where
    go : (b : Bool) → (x == 45) ≡ b → Look (x ∷ rest)
    go true same =
        let is : x ≡ 45 = eqb-true x 45 same in
        subst (λ y. Look (y ∷ rest)) (sym is)
        (look_second rest (subst (λ y. IsUtf8 (y ∷ rest)) is u) (subst (λ y. is_bare (y ∷ rest) ≡ false) is e))
    go false other = plain (rw other refl) (rw other refl) other

-- ## Rules

-- what building makes of an option
abbrev pub rule : Text → Rule
rule name = filled (option_rule name)

abbrev pub known : List Text → List Rule
known names = map rule names

by_long : (names : List Text) (name : Text) → is_among names name ≡ true → arg_by_long (known names) name ≡ Some (rule name)
by_long [] name e = absurd (true≢false (sym e))
by_long (own ∷ names) name e = go (bytes_eq own name) (by_long names name) refl
  where
    go : (b : Bool) → (is_among names name ≡ true → arg_by_long (known names) name ≡ Some (rule name)) → bytes_eq own name ≡ b
        → arg_by_long (known (own ∷ names)) name ≡ Some (rule name)
    go true later same = rw same (ap (λ (t : Text). Some (rule t)) (same_text own name same))
    go false later other = rw other (later (rw other at e))

no_long : (names : List Text) (name : Text) → is_among names name ≡ false → arg_by_long (known names) name ≡ None
no_long [] name e = refl
no_long (own ∷ names) name e = go (bytes_eq own name) (no_long names name) refl
  where
    go : (b : Bool) → (is_among names name ≡ false → arg_by_long (known names) name ≡ None) → bytes_eq own name ≡ b
        → arg_by_long (known (own ∷ names)) name ≡ None
    go true later same = absurd (true≢false (rw same at e))
    go false later other = rw other (later (rw other at e))

by_id : (names : List Text) (name : Text) → is_among names name ≡ true → arg_by_id (known names) name ≡ Some (rule name)
by_id [] name e = absurd (true≢false (sym e))
by_id (own ∷ names) name e = go (bytes_eq own name) (by_id names name) refl
  where
    go : (b : Bool) → (is_among names name ≡ true → arg_by_id (known names) name ≡ Some (rule name)) → bytes_eq own name ≡ b
        → arg_by_id (known (own ∷ names)) name ≡ Some (rule name)
    go true later same = rw same (ap (λ (t : Text). Some (rule t)) (same_text own name same))
    go false later other = rw other (later (rw other at e))

no_short : (names : List Text) (c : ℕ) → arg_by_short (known names) c ≡ None
no_short [] c = refl
no_short (own ∷ names) c = no_short names c

no_index : (names : List Text) (i : ℕ) → arg_by_index (known names) i ≡ None
no_index [] i = refl
no_index (own ∷ names) i = no_index names i

-- ## Rows

abbrev row_of : Setting → Row
row_of setting = record {
  id = setting.name;
  values = setting.value ∷ [];
  count = None;
  source = Some CommandLine;
  reading = reading_by (rule setting.name);
}

abbrev pub rows : List Setting → List Row
rows given = map row_of given

row_given : (given : List Setting) (name : Text) → has_row name (rows given) ≡ is_given given name
row_given given name = sym (list_any-map (λ (r : Row). bytes_eq r.id name) row_of given)

at_none : (change : Row → List Row) (missing : List Row) (given : List Setting) (name : Text) → is_given given name ≡ false
    → at_row name change missing (rows given) ≡ rows given ++ missing
at_none change missing [] name e = refl
at_none change missing (setting ∷ given) name e = go (bytes_eq setting.name name) (at_none change missing given name) refl
  where
    go : (b : Bool) → (is_given given name ≡ false → at_row name change missing (rows given) ≡ rows given ++ missing) → bytes_eq setting.name name ≡ b
        → at_row name change missing (rows (setting ∷ given)) ≡ rows (setting ∷ given) ++ missing
    go true later same = absurd (true≢false (rw same at e))
    go false later other = rw other (ap (λ rs. row_of setting ∷ rs) (later (rw other at e)))

one_used : (given : List Setting) (setting : Setting) → is_given given setting.name ≡ false
    → used (rule setting.name) (setting.value ∷ []) (rows given) ≡ rows (given ++ setting ∷ [])
one_used given setting e =
    ap (with_values setting.name (reading_by (rule setting.name)) CommandLine (setting.value ∷ []))
    (at_none (λ _. []) [] given setting.name e ∙ append-nil (rows given))
    ∙ at_none (more_values CommandLine (setting.value ∷ [])) (row_of setting ∷ []) given setting.name e ∙ sym (map-append row_of given (setting ∷ []))

use_clear : (given : List Setting) (setting : Setting) → is_given given setting.name ≡ false
    → use_fault false (rule setting.name) (setting.value ∷ []) (rows given) ≡ []
use_clear given setting e = let none = row_given given setting.name ∙ e in rw none refl

use_repeats : (given : List Setting) (setting : Setting) → is_given given setting.name ≡ true
    → Fails (use_fault false (rule setting.name) (setting.value ∷ []) (rows given))
use_repeats given setting e = let twice = row_given given setting.name ∙ e in rw twice (one_fails _ _)

-- ## What is held

abbrev at_rest : List Setting → Held
at_rest given = record { rows = rows given; pending = None; skip = 0 }

-- the value of this option is still to come
abbrev wants : List Setting → Text → Held
wants given name = record { rows = rows given; pending = Some (name, []); skip = 0 }

-- the option has its value, and is used at the next flag
abbrev has_value : List Setting → Setting → Held
has_value given setting = record { rows = rows given; pending = Some (setting.name, setting.value ∷ []); skip = 0 }

abbrev at_rows : List Row → Held
at_rows rs = record { rows = rs; pending = None; skip = 0 }

pub record Rests (names : List Text) (given : List Setting) (h : Held) : Type 0 where
  pub rests : settled (known names) h ≡ at_rest given
  pub clear : settle_fault (known names) false h ≡ []

pub rest_rests : (names : List Text) (given : List Setting) → Rests names given (at_rest given)
rest_rests names given = record { rests = refl; clear = refl }

value_rests : (names : List Text) (given : List Setting) (setting : Setting) → is_among names setting.name ≡ true → is_given given setting.name ≡ false
    → Rests names (given ++ setting ∷ []) (has_value given setting)
value_rests names given setting own new =
    let found = by_id names setting.name own in
    record {
      rests = rw found (ap at_rows (one_used given setting new));
      clear = rw found (use_clear given setting new);
    }

-- ## Faults at a word

-- a word that is none of the options
unknown_fails : (names : List Text) (name : Text) (v : Option Text) (h : Held) → is_among names name ≡ false
    → Fails (long_fault (known names) false (arg_by_long (known names) name) v h)
unknown_fails names name v h e = rw (no_long names name e) (one_fails _ _)

abbrev pub is_blank : Text → Bool
is_blank [] = true
is_blank (x ∷ xs) = false

nonempty_chars : (x : ℕ) (xs cs : Text) → encode_utf8_all cs ≡ x ∷ xs → slice_get cs 0 ≡ None → ⊥
nonempty_chars x xs [] e none = true≢false (ap is_blank e)
nonempty_chars x xs (c ∷ cs) e none = true≢false (ap is_some none)

-- no option has a short name
short_fails : (names : List Text) (h : Held) (x : ℕ) (xs : Text) → IsUtf8 (x ∷ xs) → h.skip ≡ 0 → Fails (bundle_fault (known names) false (x ∷ xs) h)
unfolding flags_fault
short_fails names h x xs u skip = go (slice_get (chars (x ∷ xs)) 0) refl
  where
    go : (o : Option ℕ) → slice_get (chars (x ∷ xs)) 0 ≡ o → Fails (bundle_fault (known names) false (x ∷ xs) h)
    go None none = absurd (nonempty_chars x xs (chars (x ∷ xs)) (encodes-chars (x ∷ xs) u) none)
    go (Some c) is = rw (skip, is, no_short names c) (one_fails _ _)

-- the value that is due was not given, or was given before
flag_fails : (names : List Text) (h : Held) → Fails (settle_fault (known names) false h) → (name : Text) (v : Option Text)
    → Fails (long_fault (known names) false (arg_by_long (known names) name) v h)
flag_fails names h f name v = go (is_among names name) refl v
  where
    go : (b : Bool) → is_among names name ≡ b → (v : Option Text) → Fails (long_fault (known names) false (arg_by_long (known names) name) v h)
    go true own (Some value) = rw (by_long names name own) (first_fails _ _ f)
    go true own None = rw (by_long names name own) f
    go false other v = unknown_fails names name v h other

-- ## One word

abbrev pub top : List Text → Shape
top names = record (built (app_with [])).top { rules = known names }

abbrev at_place : Waiting → Held → Walk
at_place waiting h = record { held = h; waiting = waiting; position = 1; is_trailing = false; stopped = None }

module _ (names : List Text) (waiting : Waiting) (word : Text) (h : Held) where
  abbrev turn_of : Option (Text × Option Text) → Kinds
  turn_of o = or_else (flag_word_fault (known names) false o word h)
      (step_fault (top names) 1 (long_or_other (known names) waiting word o h).0 (long_or_other (known names) waiting word o h).1)

  abbrev next_of : Option (Text × Option Text) → Walk
  next_of o = after_step (known names) word (at_place waiting h)
      (long_or_other (known names) waiting word o h).0 (long_or_other (known names) waiting word o h).1

  module _ (alone : subcommand_met [] waiting word ≡ None) (other : bytes_eq word (45 ∷ 45 ∷ []) ≡ false) where
    turn_is : (o : Option (Text × Option Text)) → long_of word ≡ o → turn_fault (top names) [] (at_place waiting h) word ≡ turn_of o
    turn_is o is = rw (alone, other, is) refl

    walked_is : (o : Option (Text × Option Text)) → long_of word ≡ o → walked (known names) [] (at_place waiting h) word ≡ next_of o
    unfolding walked
    walked_is o is = rw (alone, other, is) refl

    turn_fails : (o : Option (Text × Option Text)) → long_of word ≡ o → Fails (turn_of o) → Fails (turn_fault (top names) [] (at_place waiting h) word)
    turn_fails o is f = subst Fails (sym (turn_is o is)) f

    short_turn_fails : (x : ℕ) (xs : Text) → long_of word ≡ None → short_of word ≡ Some (x ∷ xs) → IsUtf8 (x ∷ xs) → h.skip ≡ 0
        → Fails (turn_fault (top names) [] (at_place waiting h) word)
    short_turn_fails x xs none is u skip = turn_fails None none (rw is (first_fails _ _ (short_fails names h x xs u skip)))

-- a word that is no flag stands nowhere
stray_fails : (names : List Text) (word : Text) (h : Held) → bytes_eq word (45 ∷ 45 ∷ []) ≡ false → long_of word ≡ None → short_of word ≡ None
    → Fails (turn_fault (top names) [] (walk_from h) word)
stray_fails names word h other none no_flags =
    turn_fails names idle word h refl other None none (rw (no_flags, no_index names 1) (one_fails _ _))

-- where what is pending cannot be used, no word helps
settle_turn_fails : (names : List Text) (word : Text) (h : Held) → IsUtf8 word → is_bare word ≡ false → h.skip ≡ 0
    → Fails (settle_fault (known names) false h) → Fails (turn_fault (top names) [] (walk_from h) word)
settle_turn_fails names word h u bare skip f = elim (look word u bare) [
  | long flag is begins ↦ turn_fails names idle word h refl (not_dashes word bare) (Some flag) is (first_fails _ _ (flag_fails names h f flag.0 flag.1))
  | short x xs none is v begins ↦ short_turn_fails names idle word h refl (not_dashes word bare) x xs none is v skip
  | plain none no_flags begins ↦ stray_fails names word h (not_dashes word bare) none no_flags
]

-- ## All words

abbrev pub end_fault : List Text → Held → Kinds
end_fault names h = or_else (settle_fault (known names) false h)
    (or_else (defaults_fault (settled (known names) h).rows (known names)) (check_fault (top names) (finished (known names) h) false))

abbrev pub faults_at : List Text → Walk → List Text → Kinds
faults_at names w words = or_else (walk_fault (top names) [] w words) (end_fault names (fold (walked (known names) []) w words).held)

abbrev pub rows_at : List Text → Walk → List Text → List Row
rows_at names w words = finished (known names) (fold (walked (known names) []) w words).held

-- clap finds these options, and refuses where there are none
abbrev pub Reads : Option (List Setting) → Kinds → List Row → Type 0
Reads None kinds found = Fails kinds
Reads (Some given) kinds found = (kinds ≡ []) × (found ≡ rows given)

no_default_rows : (names : List Text) (found : List Row) → fold with_default found (known names) ≡ found
no_default_rows [] found = refl
no_default_rows (name ∷ names) found = ap (λ rs. fold with_default rs (known names)) (same (has_row name found)) ∙ no_default_rows names found
  where
    same : (b : Bool) → cond b found found ≡ found
    same true = refl
    same false = refl

no_default_faults : (names : List Text) (found : List Row) → defaults_fault found (known names) ≡ []
unfolding defaults_fault
no_default_faults [] found = refl
no_default_faults (name ∷ names) found = go (has_row name found) refl (no_default_faults names)
  where
    go : (b : Bool) → has_row name found ≡ b → ((rs : List Row) → defaults_fault rs (known names) ≡ []) → defaults_fault found (known (name ∷ names)) ≡ []
    go true is later = rw is (later found)
    go false is later = rw is (later found)

none_required : (names : List Text) (found : List Row) → list_any (λ a. a.required && not (is_given_row a.id found)) (known names) ≡ false
none_required [] found = refl
none_required (name ∷ names) found = none_required names found

end_clear : (names : List Text) (h : Held) → settle_fault (known names) false h ≡ [] → end_fault names h ≡ []
end_clear names h clear =
    or_both _ _ clear (or_both _ _ (no_default_faults names (settled (known names) h).rows)
    (let none = none_required names (finished (known names) h) in rw none refl))

ended : (names : List Text) (given : List Setting) (h : Held) → Rests names given h → Reads (Some given) (faults_at names (walk_from h) []) (rows_at names (walk_from h) [])
unfolding walk_fault
ended names given h r = (end_clear names h r.clear, no_default_rows names (settled (known names) h).rows ∙ ap (λ (k : Held). k.rows) r.rests)

end_fails : (names : List Text) (waiting : Waiting) (h : Held) → Fails (settle_fault (known names) false h) → Fails (faults_at names (at_place waiting h) [])
unfolding walk_fault
end_fails names waiting h f = first_fails _ _ f

fails_here : (names : List Text) (w : Walk) (word : Text) (rest : List Text) → Fails (turn_fault (top names) [] w word) → Fails (faults_at names w (word ∷ rest))
unfolding walk_fault
fails_here names w word rest f = first_fails _ _ (first_fails _ _ f)

goes_on : (names : List Text) (w : Walk) (word : Text) (rest : List Text) (after : Walk) (o : Option (List Setting))
    → turn_fault (top names) [] w word ≡ [] → walked (known names) [] w word ≡ after
    → Reads o (faults_at names after rest) (rows_at names after rest) → Reads o (faults_at names w (word ∷ rest)) (rows_at names w (word ∷ rest))
unfolding walk_fault
goes_on names w word rest after o clear next reads =
    let step = walked (known names) [] w word in
    let faults : faults_at names w (word ∷ rest) ≡ faults_at names after rest =
    ap (λ (t : Kinds). or_else (or_else t (walk_fault (top names) [] step rest)) (end_fault names (fold (walked (known names) []) step rest).held)) clear
    ∙ ap (λ (v : Walk). faults_at names v rest) next in
    subst₂ (λ (k : Kinds) (r : List Row). Reads o k r) (sym faults) (sym (ap (λ (v : Walk). rows_at names v rest) next)) reads

-- where what is pending cannot be used, no words help
settle_fails : (names : List Text) (words : List Text) (h : Held) → All IsUtf8 words → list_any is_bare words ≡ false → h.skip ≡ 0
    → Fails (settle_fault (known names) false h) → Fails (faults_at names (walk_from h) words)
settle_fails names [] h u bare skip f = end_fails names idle h f
settle_fails names (word ∷ rest) h u bare skip f =
    fails_here names (walk_from h) word rest (settle_turn_fails names word h (All-head IsUtf8 word rest u) (or_parts _ _ bare).0 skip f)

-- ## One option

-- what clap makes of words behind options that are given already
abbrev Meets : List Text → List Text → List Setting → Held → Type 0
Meets names words given h = Reads (options_from names words given) (faults_at names (walk_from h) words) (rows_at names (walk_from h) words)

setting_reads : (names : List Text) (given : List Setting) (setting : Setting) (rest : List Setting → Option (List Setting)) (kinds : Kinds) (found : List Row)
    → (is_among names setting.name ≡ false → Fails kinds)
    → (is_among names setting.name ≡ true → is_given given setting.name ≡ true → Fails kinds)
    → (is_among names setting.name ≡ true → is_given given setting.name ≡ false → Reads (rest (given ++ setting ∷ [])) kinds found)
    → Reads (with_setting names given setting rest) kinds found
setting_reads names given setting rest kinds found unknown repeats fresh = go (is_among names setting.name) (is_given given setting.name) refl refl
  where
    go : (a b : Bool) → is_among names setting.name ≡ a → is_given given setting.name ≡ b → Reads (with_setting names given setting rest) kinds found
    go false b own new = rw own (unknown own)
    go true true own new = rw (own, new) (repeats own new)
    go true false own new = rw (own, new) (fresh own new)

not_flag : (names : List Text) (word : Text) (given : List Setting) → long_of word ≡ None → (rest : List Text) → options_from names (word ∷ rest) given ≡ None
not_flag names word given none [] =
    ap (λ (o : Option (Text × Option Text)). with_flag names given o (λ all. Some all) (λ name. None)) none
not_flag names word given none (next ∷ rest) =
    ap (λ (o : Option (Text × Option Text)). with_flag names given o (options_from names (next ∷ rest))
    (λ name. with_next_word names given name next (options_from names rest))) none

module _ (names : List Text) (word : Text) (name : Text) (given : List Setting) (h : Held) (r : Rests names given h)
    (other : bytes_eq word (45 ∷ 45 ∷ []) ≡ false) where
  unknown_word : (v : Option Text) → long_of word ≡ Some (name, v) → is_among names name ≡ false → (rest : List Text)
      → Fails (faults_at names (walk_from h) (word ∷ rest))
  unknown_word v is none rest =
      fails_here names (walk_from h) word rest
      (turn_fails names idle word h refl other (Some (name, v)) is (first_fails _ _ (unknown_fails names name v h none)))

  -- `--name=value`
  module _ (v : Text) (is : long_of word ≡ Some (name, Some v)) where
    abbrev joined : Setting
    joined = record { name = name; value = v }

    joined_is : (rest : List Text) → options_from names (word ∷ rest) given ≡ with_setting names given joined (options_from names rest)
    joined_is [] = ap (λ (o : Option (Text × Option Text)). with_flag names given o (λ all. Some all) (λ name. None)) is
    joined_is (next ∷ rest) =
        ap (λ (o : Option (Text × Option Text)). with_flag names given o (options_from names (next ∷ rest))
        (λ name. with_next_word names given name next (options_from names rest))) is

    joined_fault : is_among names name ≡ true
        → long_fault (known names) false (arg_by_long (known names) name) (Some v) h ≡ use_fault false (rule name) (v ∷ []) (rows given)
    joined_fault own =
        ap (λ (o : Option Rule). long_fault (known names) false o (Some v) h) (by_long names name own)
        ∙ ap₂ or_else r.clear (ap (λ (k : Held). use_fault false (rule name) (v ∷ []) k.rows) r.rests)

    joined_turn : is_among names name ≡ true → is_given given name ≡ false → turn_fault (top names) [] (walk_from h) word ≡ []
    joined_turn own new =
        turn_is names idle word h refl other (Some (name, Some v)) is
        ∙ or_both _ _ (joined_fault own ∙ use_clear given joined new) (let found = by_long names name own in rw found refl)

    joined_next : is_among names name ≡ true → is_given given name ≡ false
        → walked (known names) [] (walk_from h) word ≡ walk_from (at_rest (given ++ joined ∷ []))
    joined_next own new =
        walked_is names idle word h refl other (Some (name, Some v)) is
        ∙ (let found = by_long names name own in rw found (ap (λ (k : Held). walk_from (record k { rows = used (rule name) (v ∷ []) k.rows; pending = None })) r.rests))
        ∙ ap (λ (rs : List Row). walk_from (at_rows rs)) (one_used given joined new)

    joined_reads : (rest : List Text) → ((all : List Setting) (k : Held) → Rests names all k → Meets names rest all k) → Meets names (word ∷ rest) given h
    joined_reads rest later =
        let faults = faults_at names (walk_from h) (word ∷ rest) in
        let found = rows_at names (walk_from h) (word ∷ rest) in
        subst (λ (o : Option (List Setting)). Reads o faults found) (sym (joined_is rest))
        (setting_reads names given joined (options_from names rest) faults found
        (λ none. unknown_word (Some v) is none rest)
        (λ own twice. fails_here names (walk_from h) word rest
        (turn_fails names idle word h refl other (Some (name, Some v)) is
        (first_fails _ _ (subst Fails (sym (joined_fault own)) (use_repeats given joined twice)))))
        (λ own new. goes_on names (walk_from h) word rest (walk_from (at_rest (given ++ joined ∷ []))) (options_from names rest (given ++ joined ∷ []))
        (joined_turn own new) (joined_next own new)
        (later (given ++ joined ∷ []) (at_rest (given ++ joined ∷ [])) (rest_rests names (given ++ joined ∷ [])))))

  -- `--name`
  module _ (is : long_of word ≡ Some (name, None)) where
    wants_fails : is_among names name ≡ true → Fails (settle_fault (known names) false (wants given name))
    wants_fails own = let found = by_id names name own in rw found (one_fails _ _)

    wants_turn : is_among names name ≡ true → turn_fault (top names) [] (walk_from h) word ≡ []
    wants_turn own =
        turn_is names idle word h refl other (Some (name, None)) is
        ∙ or_both _ _ (ap (λ (o : Option Rule). long_fault (known names) false o None h) (by_long names name own) ∙ r.clear)
        (let found = by_long names name own in rw found refl)

    wants_next : is_among names name ≡ true → walked (known names) [] (walk_from h) word ≡ at_place (option name) (wants given name)
    wants_next own =
        walked_is names idle word h refl other (Some (name, None)) is
        ∙ (let found = by_long names name own in
        rw found (ap (λ (k : Held). at_place (option name) (record k { pending = Some (name, []) })) r.rests))

    -- what follows the flag
    wants_reads : (rest : List Text) (o : Option (List Setting))
        → (is_among names name ≡ true → Reads o (faults_at names (at_place (option name) (wants given name)) rest) (rows_at names (at_place (option name) (wants given name)) rest))
        → is_among names name ≡ true → Reads o (faults_at names (walk_from h) (word ∷ rest)) (rows_at names (walk_from h) (word ∷ rest))
    wants_reads rest o later own = goes_on names (walk_from h) word rest (at_place (option name) (wants given name)) o (wants_turn own) (wants_next own) (later own)

    refused : (rest : List Text) → (is_among names name ≡ true → Fails (faults_at names (at_place (option name) (wants given name)) rest))
        → Fails (faults_at names (walk_from h) (word ∷ rest))
    refused rest later = go (is_among names name) refl
      where
        go : (b : Bool) → is_among names name ≡ b → Fails (faults_at names (walk_from h) (word ∷ rest))
        go true own = wants_reads rest None later own
        go false none = unknown_word None is none rest

    last_reads : Meets names (word ∷ []) given h
    last_reads =
        subst (λ (o : Option (List Setting)). Reads o (faults_at names (walk_from h) (word ∷ [])) (rows_at names (walk_from h) (word ∷ [])))
        (sym (ap (λ (o : Option (Text × Option Text)). with_flag names given o (λ all. Some all) (λ name. None)) is))
        (refused [] (λ own. end_fails names (option name) (wants given name) (wants_fails own)))

    module _ (next : Text) (rest : List Text) (bare : is_bare next ≡ false) where
      abbrev apart : Setting
      apart = record { name = name; value = next }

      apart_is : options_from names (word ∷ next ∷ rest) given ≡ with_next_word names given name next (options_from names rest)
      apart_is =
          ap (λ (o : Option (Text × Option Text)). with_flag names given o (options_from names (next ∷ rest))
          (λ name. with_next_word names given name next (options_from names rest))) is

      abbrev faults : Kinds
      faults = faults_at names (walk_from h) (word ∷ next ∷ rest)

      abbrev found : List Row
      found = rows_at names (walk_from h) (word ∷ next ∷ rest)

      module _ (none : long_of next ≡ None) (no_flags : short_of next ≡ None) where
        value_turn : turn_fault (top names) [] (at_place (option name) (wants given name)) next ≡ []
        value_turn =
            turn_is names (option name) next (wants given name) refl (not_dashes next bare) None none
            ∙ rw no_flags refl

        value_next : is_among names name ≡ true
            → walked (known names) [] (at_place (option name) (wants given name)) next ≡ walk_from (has_value given apart)
        value_next own =
            walked_is names (option name) next (wants given name) refl (not_dashes next bare) None none
            ∙ (let found = by_id names name own in let same = equal_self name in rw (no_flags, found, same) refl)

        value_reads : (o : Option (List Setting)) → is_among names name ≡ true
            → Reads o (faults_at names (walk_from (has_value given apart)) rest) (rows_at names (walk_from (has_value given apart)) rest)
            → Reads o faults found
        value_reads o own later =
            wants_reads (next ∷ rest) o (λ own. goes_on names (at_place (option name) (wants given name)) next rest
            (walk_from (has_value given apart)) o value_turn (value_next own) later) own

      apart_reads : IsUtf8 next → All IsUtf8 rest → list_any is_bare rest ≡ false
          → ((all : List Setting) (k : Held) → Rests names all k → Meets names rest all k) → Meets names (word ∷ next ∷ rest) given h
      apart_reads u us bares later = subst (λ (o : Option (List Setting)). Reads o faults found) (sym apart_is) (elim (look next u bare) [
        | long flag value begins ↦ rw begins (refused (next ∷ rest) (λ own. fails_here names (at_place (option name) (wants given name)) next rest
            (turn_fails names (option name) next (wants given name) refl (not_dashes next bare) (Some flag) value
            (first_fails _ _ (flag_fails names (wants given name) (wants_fails own) flag.0 flag.1)))))
        | short x xs none value v begins ↦ rw begins (refused (next ∷ rest) (λ own. fails_here names (at_place (option name) (wants given name)) next rest
            (short_turn_fails names (option name) next (wants given name) refl (not_dashes next bare) x xs none value v refl)))
        | plain none no_flags begins ↦ rw begins (setting_reads names given apart (options_from names rest) faults found
            (λ unknown. unknown_word None is unknown (next ∷ rest))
            (λ own twice. value_reads none no_flags None own (settle_fails names rest (has_value given apart) us bares refl
            (let known_id = by_id names name own in rw known_id (use_repeats given apart twice))))
            (λ own new. value_reads none no_flags (options_from names rest (given ++ apart ∷ [])) own
            (later (given ++ apart ∷ []) (has_value given apart) (value_rests names given apart own new))))
      ])

-- ## All options

word_reads : (names : List Text) (word : Text) (rest : List Text) (given : List Setting) (h : Held) → Rests names given h → IsUtf8 word → is_bare word ≡ false
    → ((all : List Setting) (k : Held) → Rests names all k → Meets names rest all k)
    → ((name : Text) → long_of word ≡ Some (name, None) → Meets names (word ∷ rest) given h)
    → Meets names (word ∷ rest) given h
word_reads names word rest given h r u bare later apart = elim (look word u bare) [
  | long flag is begins ↦ by_value flag.0 flag.1 is
  | short x xs none is v begins ↦ refuses none (short_turn_fails names idle word h refl (not_dashes word bare) x xs none is v (ap (λ (k : Held). k.skip) r.rests))
  | plain none no_flags begins ↦ refuses none (stray_fails names word h (not_dashes word bare) none no_flags)
]
  where
    by_value : (name : Text) (v : Option Text) → long_of word ≡ Some (name, v) → Meets names (word ∷ rest) given h
    by_value name (Some v) is = joined_reads names word name given h r (not_dashes word bare) v is rest later
    by_value name None is = apart name is

    refuses : long_of word ≡ None → Fails (turn_fault (top names) [] (walk_from h) word) → Meets names (word ∷ rest) given h
    refuses none f =
        subst (λ (o : Option (List Setting)). Reads o (faults_at names (walk_from h) (word ∷ rest)) (rows_at names (walk_from h) (word ∷ rest)))
        (sym (not_flag names word given none rest)) (fails_here names (walk_from h) word rest f)

pub reads : (names : List Text) (words : List Text) (given : List Setting) (h : Held) → Rests names given h → All IsUtf8 words → list_any is_bare words ≡ false
    → Meets names words given h
reads names [] given h r u bare = ended names given h r
reads names (word ∷ []) given h r u bare =
    let first = (or_parts _ _ bare).0 in
    word_reads names word [] given h r (All-head IsUtf8 word [] u) first (λ all k r. ended names all k r)
    (λ name is. last_reads names word name given h r (not_dashes word first) is)
reads names (word ∷ next ∷ rest) given h r u bare =
    let first = or_parts _ _ bare in
    let second = or_parts _ _ first.1 in
    let us = All-tail IsUtf8 word (next ∷ rest) u in
    word_reads names word (next ∷ rest) given h r (All-head IsUtf8 word (next ∷ rest) u) first.0
    (λ all k r. reads names (next ∷ rest) all k r us first.1)
    (λ name is. apart_reads names word name given h r (not_dashes word first.0) is next rest second.0 (All-head IsUtf8 next rest us) (All-tail IsUtf8 next rest us) second.1
    (λ all k r. reads names rest all k r (All-tail IsUtf8 next rest us) second.1))
