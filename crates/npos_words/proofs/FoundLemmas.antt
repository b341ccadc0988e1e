-- What clap answers on a command with options alone.
use Rattle.std.proofs.Common.{◌≡◌, ◌∙◌, ◌+◌, ℕ, Bool, true, false, refl, sym, ap, subst, List, [], ◌∷◌, ◌++◌, map, length, drop, take, take-suc, get_or, arith, ◌<◌, suc, codes, Option, Some, None}
use Rattle.std.specs.List.{All, list_all, list_any}
use Rattle.std.specs.Option.{is_some}
use Rattle.std.specs.Prelude.{IsUtf8, string_bytes, String}
use Rattle.std.specs.Str.{bytes_eq}
use Rattle.std.proofs.lemmas.Str.{IsUtf8-string_bytes}
use Rattle.std.specs.Borrow.{Bor}
use Rattle.std.proofs.lemmas.List.{map-append}
use Rattle.std.proofs.lemmas.List.Elements.{All-cons, All-drop, All-nil}
use Rattle.clap.proofs.WalkLemmas.{first_value-rows}
use Rattle.clap.specs.Walk.{Row, Rule, Text, first_of, is_early_multiple, nothing_held, rows_after, rows_of, walk, walk_from}
use Rattle.clap.specs.Matches.{found_of}
use Rattle.clap.specs.Simple.{App, built, filled_from, matches_of, names_of, new_app, on_top, with_rule}
use Rattle.clap.specs.Kinds.{IsAmong, Kinds}
use Rattle.clap.specs.Faults.{built_fault, entered_fault, fault_of, is_simple_and_free, level_fault}
use Rattle.clap.specs.Simple.{entered}
use Rattle.clap.specs.declared.error.kind.ErrorKind.{ErrorKind}
use Rattle.clap.specs.declared.parser.matches.ArgMatches.{ArgMatches}
use Rattle.npos_words.specs.Found.{Finds, app_with, option_rule}
use Rattle.npos_words.specs.Options.{Setting, options_of, value_of}
use Rattle.npos_words.specs.Words.{is_bare}
use Rattle.npos_words.proofs.OptionLemmas.{Reads, faults_at, known, reads, rest_rests, rows, rows_at, rule, top}

-- ## The built command

abbrev app_of_rules : List Rule → App
app_of_rules rs = on_top (λ shape. record shape { disable_help_flag = true; rules = rs }) (new_app (codes "npos"))

filled_is : (i : ℕ) (names : List Text) → filled_from i (map option_rule names) ≡ known names
filled_is i [] = refl
filled_is i (name ∷ names) = ap (λ rs. rule name ∷ rs) (filled_is i names)

abbrev built_app : List Rule → App
built_app rs = record { top = record (top []) { rules = rs }; subs = [] }

built_is : (names : List Text) → built (app_with names) ≡ record { top = top names; subs = [] }
built_is names = ap built_app (filled_is 1 names)

all_simple : (names : List Text) → list_all (λ (a : Rule). a.is_simple) (map option_rule names) ≡ true
all_simple [] = refl
all_simple (name ∷ names) = all_simple names

known_simple : (names : List Text) → list_all (λ (a : Rule). a.is_simple) (known names) ≡ true
known_simple [] = refl
known_simple (name ∷ names) = known_simple names

known_free : (names : List Text) → list_all (λ (a : Rule). a.is_free) (known names) ≡ true
known_free [] = refl
known_free (name ∷ names) = known_free names

in_order : (n : ℕ) (names : List Text) → list_any (is_early_multiple n) (known names) ≡ false
in_order n [] = refl
in_order n (name ∷ names) = in_order n names

pub simple_and_free : (names : List Text) → is_simple_and_free (app_with names) ≡ true
simple_and_free names = rw (all_simple names, filled_is 1 names, known_simple names, known_free names, in_order _ names) refl

-- one more option
pub more_options : (names : List (Bor Text)) (i : ℕ) (name : Bor Text) → i < length names
    → with_rule (app_with (map (λ name. name.now) (take i names))) (option_rule (get_or names i name).now) ≡ app_with (map (λ name. name.now) (take (i + 1) names))
more_options names i name below =
    let next : i + 1 ≡ suc i = omega arith in
    let all : take (i + 1) names ≡ take i names ++ get_or names i name ∷ [] = ap (λ n. take n names) next ∙ take-suc names i name below in
    let texts : map (λ name. name.now) (take (i + 1) names) ≡ map (λ name. name.now) (take i names) ++ (get_or names i name).now ∷ [] =
    ap (map (λ name. name.now)) all ∙ map-append (λ name. name.now) (take i names) (get_or names i name ∷ []) in
    let rules : map option_rule (map (λ name. name.now) (take (i + 1) names))
    ≡ map option_rule (map (λ name. name.now) (take i names)) ++ option_rule (get_or names i name).now ∷ [] =
    ap (map option_rule) texts ∙ map-append option_rule (map (λ name. name.now) (take i names)) ((get_or names i name).now ∷ []) in
    ap app_of_rules (sym rules)

-- ## What it answers

module _ (names words : List Text) where
  level_is : (o : Option (Text × List Text))
      → level_fault (top names) [] nothing_held words (is_some (entered (record { top = top names; subs = [] }) o)) (entered_fault (record { top = top names; subs = [] }) o)
      ≡ faults_at names (walk_from nothing_held) words
  level_is None = refl
  level_is (Some p) = refl

fault_is : (names all : List Text) → fault_of (app_with names) all ≡ faults_at names (walk_from nothing_held) (drop 1 all)
fault_is names all =
    ap (λ (a : App). built_fault a nothing_held (drop 1 all)) (built_is names)
    ∙ level_is names (drop 1 all) (walk (known names) [] nothing_held (drop 1 all)).stopped

matches_are : (names all : List Text) → matches_of (app_with names) all ≡ rows_at names (walk_from nothing_held) (drop 1 all)
matches_are names all = ap (λ (a : App). rows_after a.top.rules (names_of a) (drop 1 all)) (built_is names)

pub clap_reads : (names all : List Text) → All IsUtf8 (drop 1 all) → list_any is_bare (drop 1 all) ≡ false
    → Reads (options_of names (drop 1 all)) (fault_of (app_with names) all) (matches_of (app_with names) all)
clap_reads names all u bare =
    let given = options_of names (drop 1 all) in
    subst (λ (kinds : Kinds). Reads given kinds (matches_of (app_with names) all)) (sym (fault_is names all))
    (subst (λ (found : List Row). Reads given (faults_at names (walk_from nothing_held) (drop 1 all)) found) (sym (matches_are names all))
    (reads names (drop 1 all) [] nothing_held (rest_rests names []) u bare))

value_is : (given : List Setting) (name : Text) → first_of name (rows given) ≡ value_of given name
value_is [] name = refl
value_is (setting ∷ given) name = go (bytes_eq setting.name name) refl (value_is given name)
  where
    go : (b : Bool) → bytes_eq setting.name name ≡ b → first_of name (rows given) ≡ value_of given name → first_of name (rows (setting ∷ given)) ≡ value_of (setting ∷ given) name
    go true is later = rw is refl
    go false is later = rw is later

pub finds : (o : Option (List Setting)) (kinds : Kinds) (found : List Row) (m : ArgMatches) → Reads o kinds found → kinds ≡ [] → rows_of (found_of m) ≡ found
    → Finds (Some m) o
finds None kinds found m f none is = absurd (f none)
finds (Some given) kinds found m r none is =
    λ name. first_value-rows (found_of m) name ∙ ap (first_of name) (is ∙ r.1) ∙ value_is given name

pub finds_none : (o : Option (List Setting)) (kind : ErrorKind) (kinds : Kinds) (found : List Row) → Reads o kinds found → IsAmong kind kinds → Finds None o
finds_none None kind kinds found f among = tt
finds_none (Some given) kind kinds found r among = absurd (subst (IsAmong kind) r.0 among)

-- the words behind the first
pub words_utf8 : {Z : Type 0} (words : List (String Z)) → All IsUtf8 (drop 1 (map string_bytes words))
words_utf8 {Z = Z} words = All-drop IsUtf8 1 (map string_bytes words) (all words)
  where
    all : (words : List (String Z)) → All IsUtf8 (map string_bytes words)
    all [] = All-nil IsUtf8
    all (word ∷ words) = All-cons IsUtf8 (string_bytes word) (map string_bytes words) (IsUtf8-string_bytes word) (all words)
