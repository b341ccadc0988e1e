-- The options that words give: each is `--name=value`, or `--name` with its value as the next word.
use Rattle.std.specs.Prelude.{ℕ, Bool, false, not, ◌==◌, ◌&&◌, List, [], ◌∷◌, ◌++◌, Option, Some, None, option_map, option_and_then, find, if◌then◌else◌}
use Rattle.std.specs.List.{list_any, before_first, after_first}
use Rattle.std.specs.Str.{bytes_eq}

abbrev pub Text : Type 0
Text = List ℕ

-- an option and its value
pub record Setting : Type 0 where
  pub name : Text
  pub value : Text

-- ## What a word looks like

abbrev pub hyphen : ℕ
hyphen = 45

abbrev pub is_equals_sign : ℕ → Bool
is_equals_sign byte = byte == 61

-- what follows this byte where the text begins with it
abbrev pub after_byte : ℕ → Text → Option Text
after_byte byte [] = None
after_byte byte (first ∷ rest) = if first == byte then Some rest else None

abbrev pub begins_with_hyphen : Text → Bool
begins_with_hyphen [] = false
begins_with_hyphen (first ∷ rest) = first == hyphen

-- the name before the first `=`, and the value behind it where there is one
abbrev pub name_and_value : Text → Text × Option Text
name_and_value text = (
  before_first is_equals_sign text,
  if list_any is_equals_sign text
      then Some (after_first is_equals_sign text) else None,
)

abbrev pub flag_text : Text → Option (Text × Option Text)
flag_text [] = None
flag_text (first ∷ rest) = Some (name_and_value (first ∷ rest))

-- of `--name` the name, and of `--name=value` the value too
abbrev pub flag_of : Text → Option (Text × Option Text)
flag_of word = option_and_then flag_text (option_and_then (after_byte hyphen) (after_byte hyphen word))

-- ## The options

abbrev pub is_among : List Text → Text → Bool
is_among names name = list_any (λ own. bytes_eq own name) names

abbrev pub is_given : List Setting → Text → Bool
is_given given name = list_any (λ setting. bytes_eq setting.name name) given

-- One more option is one of these names, and was not given before; then the rest is read.
abbrev pub with_setting : List Text → List Setting → Setting → (List Setting → Option (List Setting))
    → Option (List Setting)
with_setting names given setting rest =
    if is_among names setting.name && not (is_given given setting.name) then rest (given ++ setting ∷ [])
    else None

-- A value that is a word of its own begins with no hyphen.
abbrev pub with_next_word : List Text → List Setting → Text → Text → (List Setting → Option (List Setting))
    → Option (List Setting)
with_next_word names given name word rest =
    if begins_with_hyphen word then None
    else with_setting names given (record { name = name; value = word }) rest

-- by the value that stands in the flag's own word, or else in the next one
abbrev pub with_value : List Text → List Setting → Text → Option Text → (List Setting → Option (List Setting))
    → Option (List Setting) → Option (List Setting)
with_value names given name (Some value) rest apart = with_setting names given
    (record { name = name; value = value }) rest
with_value names given name None rest apart = apart

abbrev pub with_flag : List Text → List Setting → Option (Text × Option Text)
    → (List Setting → Option (List Setting)) → (Text → Option (List Setting)) → Option (List Setting)
with_flag names given None rest apart = None
with_flag names given (Some flag) rest apart = with_value names given flag.0 flag.1 rest (apart flag.0)

-- the options that words give behind those that are given already
abbrev pub options_from : List Text → List Text → List Setting → Option (List Setting)
options_from names [] given = Some given
options_from names (word ∷ []) given = with_flag names given (flag_of word) (λ all. Some all) (λ name. None)
options_from names (word ∷ next ∷ rest) given =
    with_flag names given (flag_of word) (options_from names (next ∷ rest))
    (λ name. with_next_word names given name next (options_from names rest))

-- the options of these names that the words give, each at most once
abbrev pub options_of : List Text → List Text → Option (List Setting)
options_of names words = options_from names words []

abbrev pub value_of : List Setting → Text → Option Text
value_of given name =
    option_map (λ setting. setting.value) (find (λ setting. bytes_eq setting.name name) given)
