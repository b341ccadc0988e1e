-- What it is that words spell options, without a reading.
use Rattle.std.specs.Prelude.{◌≡◌, ◌≢◌, ◌⊎◌, ◌↔◌, ⊤, true, false, List, [], ◌∷◌, ◌++◌, codes, All, Some}
use Rattle.std.specs.List.{list_any}
use Rattle.npos_words.specs.Words.{mine_names, demo_names}
use Rattle.npos_words.specs.Options.{Text, Setting, begins_with_hyphen, is_among, is_equals_sign, is_given, options_of}

-- `--name=value`
abbrev pub joined_word : Setting → Text
joined_word setting = codes "--" ++ (setting.name ++ (codes "=" ++ setting.value))

-- `--name`
abbrev pub flag_word : Setting → Text
flag_word setting = codes "--" ++ setting.name

-- The words spell the settings, one behind the other: each as `--name=value`, or as `--name` and
-- then the value, which begins with no hyphen.
abbrev pub Spell : List Text → List Setting → Type 0
Spell words [] = words ≡ []
Spell words (setting ∷ given) = (rest : List Text) × Spell rest given
    × ((words ≡ joined_word setting ∷ rest)
    ⊎ ((words ≡ flag_word setting ∷ setting.value ∷ rest) × (begins_with_hyphen setting.value ≡ false)))

-- no name stands twice
abbrev pub AreApart : List Setting → Type 0
AreApart [] = ⊤
AreApart (setting ∷ given) = (is_given given setting.name ≡ false) × AreApart given

-- a name is not empty and has no `=`
abbrev pub IsName : Text → Type 0
IsName name = (name ≢ []) × (list_any is_equals_sign name ≡ false)

-- Options are read from words exactly where the words spell them, each is one of the names, and
-- none is given twice.
abbrev pub ReadsWhatIsSpelled : Type 0
ReadsWhatIsSpelled = (names words : List Text) (given : List Setting) → All IsName names
    → (options_of names words ≡ Some given)
    ↔ (Spell words given × All (λ setting. is_among names setting.name ≡ true) given × AreApart given)

-- the names of the options that there are
abbrev pub NamesAreNames : Type 0
NamesAreNames = All IsName mine_names × All IsName demo_names
