-- Lists of keys, as contracts see them.
use Rattle.std.specs.Prelude.{◌≡◌, ◌≢◌, ◌⊎◌, ℕ, ◌<◌, List, [], ◌∷◌, ◌++◌, length, Option, Some, None, not, ◌==◌, filter, slice_get, slice_index_or, if◌then◌else◌, refl}
use Rattle.std.specs.Coded.{Coded, code_by, coded×, coded_ℕ, coded_list, coded_option}

-- the keys of each list from first to last, and the list of each key that has room
pub record Lists : Type 0 where
  pub lists : List (List ℕ)
  pub owners : List (Option ℕ)

-- the lists are stored as the pair of the fields
abbrev pub lists_code : Coded Lists
lists_code =
    code_by
    (List (List ℕ) × List (Option ℕ))
    (coded× (coded_list (coded_list coded_ℕ)) (coded_list (coded_option coded_ℕ)))
    (λ s. (s.lists, s.owners))
    (λ p. record { lists = p.0; owners = p.1 })
    (λ _. refl)

-- the keys of a list, from first to last
abbrev pub items : Lists → ℕ → List ℕ
items s list = slice_index_or s.lists list []

-- the list that a key is in
abbrev pub list_of : Lists → ℕ → Option ℕ
list_of s key = slice_index_or s.owners key None

-- how many lists there are
abbrev pub list_count : Lists → ℕ
list_count s = length s.lists

-- each key below this has room
abbrev pub key_limit : Lists → ℕ
key_limit s = length s.owners

-- the keys other than this one, in their order
abbrev pub without : ℕ → List ℕ → List ℕ
without key keys = filter (λ other. not (other == key)) keys

-- a key goes directly before another
abbrev pub before : ℕ → ℕ → List ℕ → List ℕ
before key other [] = key ∷ []
before key other (first ∷ rest) = if first == other then key ∷ first ∷ rest else first ∷ before key other rest

-- the key after another
abbrev pub after : ℕ → List ℕ → Option ℕ
after key [] = None
after key (first ∷ rest) = if first == key then slice_get rest 0 else after key rest

-- the keys from one on, and none where there is none
abbrev pub keys_from : Option ℕ → List ℕ → List ℕ
keys_from None keys = []
keys_from (Some key) [] = []
keys_from (Some key) (first ∷ rest) = if first == key then first ∷ rest else keys_from (Some key) rest

-- the key is one of these
abbrev pub IsIn : ℕ → List ℕ → Type 0
IsIn key [] = ⊥
IsIn key (first ∷ rest) = (first ≡ key) ⊎ IsIn key rest

-- no key is there twice
abbrev pub IsApart : List ℕ → Type 0
IsApart [] = Unit {0}
IsApart (first ∷ rest) = (¬ IsIn first rest) × IsApart rest

-- no key is in the list
abbrev pub IsEmpty : Lists → ℕ → Type 0
IsEmpty s list = (key : ℕ) → list_of s key ≢ Some list

-- each list and each key is as it was
pub record SameLists (old new : Lists) : Type 0 where
  pub count : list_count new ≡ list_count old
  pub lists : (list : ℕ) → items new list ≡ items old list
  pub keys : (key : ℕ) → list_of new key ≡ list_of old key

-- the key is now in this list or in none, and every other key is where it was
pub record Moves (old new : Lists) (key : ℕ) (list : Option ℕ) : Type 0 where
  pub moved : list_of new key ≡ list
  pub others : (other : ℕ) → other ≢ key → list_of new other ≡ list_of old other
  pub count : list_count new ≡ list_count old
  pub limit : key_limit new ≡ key_limit old

-- lists in which each key stands at most once, and only where it is said to be
pub record IsFit (lists : Lists) : Type 0 where
  pub apart : (list : ℕ) → IsApart (items lists list)
  pub owned : (list key : ℕ) → IsIn key (items lists list) → list_of lists key ≡ Some list
  pub listed : (list key : ℕ) → list_of lists key ≡ Some list → IsIn key (items lists list)
  pub known : (list key : ℕ) → list_of lists key ≡ Some list → list < list_count lists
  pub within : (list key : ℕ) → list_of lists key ≡ Some list → key < key_limit lists

-- a key leaves one list for the end of another, and all else stays
pub record Relinks (old new : Lists) (key from to : ℕ) : Type 0 where
  pub fit : IsFit new
  pub count : list_count new ≡ list_count old
  pub limit : key_limit new ≡ key_limit old
  pub moved : list_of new key ≡ Some to
  pub others : (other : ℕ) → other ≢ key → list_of new other ≡ list_of old other
  pub left : from ≢ to → items new from ≡ without key (items old from)
  pub joined : from ≢ to → items new to ≡ items old to ++ key ∷ []
  pub rest : (list : ℕ) → list ≢ from → list ≢ to → items new list ≡ items old list
