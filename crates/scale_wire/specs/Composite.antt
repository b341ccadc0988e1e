-- Types that are made of parts: pairs, triples, structs, rows of items, and one part behind
-- another. Their spellings stand one behind the other, and bytes are refused where the first part
-- is refused that the parts before it leave due.
use Rattle.std.specs.Prelude.{◌≡◌, ◌⊎◌, ℕ, zero, suc, ◌+◌, ◌≤◌, List, [], ◌∷◌, ◌++◌, length, Option, Some, None, IfSome}
use Rattle.std.specs.List.{AllByRecursion, flat_map}
use Rattle.scale_wire.specs.declared.fault.Why.{Why}
use Rattle.scale_wire.specs.Form.{IsBytes, Form, both, times, either}
use Rattle.scale_wire.specs.Compact.{compact_bytes}
use Rattle.scale_wire.specs.Parts.{byte_string, length_form, tag_form}

-- The first bytes spell a value of the head, whole, and those behind it are refused as what that
-- value leaves due.
pub record Behind {A : Type 0} (head : Form A) (bad : A → List ℕ → ℕ → Why → Type 0)
    (bytes : List ℕ) (at : ℕ) (why : Why) : Type 0 where
  pub first : A
  pub in_range : head.in_range first
  pub rest : List ℕ
  pub whole : bytes ≡ head.spelling first ++ rest
  pub place : ℕ
  pub at_is : at ≡ length (head.spelling first) + place
  pub refused : bad first rest place why

-- refused as the head, or behind it
abbrev pub BadThen : {A : Type 0}
    → Form A → (A → List ℕ → ℕ → Why → Type 0) → List ℕ → ℕ → Why → Type 0
BadThen head bad bytes at why = head.bad bytes at why ⊎ Behind head bad bytes at why

-- ## Pairs and triples

abbrev pub pair : {A B : Type 0} → Form A → Form B → Form (A × B)
pair a b = record {
  spelling = λ p. a.spelling p.0 ++ b.spelling p.1;
  in_range = λ p. a.in_range p.0 × b.in_range p.1;
  bad = BadThen a (λ _. b.bad);
  longest = both a.longest b.longest;
}

abbrev pub triple : {A B C : Type 0} → Form A → Form B → Form C → Form (A × B × C)
triple a b c = record {
  spelling = λ t. a.spelling t.0 ++ (b.spelling t.1 ++ c.spelling t.2);
  in_range = λ t. a.in_range t.0 × b.in_range t.1 × c.in_range t.2;
  bad = BadThen a (λ _. BadThen b (λ _. c.bad));
  longest = both a.longest (both b.longest c.longest);
}

-- ## Structs

-- a struct, seen as what its fields are together
abbrev pub seen : {V W : Type 0} → Form V → (W → V) → Form W
seen form fields = record {
  spelling = λ w. form.spelling (fields w);
  in_range = λ w. form.in_range (fields w);
  bad = form.bad;
  longest = form.longest;
}

-- no field
abbrev pub nothing : Form (Unit {0})
nothing = record {
  spelling = λ _. [];
  in_range = λ _. Unit {0};
  bad = λ _ _ _. ⊥;
  longest = Some 0;
}

-- ## Items in a row

-- the first that is refused of this many items
abbrev pub BadItems : {A : Type 0} → Form A → ℕ → List ℕ → ℕ → Why → Type 0
BadItems item zero bytes at why = ⊥
BadItems item (suc more) bytes at why = BadThen item (λ _. BadItems item more) bytes at why

-- this many items of one form
abbrev pub items : {A : Type 0} → Form A → ℕ → Form (List A)
items item count = record {
  spelling = λ xs. flat_map item.spelling xs;
  in_range = λ xs. AllByRecursion item.in_range xs × (length xs ≡ count);
  bad = BadItems item count;
  longest = times count item.longest;
}

-- the items of one row have forms of their own, by their position from `first` on
abbrev pub row_bytes : {A : Type 0} → (ℕ → Form A) → ℕ → List A → List ℕ
row_bytes item first [] = []
row_bytes item first (x ∷ xs) = (item first).spelling x ++ row_bytes item (suc first) xs

abbrev pub IsRow : {A : Type 0} → (ℕ → Form A) → ℕ → ℕ → List A → Type 0
IsRow item first zero [] = Unit {0}
IsRow item first (suc more) (x ∷ xs) = (item first).in_range x × IsRow item (suc first) more xs
IsRow item first _ _ = ⊥

abbrev pub BadRow : {A : Type 0} → (ℕ → Form A) → ℕ → ℕ → List ℕ → ℕ → Why → Type 0
BadRow item first zero bytes at why = ⊥
BadRow item first (suc more) bytes at why =
    BadThen (item first) (λ _. BadRow item (suc first) more) bytes at why

abbrev pub longest_row : {A : Type 0} → (ℕ → Form A) → ℕ → ℕ → Option ℕ
longest_row item first zero = Some 0
longest_row item first (suc more) = both (item first).longest (longest_row item (suc first) more)

abbrev pub row : {A : Type 0} → (ℕ → Form A) → ℕ → ℕ → Form (List A)
row item first count = record {
  spelling = row_bytes item first;
  in_range = IsRow item first count;
  bad = BadRow item first count;
  longest = longest_row item first count;
}

-- ## Lists

-- a list is its length and then its items
abbrev pub list_bytes : {A : Type 0} → Form A → List A → List ℕ
list_bytes item xs = compact_bytes (length xs) ++ flat_map item.spelling xs

abbrev pub list : {A : Type 0} → Form A → ℕ → Form (List A)
list item limit = record {
  spelling = list_bytes item;
  in_range = λ xs. (length xs ≤ limit) × AllByRecursion item.in_range xs;
  bad = BadThen (length_form limit) (BadItems item);
  longest = both (Some 5) (times limit item.longest);
}

-- a byte list is its length and then its bytes as they are
abbrev pub byte_list : ℕ → Form (List ℕ)
byte_list limit = record {
  spelling = λ bytes. compact_bytes (length bytes) ++ bytes;
  in_range = λ bytes. (length bytes ≤ limit) × IsBytes bytes;
  bad = BadThen (length_form limit) (λ count. (byte_string count).bad);
  longest = Some (5 + limit);
}

-- ## Options

abbrev pub optional_bytes : {A : Type 0} → Form A → Option A → List ℕ
optional_bytes value None = 0 ∷ []
optional_bytes value (Some x) = 1 ∷ value.spelling x

-- the tag 0 leaves nothing due, and the tag 1 a value
abbrev pub BadOptional : {A : Type 0} → Form A → ℕ → List ℕ → ℕ → Why → Type 0
BadOptional value tag bytes at why = (tag ≡ 1) × value.bad bytes at why

abbrev pub optional : {A : Type 0} → Form A → Form (Option A)
optional value = record {
  spelling = optional_bytes value;
  in_range = λ option. IfSome option value.in_range;
  bad = BadThen (tag_form 2) (BadOptional value);
  longest = both (Some 1) value.longest;
}

-- ## Runs

-- items, each behind a 1
abbrev pub turns_bytes : {A : Type 0} → Form A → List A → List ℕ
turns_bytes item xs = flat_map (λ x. 1 ∷ item.spelling x) xs

-- a run is its items, each behind a 1, and then a 0
abbrev pub run_bytes : {A : Type 0} → Form A → List A → List ℕ
run_bytes item xs = turns_bytes item xs ++ (0 ∷ [])

-- Behind whole items, each behind a 1, stands what is no Option of an item.
pub record BadRun {A : Type 0} (item : Form A) (bytes : List ℕ) (at : ℕ) (why : Why) : Type 0 where
  pub before : List A
  pub in_range : AllByRecursion item.in_range before
  pub rest : List ℕ
  pub whole : bytes ≡ turns_bytes item before ++ rest
  pub place : ℕ
  pub at_is : at ≡ length (turns_bytes item before) + place
  pub refused : (optional item).bad rest place why

-- a list without a limit
abbrev pub run : {A : Type 0} → Form A → Form (List A)
run item = record {
  spelling = run_bytes item;
  in_range = AllByRecursion item.in_range;
  bad = BadRun item;
  longest = None;
}

-- ## Enums

-- the fields of one variant of an enum: the type of what they are together, and its form
pub record Fields : Type 1 where
  pub Values : Type 0
  pub form : Form Values

abbrev pub fields : {V : Type 0} → Form V → Fields
fields {V} form_of = record { Values = V; form = form_of }

-- behind a tag that no variant has there is no value
abbrev pub no_fields : Fields
no_fields = record {
  Values = ⊥;
  form = record { spelling = λ _. []; in_range = λ _. ⊥; bad = λ _ _ _. ⊥; longest = Some 0 };
}

-- the variant that has the tag
abbrev pub variant_at : List Fields → ℕ → Fields
variant_at [] tag = no_fields
variant_at (variant ∷ variants) zero = variant
variant_at (variant ∷ variants) (suc tag) = variant_at variants tag

abbrev pub longest_variant : List Fields → Option ℕ
longest_variant [] = Some 0
longest_variant (variant ∷ variants) = either variant.form.longest (longest_variant variants)

-- a value of an enum: its tag, the number of its variant from 0, and the fields of that variant
pub record Choice (variants : List Fields) : Type 0 where
  pub tag : ℕ
  pub values : (variant_at variants tag).Values

abbrev pub choice : (variants : List Fields) → Form (Choice variants)
choice variants = record {
  spelling = λ chosen. chosen.tag ∷ (variant_at variants chosen.tag).form.spelling chosen.values;
  in_range = λ chosen. (variant_at variants chosen.tag).form.in_range chosen.values;
  bad = BadThen (tag_form (length variants)) (λ tag. (variant_at variants tag).form.bad);
  longest = both (Some 1) (longest_variant variants);
}

-- what follows the tag of an enum, whose values `choose` sees as a tag and its fields
abbrev pub behind_tag : {W : Type 0} (variants : List Fields) → (W → Choice variants) → ℕ → Form W
behind_tag variants choose tag = record {
  spelling = λ w. (variant_at variants (choose w).tag).form.spelling (choose w).values;
  in_range = λ w.
      ((choose w).tag ≡ tag) × (variant_at variants (choose w).tag).form.in_range (choose w).values;
  bad = (variant_at variants tag).form.bad;
  longest = (variant_at variants tag).form.longest;
}
