-- Going through a list: each item is looked at with those that stand before it.
use Rattle.std.specs.Prelude.{ℕ, ◌-◌, Bool, true, not, if◌then◌else◌, List, [], ◌∷◌, ◌++◌, length, Option, Some, None, is_some, slice_get}

-- the place of the first item that is bad behind those before it
abbrev pub bad_from : {A : Type 0} → (List A → A → Bool) → List A → List A → Option ℕ
bad_from bad before [] = None
bad_from bad before (item ∷ more) =
    if bad before item then Some (length before) else bad_from bad (before ++ item ∷ []) more

abbrev pub bad_place : {A : Type 0} → (List A → A → Bool) → List A → Option ℕ
bad_place bad items = bad_from bad [] items

abbrev pub has_bad : {A : Type 0} → (List A → A → Bool) → List A → Bool
has_bad bad items = is_some (bad_place bad items)

abbrev pub last_of : {A : Type 0} → List A → Option A
last_of items = slice_get items (length items - 1)

abbrev pub stands_behind : {A : Type 0} → (A → A → Bool) → Option A → A → Bool
stands_behind precedes None item = true
stands_behind precedes (Some last) item = precedes last item

-- the last of those before precedes the item; nothing needs to precede the first one
abbrev pub follows : {A : Type 0} → (A → A → Bool) → List A → A → Bool
follows precedes before item = stands_behind precedes (last_of before) item

-- each item precedes the next one
abbrev pub is_rising : {A : Type 0} → (A → A → Bool) → List A → Bool
is_rising precedes items = not (has_bad (λ before item. not (follows precedes before item)) items)
