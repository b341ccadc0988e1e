-- The first bad item of a list, as a loop comes to it.
use Rattle.std.proofs.Common.{◌≡◌, ℕ, ◌+◌, ◌<◌, ◌≤◌, Bool, true, false, if◌then◌else◌, List, [], ◌∷◌, ◌++◌, map, Some, None, is_some, refl, sym, ◌∙◌, ap, arith, length, take, drop, get_or}
use Rattle.std.proofs.lemmas.List.{drop_all, take_more, drop_more, length-take-le, map-append}
use Rattle.state_rules.specs.Lists.{bad_from, bad_place, has_bad}

-- the items before this place are not bad
pub record IsAhead {A : Type 0} (bad : List A → A → Bool) (items : List A) (place : ℕ) : Type 0 where
  pub ahead : bad_from bad (take place items) (drop place items) ≡ bad_place bad items

pub at_first : {A : Type 0} (bad : List A → A → Bool) (items : List A) → IsAhead bad items 0
at_first bad items = record { ahead = refl }

here : {A : Type 0} (bad : List A → A → Bool) (items : List A) (place : ℕ) (d : A) → IsAhead bad items place → place < length items
    → bad_place bad items ≡ (if bad (take place items) (get_or items place d) then Some place else bad_from bad (take (place + 1) items) (drop (place + 1) items))
here bad items place d is few =
    sym is.ahead ∙ (ap (bad_from bad (take place items)) (drop_more items place d few)
    ∙ ((λ i. if bad (take place items) (get_or items place d) then Some (length-take-le place items (omega (arith, few)) i)
    else bad_from bad (sym (take_more items place d few) i) (drop (place + 1) items))))

-- a bad item is the first one
pub bad_here : {A : Type 0} (bad : List A → A → Bool) (items : List A) (place : ℕ) (d : A) → IsAhead bad items place → place < length items
    → bad (take place items) (get_or items place d) ≡ true → bad_place bad items ≡ Some place
bad_here bad items place d is few e =
    here bad items place d is few ∙ ap (λ (b : Bool). if b then Some place else bad_from bad (take (place + 1) items) (drop (place + 1) items)) e

-- one that is not bad is passed
pub good_here : {A : Type 0} (bad : List A → A → Bool) (items : List A) (place : ℕ) (d : A) → IsAhead bad items place → place < length items
    → bad (take place items) (get_or items place d) ≡ false → IsAhead bad items (place + 1)
good_here bad items place d is few e = record {
  ahead = sym (here bad items place d is few ∙ ap (λ (b : Bool). if b then Some place else bad_from bad (take (place + 1) items) (drop (place + 1) items)) e);
}

-- behind all items none is bad
pub good_all : {A : Type 0} (bad : List A → A → Bool) (items : List A) (place : ℕ) → IsAhead bad items place → length items ≤ place
    → bad_place bad items ≡ None
good_all bad items place is end = sym is.ahead ∙ ap (bad_from bad (take place items)) (drop_all place items end)

-- the same, where it is asked whether an item is bad
pub has_here : {A : Type 0} (bad : List A → A → Bool) (items : List A) (place : ℕ) (d : A) → IsAhead bad items place → place < length items
    → bad (take place items) (get_or items place d) ≡ true → true ≡ has_bad bad items
has_here bad items place d is few e = sym (ap is_some (bad_here bad items place d is few e))

pub has_none : {A : Type 0} (bad : List A → A → Bool) (items : List A) (place : ℕ) → IsAhead bad items place → length items ≤ place
    → false ≡ has_bad bad items
has_none bad items place is end = sym (ap is_some (good_all bad items place is end))

-- what is told of the items before a place, and of the one there
pub mapped_more : {A B : Type 0} (f : A → B) (items : List A) (place : ℕ) (d : A) → place < length items
    → map f (take place items) ++ f (get_or items place d) ∷ [] ≡ map f (take (place + 1) items)
mapped_more f items place d few = sym (ap (map f) (take_more items place d few) ∙ map-append f (take place items) (get_or items place d ∷ []))
