-- The data at the front of tokens, an item and a member at a time.
use Rattle.std.proofs.Common.{◌≡◌, ℕ, suc, ◌-◌, ◌<◌, ◌≤◌, List, [], ◌∷◌, ◌++◌, length, Option, Some, None, option_map, option_and_then, refl, sym, ap, ◌∙◌, arith, append_assoc, append-nil}
use Rattle.json.specs.Token.{Token}
use Rattle.json.specs.Json as json
use Rattle.json.specs.Json.{Parse, parse_map, after_end_array, read_key, items, members, value, if_last}
use Rattle.json.proofs.Grammar.{left, items_end, items_more, members_end, members_more, value_is, read_key-shorter, skip_value-shorter}
use Rattle.serde_json.specs.Data.{Data, array, object, Items, item, Members, no_members, put}
use Rattle.serde_json.specs.Read.{of_json, of_items, of_members, converted}
use Rattle.serde_json.specs.View.{items_of}
use Rattle.bundle_json.specs.Json.{array_of, members_of, object_of}
use Rattle.bundle_json.specs.Shape.{each}

abbrev first_or : {A : Type 0} → A → Option A → A
first_or a None = a
first_or a (Some b) = b

same_parts : {B : Type 0} (r s : List Token) (x : Option B) (b : B) → option_map {U = B × List Token} (λ y. (y, r)) x ≡ Some (b, s) → (r ≡ s) × (x ≡ Some b)
same_parts r s None b e = absurd (cc)
same_parts r s (Some y) b e = let same = ap (first_or (y, r)) e in (ap (λ p. p.1) same, ap (λ p. Some p.0) same)

-- what was converted was read
pub converted_from : {A B : Type 0} (f : A → Option B) (o : Option (A × List Token)) (b : B) (r : List Token) → converted f o ≡ Some (b, r) → (a : A) × (o ≡ Some (a, r)) × (f a ≡ Some b)
converted_from f None b r e = absurd (cc)
converted_from f (Some p) b r e = let both = same_parts p.1 r (f p.0) b e in (p.0, ap (λ s. Some (p.0, s)) both.0, both.1)

mapped : {A B : Type 0} (g : A → B) (r : List Token) (x : Option A) → option_map (λ b. (b, r)) (option_map g x) ≡ parse_map g (option_map (λ a. (a, r)) x)
mapped g r None = refl
mapped g r (Some a) = refl

pub of_array : (o : Option (json.Items × List Token)) → converted of_json (parse_map json.array o) ≡ parse_map array (converted of_items o)
of_array None = refl
of_array (Some p) = mapped array p.1 (of_items p.0)

of_object : (o : Option (json.Members × List Token)) → converted of_json (parse_map json.object o) ≡ parse_map object (converted (λ ms. of_members ms no_members) o)
of_object None = refl
of_object (Some p) = mapped object p.1 (of_members p.0 no_members)

with_item : (j : json.Json) (d : Data) → of_json j ≡ Some d → (o : Option (json.Items × List Token)) → converted of_items (parse_map (json.item j) o) ≡ parse_map (item d) (converted of_items o)
with_item j d e None = refl
with_item j d e (Some p) = rw e (mapped (item d) p.1 (of_items p.0))

with_member : (k : List ℕ) (j : json.Json) (d : Data) (old : Members) → of_json j ≡ Some d → (o : Option (json.Members × List Token))
    → converted (λ ms. of_members ms old) (parse_map (json.member k j) o) ≡ converted (λ ms. of_members ms (put k d old)) o
with_member k j d old e None = refl
with_member k j d old e (Some p) = rw e

-- no value begins with the bracket that closes an array
no_end : (depth : ℕ) (ts r : List Token) (j : json.Json) → value depth ts ≡ Some (j, r) → after_end_array ts ≡ None
no_end depth [] r j e = refl
no_end depth (Token.begin_object ∷ ts) r j e = refl
no_end depth (Token.end_object ∷ ts) r j e = refl
no_end depth (Token.begin_array ∷ ts) r j e = refl
no_end depth (Token.end_array ∷ ts) r j e = let none = value_is depth (Token.end_array ∷ ts) in absurd (cc)
no_end depth (Token.key s ∷ ts) r j e = refl
no_end depth (Token.string s ∷ ts) r j e = refl
no_end depth (Token.number s ∷ ts) r j e = refl
no_end depth (Token.boolean b ∷ ts) r j e = refl
no_end depth (Token.null ∷ ts) r j e = refl
no_end depth (Token.bad ∷ ts) r j e = refl

-- ## A few values

-- the tokens begin with these items and the bracket that closes their array
abbrev pub ItemsAt : ℕ → List Token → List Data → List Token → Type 0
ItemsAt depth ts [] new = after_end_array ts ≡ Some new
ItemsAt depth ts (d ∷ ds) new = (r : List Token) × (converted of_json (value depth ts) ≡ Some (d, r)) × ItemsAt depth r ds new

items_are : (depth n : ℕ) (ts new : List Token) (ds : List Data) → length ts ≤ n → ItemsAt depth ts ds new → converted of_items (items (value depth) n ts) ≡ Some (items_of ds, new)
items_are depth n ts new [] enough h = ap (converted of_items) (items_end (value depth) n ts new enough h)
items_are depth n ts new (d ∷ ds) enough h =
    let j = converted_from of_json (value depth ts) d h.0 h.1 in
    let less = skip_value-shorter depth ts h.0 (ap left j.1) in
    ap (converted of_items) (items_more (value depth) n ts h.0 j.0 (omega arith) (no_end depth ts h.0 j.0 j.1) j.1)
    ∙ with_item j.0 d j.2 _ ∙ ap (parse_map (item d)) (items_are depth (n - 1) h.0 new ds (omega arith) h.2)

pub array_at : (depth : ℕ) (ts new : List Token) (ds : List Data) → ItemsAt depth ts ds new
    → converted of_json (value (suc depth) (Token.begin_array ∷ ts)) ≡ Some (array_of ds, new)
unfolding value
array_at depth ts new ds h = of_array (items (value depth) (length ts) ts) ∙ ap (parse_map array) (items_are depth (length ts) ts new ds (omega arith) h)

-- the tokens begin with these members and the brace that closes their object
abbrev pub MembersAt : ℕ → List Token → List (List ℕ × Data) → List Token → Type 0
MembersAt depth ts [] new = read_key ts ≡ Some (None, new)
MembersAt depth ts (m ∷ ms) new =
    (s r : List Token) × (read_key ts ≡ Some (Some m.0, s)) × (converted of_json (value depth s) ≡ Some (m.1, r)) × MembersAt depth r ms new

abbrev pub put_all : List (List ℕ × Data) → Members → Members
put_all [] old = old
put_all (m ∷ ms) old = put_all ms (put m.0 m.1 old)

members_are : (depth n : ℕ) (ts new : List Token) (ms : List (List ℕ × Data)) (old : Members) → length ts ≤ n → MembersAt depth ts ms new
    → converted (λ js. of_members js old) (members (value depth) n ts) ≡ Some (put_all ms old, new)
members_are depth n ts new [] old enough h = ap (converted (λ js. of_members js old)) (members_end (value depth) n ts new enough h)
members_are depth n ts new (m ∷ ms) old enough h =
    let j = converted_from of_json (value depth h.0) m.1 h.1 h.3 in
    let named = read_key-shorter ts (Some m.0) h.0 h.2 in
    let less = skip_value-shorter depth h.0 h.1 (ap left j.1) in
    ap (converted (λ js. of_members js old)) (members_more (value depth) n m.0 ts h.0 h.1 j.0 (omega arith) h.2 j.1)
    ∙ with_member m.0 j.0 m.1 old j.2 _ ∙ members_are depth (n - 1) h.1 new ms (put m.0 m.1 old) (omega arith) h.4

-- an object whose keys rise
pub object_at : (depth : ℕ) (ts new : List Token) (ms : List (List ℕ × Data)) → put_all ms no_members ≡ members_of ms → MembersAt depth ts ms new
    → converted of_json (value (suc depth) (Token.begin_object ∷ ts)) ≡ Some (object_of ms, new)
unfolding value
object_at depth ts new ms rising h =
    of_object (members (value depth) (length ts) ts) ∙ ap (parse_map object) (members_are depth (length ts) ts new ms no_members (omega arith) h)
    ∙ ap (λ found. Some (object found, new)) rising

-- ## Any number of items

-- what the items at the front stand for, with the tokens behind their array
abbrev pub listed : {A : Type 0} → (Data → Option A) → ℕ → ℕ → List Token → Option (List A × List Token)
listed stands depth n ts = converted (each stands) (converted of_items (items (value depth) n ts))

abbrev pub behind : {A : Type 0} → List A → Option (List A × List Token) → Option (List A × List Token)
behind found = parse_map (λ xs. found ++ xs)

pub behind_none : {A : Type 0} (o : Option (List A × List Token)) → o ≡ behind [] o
behind_none None = refl
behind_none (Some p) = refl

consed : {A : Type 0} (x : A) (r : List Token) (o : Option (List A)) → option_map (λ xs. (xs, r)) (option_and_then (λ xs. Some (x ∷ xs)) o) ≡ behind (x ∷ []) (option_map (λ xs. (xs, r)) o)
consed x r None = refl
consed x r (Some xs) = refl

each_first : {A : Type 0} (stands : Data → Option A) (d : Data) (x : A) → stands d ≡ Some x → (o : Option (Items × List Token))
    → converted (each stands) (parse_map (item d) o) ≡ behind (x ∷ []) (converted (each stands) o)
each_first stands d x e None = refl
each_first stands d x e (Some p) = rw e (consed x p.1 (each stands p.0))

pushed : {A : Type 0} (found : List A) (x : A) (o : Option (List A × List Token)) → behind found (behind (x ∷ []) o) ≡ behind (found ++ x ∷ []) o
pushed found x None = refl
pushed found x (Some p) = ap (λ xs. Some (xs, p.1)) (sym (append_assoc found (x ∷ []) p.0))

pub front_shorter : {A : Type 0} (stands : Data → Option A) (depth : ℕ) (ts r : List Token) (x : A) → converted stands (converted of_json (value depth ts)) ≡ Some (x, r) → length r < length ts
front_shorter stands depth ts r x e =
    let d = converted_from stands _ x r e in
    let j = converted_from of_json (value depth ts) d.0 r d.1 in
    skip_value-shorter depth ts r (ap left j.1)

-- one more item was read
pub one_more : {A : Type 0} (stands : Data → Option A) (depth n : ℕ) (ts r : List Token) (found : List A) (x : A) → length ts ≤ n → after_end_array ts ≡ None
    → converted stands (converted of_json (value depth ts)) ≡ Some (x, r)
    → (length r ≤ n - 1) × (behind found (listed stands depth n ts) ≡ behind (found ++ x ∷ []) (listed stands depth (n - 1) r))
one_more stands depth n ts r found x enough going e =
    let d = converted_from stands _ x r e in
    let j = converted_from of_json (value depth ts) d.0 r d.1 in
    let less = skip_value-shorter depth ts r (ap left j.1) in (
      omega arith,
      ap (λ o. behind found (converted (each stands) (converted of_items o))) (items_more (value depth) n ts r j.0 (omega arith) going j.1)
          ∙ ap (λ o. behind found (converted (each stands) o)) (with_item j.0 d.0 j.2 _)
          ∙ ap (behind found) (each_first stands d.0 x d.2 _)
          ∙ pushed found x _,
    )

-- the array ends
pub no_more : {A : Type 0} (stands : Data → Option A) (depth n : ℕ) (ts r : List Token) (found : List A) → length ts ≤ n → after_end_array ts ≡ Some r
    → behind found (listed stands depth n ts) ≡ Some (found, r)
no_more stands depth n ts r found enough e =
    ap (λ o. behind found (converted (each stands) (converted of_items o))) (items_end (value depth) n ts r enough e)
    ∙ ap (λ xs. Some (xs, r)) (append-nil found)
