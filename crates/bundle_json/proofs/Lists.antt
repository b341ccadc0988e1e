-- Arrays, an item at a time: what is left to read, and what was written.
use Rattle.std.proofs.Common.{◌≡◌, ℕ, suc, ◌<◌, ◌≤◌, List, [], ◌∷◌, ◌++◌, length, drop, get_or, map, Option, Some, None}
use Rattle.std.proofs.Common.{option_map, option_and_then, String, Global, refl, sym, ap, ◌∙◌, append_assoc, append-nil}
use Rattle.std.proofs.Math.Seq.{drop-cons}
use Rattle.std.proofs.Math.ListN.{drop_of_length-le}
use Rattle.json.specs.Token.{Token, begin_array, end_array}
use Rattle.json.specs.Tree.{json_tokens, items_tokens}
use Rattle.serde_json.specs.Data.{Data}
use Rattle.serde_json.specs.Events.{items_len, members_len}
use Rattle.serde_json.specs.View.{view, items_of, items_view, members_view}
use Rattle.serde_json.specs.Written.{outline, items_outline}
use Rattle.serde_json.specs.declared.value.Value.{Value}
use Rattle.bundle_json.specs.Json.{list_json}
use Rattle.bundle_json.specs.Shape.{each}
use Rattle.bundle_json.specs.Text.{tokens_of}

-- ## Reading

-- what the items found and those that are left stand for together
abbrev pub together : {A : Type 0} → (Data → Option A) → List A → List Value → Option (List A)
together read found rest = option_map (λ ys. found ++ ys) (each read (items_view rest))

same : {A : Type 0} (o : Option (List A)) → option_map (λ ys. [] ++ ys) o ≡ o
same None = refl
same (Some ys) = refl

pub together_first : {A : Type 0} (read : Data → Option A) (vs : List Value) → together read [] vs ≡ each read (items_view vs)
together_first read vs = same (each read (items_view vs))

pushed : {A : Type 0} (found : List A) (x : A) (o : Option (List A))
    → option_map (λ ys. found ++ ys) (option_map (λ xs. x ∷ xs) o) ≡ option_map (λ ys. (found ++ x ∷ []) ++ ys) o
pushed found x None = refl
pushed found x (Some ys) = ap Some (sym (append_assoc found (x ∷ []) ys))

consed : {A : Type 0} (x : A) (o : Option (List A)) → option_and_then (λ xs. Some (x ∷ xs)) o ≡ option_map (λ xs. x ∷ xs) o
consed x None = refl
consed x (Some xs) = refl

with_first : {A : Type 0} (read : Data → Option A) (v : Value) (vs : List Value) (x : A) → read (view v) ≡ Some x
    → each read (items_view (v ∷ vs)) ≡ option_map (λ xs. x ∷ xs) (each read (items_view vs))
with_first read v vs x e = rw e (consed x (each read (items_view vs)))

-- one more item was read
pub together_more : {A : Type 0} (read : Data → Option A) (found : List A) (vs : List Value) (i : ℕ) (v : Value) (x : A) → i < length vs → v ≡ get_or vs i v → read (view v) ≡ Some x
    → together read found (drop i vs) ≡ together read (found ++ x ∷ []) (drop (suc i) vs)
together_more read found vs i v x below here e =
    ap (together read found) (drop-cons vs i v below ∙ ap (λ w. w ∷ drop (suc i) vs) (sym here))
    ∙ ap (option_map (λ ys. found ++ ys)) (with_first read v (drop (suc i) vs) x e)
    ∙ pushed found x (each read (items_view (drop (suc i) vs)))

without_first : {A : Type 0} (read : Data → Option A) (found : List A) (v : Value) (vs : List Value) → read (view v) ≡ None → together read found (v ∷ vs) ≡ None
without_first read found v vs e = rw e

-- an item stands for nothing
pub together_none : {A : Type 0} (read : Data → Option A) (found : List A) (vs : List Value) (i : ℕ) (v : Value) → i < length vs → v ≡ get_or vs i v → read (view v) ≡ None
    → together read found (drop i vs) ≡ None
together_none read found vs i v below here e =
    ap (together read found) (drop-cons vs i v below ∙ ap (λ w. w ∷ drop (suc i) vs) (sym here))
    ∙ without_first read found v (drop (suc i) vs) e

pub together_last : {A : Type 0} (read : Data → Option A) (found : List A) (vs : List Value) (i : ℕ) → length vs ≤ i → together read found (drop i vs) ≡ Some found
together_last read found vs i past = ap (together read found) (drop_of_length-le vs past) ∙ ap Some (append-nil found)

pub length_items : (vs : List Value) → items_len (items_view vs) ≡ length vs
length_items [] = refl
length_items (v ∷ vs) = ap suc (length_items vs)

pub length_members : (es : List (String Global × Value)) → members_len (members_view es) ≡ length es
length_members [] = refl
length_members (e ∷ es) = ap suc (length_members es)

-- ## Writing

pub tokens_of_items : {A : Type 0} (json : A → Data) (xs : List A) → items_tokens (items_outline (items_of (map json xs))) ≡ tokens_of json xs ++ end_array ∷ []
tokens_of_items json [] = refl
tokens_of_items json (x ∷ xs) =
    ap (λ ts. json_tokens (outline (json x)) ++ ts) (tokens_of_items json xs) ∙ sym (append_assoc (json_tokens (outline (json x))) (tokens_of json xs) (end_array ∷ []))

-- a whole array was written
pub array_written : {A : Type 0} (json : A → Data) (xs : List A) (old first all new : List Token)
    → first ≡ old ++ begin_array ∷ [] → all ≡ first ++ tokens_of json xs → new ≡ all ++ end_array ∷ []
    → new ≡ old ++ json_tokens (outline (list_json json xs))
array_written json xs old first all new a b c =
    c ∙ ap (λ ts. ts ++ end_array ∷ []) (b ∙ ap (λ ts. ts ++ tokens_of json xs) a)
    ∙ append_assoc (old ++ begin_array ∷ []) (tokens_of json xs) (end_array ∷ [])
    ∙ append_assoc old (begin_array ∷ []) (tokens_of json xs ++ end_array ∷ [])
    ∙ ap (λ ts. old ++ begin_array ∷ ts) (sym (tokens_of_items json xs))
