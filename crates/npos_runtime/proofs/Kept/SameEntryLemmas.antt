-- Entries by rising key are told by what is found at each key.
use Rattle.std.proofs.Common.{◌≡◌, false, List, [], ◌∷◌, Option, Some, None, refl, ap, ap₂, sym, ◌∙◌}
use Rattle.std.specs.BTreeMap.{is_at}
use Rattle.std.specs.Cmp.{IsTotalOrder}
use Rattle.std.specs.List.Sorted.{IsStrictlySortedBy}
use Rattle.std.specs.Map.{keys_of, lookup}
use Rattle.std.specs.Ordering.{is_eq, ordering_reverse}
use Rattle.std.specs.declared.cmp.Ordering.{Ordering}
use Rattle.std.specs.declared.cmp.Ordering.TheVariants.{Less, Equal, Greater}
use Rattle.std.proofs.lemmas.Map.{lookup-none}
use Rattle.std.proofs.lemmas.Map.Entries.{none_below_head}
use Rattle.std.proofs.lemmas.Map.Keys.{sorted_tail}
use Rattle.std.proofs.lemmas.Cmp.{tied_itself}

module _ {K X : Type 0} {R : K → K → Ordering} (o : IsTotalOrder R) (exact : (x y : K) → R x y ≡ Equal → x ≡ y) where
  abbrev found : K → List (K × X) → Option X
  found k entries = lookup (is_at (R k)) entries

  found_head : (e : K × X) (es : List (K × X)) → found e.0 (e ∷ es) ≡ Some e.1
  found_head e es = rw (tied_itself o e.0) refl

  none_under : (k : K) (e : K × X) (es : List (K × X)) → IsStrictlySortedBy R (keys_of (e ∷ es)) → R k e.0 ≡ Less → found k (e ∷ es) ≡ None
  none_under k e es s below = lookup-none (is_at (R k)) (e ∷ es) (none_below_head o k e es s below)

  -- behind the head nothing has its key
  none_behind : (e : K × X) (es : List (K × X)) → IsStrictlySortedBy R (keys_of (e ∷ es)) → found e.0 es ≡ None
  unfolding IsStrictlySortedBy
  none_behind e [] s = refl
  none_behind e (next ∷ es) s = none_under e.0 next es s.1 s.0.0

  found_behind : (k : K) (e : K × X) (es : List (K × X)) → is_eq (R k e.0) ≡ false → found k (e ∷ es) ≡ found k es
  found_behind k e es apart = rw apart refl

  abbrev AreFoundAlike : List (K × X) → List (K × X) → Type 0
  AreFoundAlike es fs = (k : K) → found k es ≡ found k fs

  behind_alike : (e f : K × X) (es fs : List (K × X)) → e.0 ≡ f.0 → IsStrictlySortedBy R (keys_of (e ∷ es)) → IsStrictlySortedBy R (keys_of (f ∷ fs))
      → AreFoundAlike (e ∷ es) (f ∷ fs) → AreFoundAlike es fs
  behind_alike e f es fs keys s t alike k = at (R k e.0) refl where
    at : (r : Ordering) → R k e.0 ≡ r → found k es ≡ found k fs
    at Less is =
        sym (found_behind k e es (ap is_eq is)) ∙ (alike k ∙ found_behind k f fs (ap (λ (q : K). is_eq (R k q)) (sym keys) ∙ ap is_eq is))
    at Greater is =
        sym (found_behind k e es (ap is_eq is)) ∙ (alike k ∙ found_behind k f fs (ap (λ (q : K). is_eq (R k q)) (sym keys) ∙ ap is_eq is))
    at Equal is =
        let key : k ≡ e.0 = exact k e.0 is in
        ap (λ (q : K). found q es) key ∙ (none_behind e es s ∙ sym (ap (λ (q : K). found q fs) (key ∙ keys) ∙ none_behind f fs t))

  -- entries in order with the same finds are the same
  pub entries_same : (es fs : List (K × X)) → IsStrictlySortedBy R (keys_of es) → IsStrictlySortedBy R (keys_of fs)
      → ((k : K) → lookup (is_at (R k)) es ≡ lookup (is_at (R k)) fs) → es ≡ fs
  entries_same [] [] s t alike = refl
  entries_same [] (f ∷ fs) s t alike = let no : None ≡ Some f.1 = alike f.0 ∙ found_head f fs in cc
  entries_same (e ∷ es) [] s t alike = let no : None ≡ Some e.1 = sym (alike e.0) ∙ found_head e es in cc
  entries_same (e ∷ es) (f ∷ fs) s t alike = at (R e.0 f.0) refl (λ rest. entries_same es fs (sorted_tail R e.0 (keys_of es) s) (sorted_tail R f.0 (keys_of fs) t) rest) where
    at : (r : Ordering) → R e.0 f.0 ≡ r → (AreFoundAlike es fs → es ≡ fs) → e ∷ es ≡ f ∷ fs
    at Less is rest =
        let no : None ≡ Some e.1 = sym (none_under e.0 f fs t is) ∙ (sym (alike e.0) ∙ found_head e es) in cc
    at Greater is rest =
        let below : R f.0 e.0 ≡ Less = o.antisymm f.0 e.0 ∙ ap ordering_reverse is in
        let no : None ≡ Some f.1 = sym (none_under f.0 e es s below) ∙ (alike f.0 ∙ found_head f fs) in cc
    at Equal is rest =
        let keys : e.0 ≡ f.0 = exact e.0 f.0 is in
        let values : Some e.1 ≡ Some f.1 =
        sym (found_head e es) ∙ (alike e.0 ∙ (ap (λ (q : K). found q (f ∷ fs)) keys ∙ found_head f fs)) in
        let value : e.1 ≡ f.1 = cc in
        ap₂ (λ (x : K × X) (xs : List (K × X)). x ∷ xs) (λ i. (keys i, value i)) (rest (behind_alike e f es fs keys s t alike))
