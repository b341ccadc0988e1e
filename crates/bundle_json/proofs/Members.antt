-- The members of an object, one of which goes.
use Rattle.std.proofs.Common.{◌≡◌, ◌≢◌, ℕ, List, [], ◌∷◌, Bool, true, false, Some, option_map, String, Global, string_bytes, cond, refl, sym, ap, ◌∙◌}
use Rattle.std.proofs.lemmas.Map.Text.{is_eq-slice_cmp}
use Rattle.std.proofs.lemmas.Slice.Eq.{bytes_eq-Decides}
use Rattle.std.specs.Cmp.Lexicographic.{slice_cmp}
use Rattle.std.specs.Map.{lookup, remove_entry}
use Rattle.std.specs.Ordering.{nat_cmp}
use Rattle.std.specs.BTreeMap.{is_at}
use Rattle.serde_json.specs.Find.{get_member}
use Rattle.serde_json.specs.View.{view, members_view}
use Rattle.serde_json.specs.declared.value.Value.{Value}
use Rattle.serde_json.proofs.Views.{view-lookup}

abbrev named : List ℕ → String Global → Bool
named name = is_at (λ k. slice_cmp nat_cmp name (string_bytes k))

name_of : (name : List ℕ) (key : String Global) → named name key ≡ true → name ≡ string_bytes key
name_of name key h = (bytes_eq-Decides name (string_bytes key)).0 (sym (is_eq-slice_cmp name (string_bytes key)) ∙ h)

found_still : (gone other : List ℕ) → other ≢ gone → (es : List (String Global × Value))
    → lookup (named other) (remove_entry (named gone) es) ≡ lookup (named other) es
found_still gone other differ [] = refl
found_still gone other differ (e ∷ es) =
    step (named gone e.0) (named other e.0) refl refl (found_still gone other differ es)
  where
    step : (a b : Bool) → named gone e.0 ≡ a → named other e.0 ≡ b
        → lookup (named other) (remove_entry (named gone) es) ≡ lookup (named other) es
        → lookup (named other) (cond a es (e ∷ remove_entry (named gone) es)) ≡ cond b (Some e.1) (lookup (named other) es)
    step true true p q rest = absurd (differ (name_of other e.0 q ∙ sym (name_of gone e.0 p)))
    step true false p q rest = refl
    step false true p q rest = rw q refl
    step false false p q rest = rw q rest

-- what is under other keys stays
pub others_stay : (gone other : List ℕ) → other ≢ gone → (es : List (String Global × Value))
    → get_member other (members_view (remove_entry (named gone) es)) ≡ get_member other (members_view es)
others_stay gone other differ es =
    sym (view-lookup other (remove_entry (named gone) es))
    ∙ ap (option_map view) (found_still gone other differ es)
    ∙ view-lookup other es
