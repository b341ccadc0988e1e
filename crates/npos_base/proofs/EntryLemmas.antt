-- Entries by rising key, after one is put in.
use Rattle.std.proofs.Common.{◌≡◌, false, cond, List, [], ◌∷◌, ◌++◌, refl, ap, sym, ◌∙◌, Some, None}
use Rattle.std.specs.BTreeMap.{insert_entry, is_at}
use Rattle.std.specs.Cmp.{IsTotalOrder}
use Rattle.std.specs.List.{AllByRecursion}
use Rattle.std.specs.List.Sorted.{IsStrictlySortedBy}
use Rattle.std.specs.Map.{keys_of, lookup}
use Rattle.std.specs.Ordering.{match_ordering, is_eq, ordering_reverse}
use Rattle.std.specs.declared.cmp.Ordering.{Ordering}
use Rattle.std.specs.declared.cmp.Ordering.TheVariants.{Less, Equal, Greater}
use Rattle.std.proofs.lemmas.Map.{lookup-none}
use Rattle.std.proofs.lemmas.Map.Entries.{none_below_head}
use Rattle.std.proofs.lemmas.Map.Keys.{sorted_head, sorted_tail}
use Rattle.std.proofs.lemmas.Cmp.{tied_itself, alike_right}

module _ {K X : Type 0} {R : K → K → Ordering} (o : IsTotalOrder R) (k : K) (v : X) where
  all_at : (P : K → Type 0) (e : K × X) (es : List (K × X)) (r : Ordering) → P k → AllByRecursion P (keys_of (e ∷ es)) → AllByRecursion P (keys_of (insert_entry R es k v))
      → AllByRecursion P (keys_of (match_ordering r ((k, v) ∷ e ∷ es) ((e.0, v) ∷ es) (e ∷ insert_entry R es k v)))
  all_at P e es Less here all rest = (here, all)
  all_at P e es Equal here all rest = all
  all_at P e es Greater here all rest = (all.0, rest)

  all_put : (P : K → Type 0) (es : List (K × X)) → P k → AllByRecursion P (keys_of es) → AllByRecursion P (keys_of (insert_entry R es k v))
  all_put P [] here all = (here, all)
  all_put P (e ∷ es) here all = all_at P e es (R k e.0) here all (all_put P es here all.1)

  below_all : (e : K) (ks : List K) → R k e ≡ Less → AllByRecursion (λ y. R e y ≡ Less) ks → AllByRecursion (λ y. R k y ≡ Less) ks
  below_all e [] below all = all
  below_all e (y ∷ ys) below all = (o.trans k e y below all.0, below_all e ys below all.1)

  sorted_at : (e : K × X) (es : List (K × X)) (r : Ordering) → R k e.0 ≡ r → IsStrictlySortedBy R (keys_of (e ∷ es)) → IsStrictlySortedBy R (keys_of (insert_entry R es k v))
      → IsStrictlySortedBy R (keys_of (match_ordering r ((k, v) ∷ e ∷ es) ((e.0, v) ∷ es) (e ∷ insert_entry R es k v)))
  unfolding IsStrictlySortedBy
  sorted_at e es Less is s rest = ((is, below_all e.0 (keys_of es) is s.0), s)
  sorted_at e es Equal is s rest = s
  sorted_at e es Greater is s rest = (all_put (λ y. R e.0 y ≡ Less) es (o.antisymm e.0 k ∙ ap ordering_reverse is) s.0, rest)

  -- the keys stay in order
  pub sorted_put : (es : List (K × X)) → IsStrictlySortedBy R (keys_of es) → IsStrictlySortedBy R (keys_of (insert_entry R es k v))
  unfolding IsStrictlySortedBy
  sorted_put [] s = (tt, tt)
  sorted_put (e ∷ es) s = sorted_at e es (R k e.0) refl s (sorted_put es s.1)

  same_at : (e : K × X) (es : List (K × X)) (r : Ordering) → R k e.0 ≡ r → lookup (is_at (R k)) (insert_entry R es k v) ≡ Some v
      → lookup (is_at (R k)) (match_ordering r ((k, v) ∷ e ∷ es) ((e.0, v) ∷ es) (e ∷ insert_entry R es k v)) ≡ Some v
  same_at e es Less is rest = rw (tied_itself o k) refl
  same_at e es Equal is rest = rw is refl
  same_at e es Greater is rest = rw is rest

  -- the key has what was put there
  pub lookup_put : (es : List (K × X)) → lookup (is_at (R k)) (insert_entry R es k v) ≡ Some v
  lookup_put [] = rw (tied_itself o k) refl
  lookup_put (e ∷ es) = same_at e es (R k e.0) refl (lookup_put es)

  other_at : (q : K) (e : K × X) (es : List (K × X)) (r : Ordering) → is_eq (R q k) ≡ false → R k e.0 ≡ r → lookup (is_at (R q)) (insert_entry R es k v) ≡ lookup (is_at (R q)) es
      → lookup (is_at (R q)) (match_ordering r ((k, v) ∷ e ∷ es) ((e.0, v) ∷ es) (e ∷ insert_entry R es k v)) ≡ lookup (is_at (R q)) (e ∷ es)
  other_at q e es Less apart is rest = rw apart refl
  other_at q e es Equal apart is rest = rw (ap is_eq (sym (alike_right o k e.0 q is)) ∙ apart) refl
  other_at q e es Greater apart is rest = ap (λ l. cond (is_eq (R q e.0)) (Some e.1) l) rest

  -- another key has what it had
  pub lookup_other : (q : K) (es : List (K × X)) → is_eq (R q k) ≡ false → lookup (is_at (R q)) (insert_entry R es k v) ≡ lookup (is_at (R q)) es
  lookup_other q [] apart = rw apart refl
  lookup_other q (e ∷ es) apart = other_at q e es (R k e.0) apart refl (lookup_other q es apart)

  undone_at : (e : K × X) (es : List (K × X)) (row : X) (r : Ordering) → R k e.0 ≡ r → IsStrictlySortedBy R (keys_of (e ∷ es)) → lookup (is_at (R k)) (e ∷ es) ≡ Some row
      → (lookup (is_at (R k)) es ≡ Some row → insert_entry R (insert_entry R es k v) k row ≡ es)
      → insert_entry R (match_ordering r ((k, v) ∷ e ∷ es) ((e.0, v) ∷ es) (e ∷ insert_entry R es k v)) k row ≡ e ∷ es
  undone_at e es row Less is s found rest =
      let none : lookup (is_at (R k)) (e ∷ es) ≡ None = lookup-none (is_at (R k)) (e ∷ es) (none_below_head o k e es s is) in cc
  undone_at e es row Equal is s found rest =
      let here : Some e.1 ≡ Some row = rw is at found in
      let same : e.1 ≡ row = cc in
      rw is (ap (λ (x : X). (e.0, x) ∷ es) (sym same))
  undone_at e es row Greater is s found rest = rw is (ap (λ l. e ∷ l) (rest (rw is at found)))

  -- what was there, put back, undoes the change
  pub put_back : (es : List (K × X)) (row : X) → IsStrictlySortedBy R (keys_of es) → lookup (is_at (R k)) es ≡ Some row
      → insert_entry R (insert_entry R es k v) k row ≡ es
  put_back [] row s found = cc
  put_back (e ∷ es) row s found =
      undone_at e es row (R k e.0) refl s found (λ there. put_back es row (sorted_tail R e.0 (keys_of es) s) there)

  all_behind : (P : K → Type 0) (es rest : List (K × X)) → AllByRecursion P (keys_of (es ++ (k, v) ∷ rest)) → P k
  all_behind P [] rest all = all.0
  all_behind P (e ∷ es) rest all = all_behind P es rest all.1

  -- a key that is above all others is put behind them
  pub last_put : (es rest : List (K × X)) → IsStrictlySortedBy R (keys_of (es ++ (k, v) ∷ rest)) → insert_entry R es k v ≡ es ++ (k, v) ∷ []
  last_put [] rest s = refl
  last_put (e ∷ es) rest s =
      let above : R k e.0 ≡ Greater =
      o.antisymm k e.0 ∙ ap ordering_reverse (all_behind (λ y. R e.0 y ≡ Less) es rest (sorted_head R e.0 (keys_of (es ++ (k, v) ∷ rest)) s)) in
      rw above (ap (λ l. e ∷ l) (last_put es rest (sorted_tail R e.0 (keys_of (es ++ (k, v) ∷ rest)) s)))

  -- and was not among them
  pub last_new : (es rest : List (K × X)) → IsStrictlySortedBy R (keys_of (es ++ (k, v) ∷ rest)) → lookup (is_at (R k)) es ≡ None
  last_new [] rest s = refl
  last_new (e ∷ es) rest s =
      let above : R k e.0 ≡ Greater =
      o.antisymm k e.0 ∙ ap ordering_reverse (all_behind (λ y. R e.0 y ≡ Less) es rest (sorted_head R e.0 (keys_of (es ++ (k, v) ∷ rest)) s)) in
      rw above (last_new es rest (sorted_tail R e.0 (keys_of (es ++ (k, v) ∷ rest)) s))
