-- What the writers of a solution append.
use Rattle.std.proofs.Common.{◌≡◌, ℕ, suc, ◌+◌, ◌<◌, List, [], ◌∷◌, ◌++◌, length, take, drop, get_or, sym, ◌∙◌, ap, subst, arith, append_assoc}
use Rattle.std.specs.List.{flat_map}
use Rattle.std.proofs.lemmas.List.{get_or_default, take_more, take-append-drop, length-take-le}
use Rattle.std.proofs.Math.Seq.{drop-cons}
use Rattle.scale_wire.specs.Form.{Form}
use Rattle.scale_wire.specs.Composite.{row_bytes}
use Rattle.scale_wire.specs.Reading.{HasFront}
use Rattle.scale_wire.proofs.ReadLemmas.{front_more, front_behind}
use Rattle.scale_wire.proofs.ListLemmas.{items_front}
use Rattle.compact_solution.proofs.Readers.{row_bytes-append, row_bytes_more}

-- the items so far were written, and a front of the next one, which is read with a default
pub items_front_at : {A : Type 0} (f : A → List ℕ) (xs : List A) (i : ℕ) (d : A) (old mid new : List ℕ) → i < length xs → mid ≡ old ++ flat_map f (take i xs)
    → HasFront (f (get_or xs i d)) mid new → HasFront (flat_map f xs) old new
items_front_at f xs i d old mid new below written has =
    items_front f xs i (get_or xs i d) old mid new below (get_or_default xs i d (get_or xs i d) below) written has

module _ {A : Type 0} (item : ℕ → Form A) (xs : List A) (i : ℕ) (x : A) (below : i < length xs) (here : x ≡ get_or xs i x) where
  rest_of_row : drop i xs ≡ x ∷ drop (suc i) xs
  rest_of_row = drop-cons xs i x below ∙ ap (λ y. y ∷ drop (suc i) xs) (sym here)

  row_split : row_bytes item 0 xs ≡ row_bytes item 0 (take i xs) ++ ((item i).spelling x ++ row_bytes item (suc i) (drop (suc i) xs))
  row_split =
      let at : 0 + length (take i xs) ≡ i = omega (arith, length-take-le i xs (omega (arith, below))) in
      ap (row_bytes item 0) (sym (take-append-drop i xs))
      ∙ (row_bytes-append item 0 (take i xs) (drop i xs)
      ∙ (ap (λ (n : ℕ). row_bytes item 0 (take i xs) ++ row_bytes item n (drop i xs)) at
      ∙ ap (λ (ys : List A). row_bytes item 0 (take i xs) ++ row_bytes item i ys) rest_of_row))

  -- the items of a row so far were written, and a front of the next one
  pub row_front : (old mid new : List ℕ) → mid ≡ old ++ row_bytes item 0 (take i xs) → HasFront ((item i).spelling x) mid new
      → HasFront (row_bytes item 0 xs) old new
  row_front old mid new written has =
      subst (λ (s : List ℕ). HasFront s old new) (sym row_split)
      (front_behind (row_bytes item 0 (take i xs)) ((item i).spelling x ++ row_bytes item (suc i) (drop (suc i) xs)) old mid new written
      (front_more ((item i).spelling x) (row_bytes item (suc i) (drop (suc i) xs)) mid new has))

  -- one item more of a row was written
  pub row_written : (old mid new : List ℕ) → mid ≡ old ++ row_bytes item 0 (take i xs) → new ≡ mid ++ (item i).spelling x
      → new ≡ old ++ row_bytes item 0 (take (i + 1) xs)
  row_written old mid new written more =
      let taken : take (i + 1) xs ≡ take i xs ++ x ∷ [] = take_more xs i x below ∙ ap (λ y. take i xs ++ y ∷ []) (sym here) in
      more ∙ (ap (λ (s : List ℕ). s ++ (item i).spelling x) written
      ∙ (append_assoc old (row_bytes item 0 (take i xs)) ((item i).spelling x)
      ∙ ap (λ (s : List ℕ). old ++ s) (sym (row_bytes_more item (take i xs) x i (length-take-le i xs (omega (arith, below)))) ∙ ap (row_bytes item 0) (sym taken))))
