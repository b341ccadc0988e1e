-- The lines of calls in a table.
use Rattle.std.proofs.Common.{◌≡◌, ℕ, zero, suc, ◌+◌, ◌-◌, ◌*◌, ◌<◌, ◌≤◌, Bool, true, false, ◌&&◌, T, eqb, List, [], ◌∷◌, ◌++◌, slice_range}
use Rattle.std.proofs.Common.{flat_map, take, drop, refl, sym, ap, ap₂, drop-drop, inl, inr, arith, eq-zero-or-pos, eqb→eq, ◌∙◌}
use Rattle.std.specs.Fmt.{digits}
use Rattle.told_lines.specs.Texts.{ok_line}
use Rattle.told_lines.specs.declared.whole.TheConstants.{LINES}
use Rattle.std.specs.List.{range_with_len}
use Rattle.std.proofs.Math.Seq.{take-add}
use Rattle.std.proofs.lemmas.List.{flat_map_more}
use lib.Ieee.Fits.{and_l, and_r}

-- whether two lists are the same
are_same : List ℕ → List ℕ → Bool
are_same [] [] = true
are_same [] (y ∷ ys) = false
are_same (x ∷ xs) [] = false
are_same (x ∷ xs) (y ∷ ys) = eqb x y && are_same xs ys

same_lists : (xs ys : List ℕ) → T (are_same xs ys) → xs ≡ ys
unfolding are_same
same_lists [] [] t = refl
same_lists [] (y ∷ ys) t = absurd t
same_lists (x ∷ xs) [] t = absurd t
same_lists (x ∷ xs) (y ∷ ys) t = ap₂ (λ z zs. z ∷ zs) (eqb→eq x y (and_l (eqb x y) (are_same xs ys) t)) (same_lists xs ys (and_r (eqb x y) (are_same xs ys) t))

-- where the line of a place starts
start : ℕ → ℕ
start place = 10 * place + (place - 10)

-- whether the lines of so many calls stand in the table, one behind the other
are_lines : ℕ → Bool
are_lines zero = true
are_lines (suc count) = are_same (slice_range LINES (start count) (start (count + 1))) (ok_line count) && are_lines count

line_below : (count place : ℕ) → T (are_lines count) → place < count → slice_range LINES (start place) (start (place + 1)) ≡ ok_line place
unfolding are_lines are_same
line_below zero place all below = absurd (omega (arith, below))
line_below (suc count) place all below = elim (eq-zero-or-pos (count - place)) [
  | inl none ↦
      let here : place ≡ count = omega (arith, none, below) in
      rw here (same_lists (slice_range LINES (start count) (start (count + 1))) (ok_line count) (and_l _ (are_lines count) all))
  | inr some ↦ line_below count place (and_r _ (are_lines count) all) (omega (arith, some))
]

line_at : (place : ℕ) → place < 64 → slice_range LINES (start place) (start (place + 1)) ≡ ok_line place
unfolding are_lines are_same digits start
line_at place below = line_below 64 place tt below

-- a line between these two places
line_from : (place from to : ℕ) → place < 64 → start place ≡ from → start (place + 1) ≡ to → slice_range LINES from to ≡ ok_line place
line_from place from to below e f = ap₂ (λ a b. slice_range LINES a b) (sym e) (sym f) ∙ line_at place below

pub first_at : (place : ℕ) → place < 10 → slice_range LINES (10 * place) (10 * place + 10) ≡ ok_line place
unfolding start
first_at place below = line_from place (10 * place) (10 * place + 10) (omega (arith, below)) (omega (arith, below)) (omega (arith, below))

pub other_at : (place : ℕ) → 10 ≤ place → place < 64 → slice_range LINES (11 * place - 10) (11 * place + 1) ≡ ok_line place
unfolding start
other_at place above below = line_from place (11 * place - 10) (11 * place + 1) below (omega (arith, above)) (omega (arith, above))

-- a part, and the one behind it
joined : (bytes : List ℕ) (from mid to : ℕ) → from ≤ mid → mid ≤ to → slice_range bytes from to ≡ slice_range bytes from mid ++ slice_range bytes mid to
joined bytes from mid to low high =
    let whole : to - from ≡ (mid - from) + (to - mid) = omega (arith, low, high) in
    let seam : from + (mid - from) ≡ mid = omega (arith, low) in
    ap (λ n. take n (drop from bytes)) whole
    ∙ take-add (mid - from) (to - mid) (drop from bytes)
    ∙ ap (λ l. take (mid - from) (drop from bytes) ++ take (to - mid) l) (drop-drop (mid - from) from bytes ∙ ap (λ n. drop n bytes) seam)

-- the lines of a run
run_from : (count first : ℕ) → first + count ≤ 64 → slice_range LINES (start first) (start (first + count)) ≡ flat_map ok_line (range_with_len first count)
unfolding start
run_from zero first within =
    let none : start (first + 0) - start first ≡ 0 = omega arith in
    ap (λ n. take n (drop (start first) LINES)) none
run_from (suc count) first within =
    let on : first + suc count ≡ first + 1 + count = omega arith in
    ap (λ n. slice_range LINES (start first) (start n)) on
    ∙ joined LINES (start first) (start (first + 1)) (start (first + 1 + count)) (omega arith) (omega arith)
    ∙ ap₂ (λ l m. l ++ m) (line_at first (omega (arith, within))) (run_from count (first + 1) (omega (arith, within)))

pub run_at : (first count : ℕ) → first + count ≤ 64 → slice_range LINES (10 * first + (first - 10)) (10 * (first + count) + (first + count - 10)) ≡ flat_map ok_line (range_with_len first count)
unfolding start
run_at first count within = run_from count first within

-- one number more
counted : (count first : ℕ) → range_with_len first (suc count) ≡ range_with_len first count ++ (first + count) ∷ []
counted zero first = let same : first ≡ first + 0 = omega arith in ap (λ n. n ∷ []) same
counted (suc count) first =
    let same : first + 1 + count ≡ first + suc count = omega arith in
    ap (λ l. first ∷ l) (counted count (first + 1) ∙ ap (λ n. range_with_len (first + 1) count ++ n ∷ []) same)

-- one line more
pub run_more : (old : List ℕ) (first index : ℕ) → first ≤ index
    → (old ++ flat_map ok_line (range_with_len first (index - first))) ++ ok_line index ≡ old
    ++ flat_map ok_line (range_with_len first (index + 1 - first))
run_more old first index above =
    let here : index ≡ first + (index - first) = omega (arith, above) in
    let on : suc (index - first) ≡ index + 1 - first = omega (arith, above) in
    flat_map_more ok_line old (range_with_len first (index - first)) index
    ∙ ap (λ n. old ++ flat_map ok_line (range_with_len first (index - first) ++ n ∷ [])) here
    ∙ ap (λ l. old ++ flat_map ok_line l) (sym (counted (index - first) first))
    ∙ ap (λ n. old ++ flat_map ok_line (range_with_len first n)) on
