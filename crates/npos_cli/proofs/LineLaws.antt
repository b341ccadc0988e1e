-- The lines of runs of accepted calls, and of parts of a receipt.
use Rattle.std.proofs.Common.{◌≡◌, ℕ, ◌+◌, List, [], ◌∷◌, ◌++◌, take, drop, map, flat_map, refl, ap, sym, append_assoc, ◌∙◌}
use Rattle.std.specs.List.{range_with_len}
use Rattle.std.proofs.Math.Seq.{take-add}
use Rattle.std.proofs.lemmas.List.Concat.{flat_map-append}
use Rattle.std.proofs.lemmas.List.Folds.{flat_map-map}
use Rattle.std.proofs.lemmas.List.FromFn.{map-range_with_len_more}
use Rattle.block_receipts.specs.declared.line.Line.{Line}
use Rattle.block_receipts.specs.declared.line.Line.TheVariants.{CallOk}
use Rattle.told_lines.specs.Texts.{ok_line}
use Rattle.npos_cli.specs.Chain.{line_text}

-- a run with one line more
pub run_on : (front : List Line) (first count : ℕ) → front ≡ map CallOk (range_with_len first count)
    → front ++ CallOk (first + count) ∷ [] ≡ map CallOk (range_with_len first (count + 1))
run_on front first count run =
    ap (λ l. l ++ CallOk (first + count) ∷ []) run
    ∙ sym (map-range_with_len_more CallOk first count (first + count) refl)

-- the text of a run
pub run_text : (before : List ℕ) (front : List Line) (first count : ℕ) → front ≡ map CallOk (range_with_len first count)
    → before ++ flat_map ok_line (range_with_len first count) ≡ before ++ flat_map line_text front
run_text before front first count run =
    ap (λ l. before ++ l) (sym (ap (flat_map line_text) run ∙ flat_map-map line_text CallOk (range_with_len first count)))

-- the text of the lines up to a place, and of some behind it
pub text_on : (before : List ℕ) (told : List Line) (at count : ℕ)
    → (before ++ flat_map line_text (take at told)) ++ flat_map line_text (take count (drop at told))
    ≡ before ++ flat_map line_text (take (at + count) told)
text_on before told at count =
    append_assoc before (flat_map line_text (take at told)) (flat_map line_text (take count (drop at told)))
    ∙ ap (λ l. before ++ l) (sym (ap (flat_map line_text) (take-add at count told) ∙ flat_map-append line_text (take at told) (take count (drop at told))))
