use Rattle.std.proofs.Common.{take, sym, subst}
use Rattle.std.specs.List.{flat_map}
use Rattle.told_lines.specs.Texts.{Keeps}
use Rattle.told_lines.specs.Pieces.{piece_text}
use Rattle.told_lines.proofs.KeptLemmas.{kept_behind, kept_on}
use Rattle.told_lines.proofs.pieces.tell.Goals as goal

pub returns-in_err-tell_piece-clause-kept : goal.returns-in_err-tell_piece-clause-kept
returns-in_err-tell_piece-clause-kept c =
    let before = c.args.text.now.items in
    kept_on before c.loop-piece.text.items c.tell_piece.new.text.items
    (subst (Keeps before) (sym c.loop-piece.invariant)
    (kept_behind before (flat_map piece_text (take c.loop-piece.piece-index c.args.pieces.now))))
    c.tell_piece.ensures.kept
