-- What a piece of a line stands for.
use Rattle.std.specs.Prelude.{ℕ, List, decimal}
use Rattle.told_lines.specs.Texts.{account_text, number_text}
use Rattle.told_lines.specs.declared.pieces.Piece.{Piece}
use Rattle.told_lines.specs.declared.pieces.Piece.TheVariants.{Words, Number, Detail, Account}

abbrev pub piece_text : Piece → List ℕ
piece_text (Words words) = words.now
piece_text (Number number) = decimal number
piece_text (Detail number) = number_text number
piece_text (Account who) = account_text who
