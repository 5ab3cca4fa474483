-- The text of the pieces of a line, and of what an answer is made of.
use Rattle.std.specs.Prelude.{ℕ, List}
use Rattle.std.specs.List.{flat_map}
use Rattle.std.specs.Fmt.{decimal}
use Rattle.printing.specs.Printed.{quoted}
use Rattle.printing.specs.declared.piece.Piece.{Piece}
use Rattle.printing.specs.declared.piece.Piece.TheVariants as pieces

-- the text of a piece
abbrev pub piece_text : Piece → List ℕ
piece_text (pieces.Text text) = text.now
piece_text (pieces.Octets octets) = octets.now
piece_text (pieces.Quoted octets) = quoted octets.now
piece_text (pieces.Number n) = decimal n

-- the texts of pieces in turn
abbrev pub pieces_text : List Piece → List ℕ
pieces_text = flat_map piece_text
