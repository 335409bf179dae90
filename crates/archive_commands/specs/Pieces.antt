-- Text that is written in pieces.
use Rattle.std.specs.Prelude.{ℕ, List, [], ◌∷◌, ◌++◌, decimal}
use Rattle.archive_commands.specs.declared.putting.Piece.{Piece}
use Rattle.archive_commands.specs.declared.putting.Piece.TheVariants.{Text, Number}

-- the text of a piece
abbrev pub piece_text : Piece → List ℕ
piece_text (Text text) = text.now
piece_text (Number n) = decimal n

-- the pieces one after the other
abbrev pub pieces_text : List Piece → List ℕ
pieces_text [] = []
pieces_text (p ∷ ps) = piece_text p ++ pieces_text ps
