-- The progress of bytes towards an empty line after a line.
use Rattle.std.specs.Prelude.{ℕ, List, [], ◌∷◌, ◌==◌, ◌||◌, cond}
use Rattle.httparse.specs.Ascii.{line_feed, carriage_return}
use Rattle.http_requests.specs.declared.lines.Lines.{Lines}
use Rattle.http_requests.specs.declared.lines.Lines.TheVariants.{Blank, Inside, Ended, Empty}

-- after one more byte
abbrev pub after_byte : Lines → ℕ → Lines
after_byte Blank byte = cond (byte == line_feed || byte == carriage_return) Blank Inside
after_byte Inside byte = cond (byte == line_feed) Ended Inside
after_byte Ended byte = cond (byte == line_feed) Empty (cond (byte == carriage_return) Ended Inside)
after_byte Empty byte = Empty

-- after more bytes
abbrev pub after_bytes : Lines → List ℕ → Lines
after_bytes lines [] = lines
after_bytes lines (byte ∷ bytes) = after_bytes (after_byte lines byte) bytes
