-- Spans of bytes.
use Rattle.std.specs.Prelude.{ℕ, ◌-◌, List, map, take, drop}
use Rattle.mvt_write.specs.declared.span.Span.{Span}

-- the bytes of a span
abbrev pub spanned : List ℕ → Span → List ℕ
spanned bytes span = take (span.end - span.start) (drop span.start bytes)

-- the bytes of each span
abbrev pub each_spanned : List ℕ → List Span → List (List ℕ)
each_spanned bytes spans = map (spanned bytes) spans
