-- Where an archive has its contents.
use Rattle.std.specs.Prelude.{ℕ, ◌+◌, List, slice_range}
use Rattle.pm_archive.specs.declared.content_span.ContentSpan.{ContentSpan}

-- the offset after the last byte of a content
abbrev pub end_of_span : ContentSpan → ℕ
end_of_span s = s.offset + s.length

-- the bytes of a content
abbrev pub span_bytes : List ℕ → ContentSpan → List ℕ
span_bytes bytes s = slice_range bytes s.offset (end_of_span s)
