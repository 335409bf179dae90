-- The sections of an archive.
use Rattle.std.specs.Prelude.{ℕ, ◌+◌, ◌≤◌, List, length, slice_range}
use Rattle.pm_header.specs.declared.section_span.SectionSpan.{SectionSpan}
use Rattle.pm_header.specs.declared.header.Header.{Header}
use Rattle.pm_header.specs.Compression.{IsPlain}
use Rattle.pm_header.specs.Layout.{IsHeader}
use Rattle.pm_archive.specs.declared.limits.TheConstants.{OPENING_END}

-- the offset after the last byte of a section
abbrev pub end_of : SectionSpan → ℕ
end_of p = p.offset + p.length

-- the bytes of a section
abbrev pub section_bytes : SectionSpan → List ℕ → List ℕ
section_bytes p bytes = slice_range bytes p.offset (end_of p)

-- The bytes begin with a header, and each section that it names is inside them, the root directory also inside the first `OPENING_END`
-- bytes. The directories aren't compressed.
pub record HasSections (bytes : List ℕ) (h : Header) : Type 0 where
  pub header : IsHeader bytes h
  pub root_inside : end_of h.root ≤ length bytes
  pub root_early : end_of h.root ≤ OPENING_END
  pub metadata_inside : end_of h.metadata ≤ length bytes
  pub leaves_inside : end_of h.leaves ≤ length bytes
  pub tiles_inside : end_of h.tiles ≤ length bytes
  pub plain : IsPlain h.internal
