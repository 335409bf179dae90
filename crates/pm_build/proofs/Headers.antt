-- A header is the same with any bytes after it.
use Rattle.std.proofs.Common.{◌≡◌, ℕ, ◌+◌, ◌<◌, ◌≤◌, List, ◌++◌, length, get_or, sym, ap, ◌∙◌, arith, lit≤, lit<}
use Rattle.std.specs.Int.{w32, w64, from_le_bytes, cast_signed}
use Rattle.std.proofs.lemmas.List.{length-append, take-append-le, get_or_append_left}
use Rattle.pm_header.specs.declared.section_span.SectionSpan.{SectionSpan}
use Rattle.pm_header.specs.declared.header.Header.{Header}
use Rattle.pm_header.specs.Layout.{IsHeader, number_at, position_at, part_at, header_at}
use Rattle.pm_header.proofs.Fields.{same_header}
use Rattle.pm_build.proofs.Pieces.{part_front}

same_part : (p q : SectionSpan) → p.offset ≡ q.offset → p.length ≡ q.length → p ≡ q
same_part p q e_offset e_length = λ i. record { offset = e_offset i; length = e_length i }

module _ (front rest : List ℕ) (whole : length front ≡ 127) where
  number_there : (start : ℕ) → start + 8 ≤ 127 → number_at start front ≡ number_at start (front ++ rest)
  number_there start le = ap (λ (bs : List ℕ). from_le_bytes w64 bs) (sym (part_front front rest start (start + 8) (omega (arith, whole))))

  position_there : (start : ℕ) → start + 4 ≤ 127 → position_at start front ≡ position_at start (front ++ rest)
  position_there start le = ap (λ (bs : List ℕ). cast_signed w32 (from_le_bytes w32 bs)) (sym (part_front front rest start (start + 4) (omega (arith, whole))))

  byte_there : (start : ℕ) → start < 127 → get_or front start 0 ≡ get_or (front ++ rest) start 0
  byte_there start lt = sym (get_or_append_left front rest 0 start (omega (arith, whole)))

  part_there : (start : ℕ) → start + 16 ≤ 127 → part_at start front ≡ part_at start (front ++ rest)
  part_there start le =
      same_part (part_at start front) (part_at start (front ++ rest)) (number_there start (omega arith)) (number_there (start + 8) (omega arith))

  fields_there : header_at front ≡ header_at (front ++ rest)
  unfolding header_at
  fields_there = same_header (header_at front) (header_at (front ++ rest))
      (part_there 8 (lit≤ tt)) (part_there 24 (lit≤ tt)) (part_there 40 (lit≤ tt)) (part_there 56 (lit≤ tt))
      (number_there 72 (lit≤ tt)) (number_there 80 (lit≤ tt)) (number_there 88 (lit≤ tt))
      (byte_there 96 (lit< tt)) (byte_there 97 (lit< tt)) (byte_there 98 (lit< tt)) (byte_there 99 (lit< tt)) (byte_there 100 (lit< tt))
      (byte_there 101 (lit< tt))
      (position_there 102 (lit≤ tt)) (position_there 106 (lit≤ tt)) (position_there 110 (lit≤ tt)) (position_there 114 (lit≤ tt))
      (byte_there 118 (lit< tt)) (position_there 119 (lit≤ tt)) (position_there 123 (lit≤ tt))

  pub header_there : (h : Header) → IsHeader front h → IsHeader (front ++ rest) h
  header_there h is = record {
    whole = omega (arith, whole, length-append front rest);
    magic_is = take-append-le 7 front rest (omega (arith, whole)) ∙ is.magic_is;
    version_is = sym (byte_there 7 (lit< tt)) ∙ is.version_is;
    fields_are = is.fields_are ∙ fields_there;
  }
