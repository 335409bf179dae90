-- The header and the root directory of an archive are those of its bytes, and bytes that have them have no fault.
use Rattle.std.proofs.Common.{refl, ◌≡◌, ◌≢◌, true, OnOk, ℕ, ◌+◌, ◌-◌, ◌<◌, ◌≤◌, List, length, take, drop, slice_range, slice_index, Result, Ok, Err}
use Rattle.std.proofs.Common.{inl, inr, sym, ap, subst, ◌∙◌, arith, lit≤, lit<}
use Rattle.std.specs.Int.{w32, w64, from_le_bytes, cast_signed}
use Rattle.std.specs.Result.{is_ok}
use Rattle.std.proofs.lemmas.List.{get_or-take, take-take, drop-take}
use Rattle.pm_header.specs.declared.header.TheConstants.{HEADER_BYTES}
use Rattle.pm_header.specs.declared.header.Header.{Header}
use Rattle.pm_header.specs.Compression.{IsPlain}
use Rattle.pm_header.specs.Layout.{IsHeader, magic, header_at, part_at, number_at, position_at}
use Rattle.pm_header.proofs.Fields.{same_header}
use Rattle.pm_directory.specs.declared.entry.DirectoryEntry.{DirectoryEntry}
use Rattle.pm_directory.specs.Directory.{IsDirectory}
use Rattle.pm_directory.specs.declared.fault.DirectoryFault.{DirectoryFault}
use Rattle.pm_directory.specs.Reading.{directory_at}
use Rattle.pm_directory.proofs.DirectoryLaws.{directory_ok, directory_only}
use Rattle.pm_directory.proofs.Laws.{one_directory}
use Rattle.pm_archive.specs.declared.fault.ArchiveFault.{ArchiveFault}
use Rattle.pm_archive.specs.declared.fault.ArchiveFault.TheVariants as faults
use Rattle.pm_archive.specs.Answers.{IsOutside, UnlessOutside}
use Rattle.pm_archive.specs.declared.fault.Section.{Section}
use Rattle.pm_archive.specs.Sections.{HasSections, section_bytes}
use Rattle.pm_archive.specs.Reading.{ArePlaced, IsMisplaced, OpeningHas, directory_or_fault}
use Rattle.reader.specs.Reading.{Read}
use Rattle.reader.proofs.Steps.{same_fault, not_both}
use Rattle.pm_archive.proofs.ListedSteps.{read_ok, is_outside}

-- ---- the bytes of a header

-- the bytes in front have the same bytes at their offsets
range_of_front : (bytes : List ℕ) (n a b : ℕ) → a ≤ b → b ≤ n → slice_range (take n bytes) a b ≡ slice_range bytes a b
range_of_front bytes n a b ab bn =
    let whole : a + (n - a) ≡ n = omega arith in
    let room : b - a ≤ n - a = omega arith in
    ap (λ (k : ℕ). take (b - a) (drop a (take k bytes))) (sym whole)
    ∙ ap (take (b - a)) (drop-take a (n - a) bytes)
    ∙ take-take (b - a) (n - a) (drop a bytes) room

number_of_front : (bytes : List ℕ) (offset : ℕ) → offset + 8 ≤ HEADER_BYTES → number_at offset (take HEADER_BYTES bytes) ≡ number_at offset bytes
number_of_front bytes offset inside = ap (from_le_bytes w64) (range_of_front bytes HEADER_BYTES offset (offset + 8) (omega arith) inside)

position_of_front : (bytes : List ℕ) (offset : ℕ) → offset + 4 ≤ HEADER_BYTES → position_at offset (take HEADER_BYTES bytes) ≡ position_at offset bytes
position_of_front bytes offset inside = ap (λ (ns : List ℕ). cast_signed w32 (from_le_bytes w32 ns))
    (range_of_front bytes HEADER_BYTES offset (offset + 4) (omega arith) inside)

part_of_front : (bytes : List ℕ) (offset : ℕ) → offset + 16 ≤ HEADER_BYTES → part_at offset (take HEADER_BYTES bytes) ≡ part_at offset bytes
part_of_front bytes offset inside =
    let first = number_of_front bytes offset (omega arith) in
    let second = number_of_front bytes (offset + 8) (omega arith) in
    λ i. record { offset = first i; length = second i }

pub byte_of_front : (bytes : List ℕ) (offset : ℕ) → offset < HEADER_BYTES → slice_index (take HEADER_BYTES bytes) offset ≡ slice_index bytes offset
byte_of_front bytes offset inside = get_or-take HEADER_BYTES bytes offset 0 inside

pub header_of_front : (bytes : List ℕ) → header_at (take HEADER_BYTES bytes) ≡ header_at bytes
unfolding header_at
header_of_front bytes = same_header (header_at (take HEADER_BYTES bytes)) (header_at bytes)
    (part_of_front bytes 8 (lit≤ tt))
    (part_of_front bytes 24 (lit≤ tt))
    (part_of_front bytes 40 (lit≤ tt))
    (part_of_front bytes 56 (lit≤ tt))
    (number_of_front bytes 72 (lit≤ tt))
    (number_of_front bytes 80 (lit≤ tt))
    (number_of_front bytes 88 (lit≤ tt))
    (byte_of_front bytes 96 (lit< tt))
    (byte_of_front bytes 97 (lit< tt))
    (byte_of_front bytes 98 (lit< tt))
    (byte_of_front bytes 99 (lit< tt))
    (byte_of_front bytes 100 (lit< tt))
    (byte_of_front bytes 101 (lit< tt))
    (position_of_front bytes 102 (lit≤ tt))
    (position_of_front bytes 106 (lit≤ tt))
    (position_of_front bytes 110 (lit≤ tt))
    (position_of_front bytes 114 (lit≤ tt))
    (byte_of_front bytes 118 (lit< tt))
    (position_of_front bytes 119 (lit≤ tt))
    (position_of_front bytes 123 (lit≤ tt))

pub magic_of_front : (bytes : List ℕ) → take 7 (take HEADER_BYTES bytes) ≡ take 7 bytes
magic_of_front bytes = take-take 7 HEADER_BYTES bytes (lit≤ tt)

-- the header of the first bytes is that of all
pub whole_header : (bytes : List ℕ) (h : Header) → HEADER_BYTES ≤ length bytes → IsHeader (take HEADER_BYTES bytes) h → IsHeader bytes h
whole_header bytes h long is = record {
  whole = long;
  magic_is = sym (magic_of_front bytes) ∙ is.magic_is;
  version_is = sym (byte_of_front bytes 7 (lit< tt)) ∙ is.version_is;
  fields_are = is.fields_are ∙ header_of_front bytes;
}

-- what a read gave is the first bytes
pub front_read : {X E : Type 0} (r : Result X E) (into bytes : List ℕ) → is_ok r ≡ true → OnOk r (into ≡ slice_range bytes 0 HEADER_BYTES)
    → into ≡ take HEADER_BYTES bytes
front_read (Ok x) into bytes e gives = gives
front_read (Err d) into bytes e gives = absurd (cc)

-- other first bytes than those of an archive
pub other_front : (bytes into : List ℕ) → HEADER_BYTES ≤ length bytes → into ≡ take HEADER_BYTES bytes → take 7 into ≢ magic → OpeningHas bytes faults.Magic
other_front bytes into long front other =
    OpeningHas.other_magic refl long (λ is. other (ap (take 7) front ∙ magic_of_front bytes ∙ is))

-- another version
pub version_of_front : (bytes into : List ℕ) (n : ℕ) → HEADER_BYTES ≤ length bytes → into ≡ take HEADER_BYTES bytes → take 7 into ≡ magic
    → slice_index into 7 ≡ n → n ≢ 3 → OpeningHas bytes (faults.Version n)
version_of_front bytes into n long front is at other =
    let byte : slice_index bytes 7 ≡ n = sym (byte_of_front bytes 7 (lit< tt)) ∙ ap (λ (bs : List ℕ). slice_index bs 7) (sym front) ∙ at in
    OpeningHas.other_version (ap (λ (v : ℕ). faults.Version v) (sym byte)) long (sym (magic_of_front bytes) ∙ ap (take 7) (sym front) ∙ is)
    (λ (e : slice_index bytes 7 ≡ 3). other (sym byte ∙ e))

-- ---- what there is once

pub one_header : (bytes : List ℕ) (h g : Header) → IsHeader bytes h → IsHeader bytes g → h ≡ g
one_header bytes h g a b = a.fields_are ∙ sym b.fields_are

not_misplaced : (count : ℕ) (h : Header) (s : Section) → ArePlaced count h → IsMisplaced count h s → ⊥
not_misplaced count h s placed (IsMisplaced.root_misplaced e past) =
    elim past [ inl p ↦ absurd (omega (arith, placed.0, p)) | inr p ↦ absurd (omega (arith, placed.1, p)) ]
not_misplaced count h s placed (IsMisplaced.metadata_misplaced e r t past) = absurd (omega (arith, placed.2))
not_misplaced count h s placed (IsMisplaced.leaves_misplaced e r t m past) = absurd (omega (arith, placed.3))
not_misplaced count h s placed (IsMisplaced.tiles_misplaced e r t m l past) = absurd (omega (arith, placed.4))

pub are_placed : (bytes : List ℕ) (h : Header) → HasSections bytes h → ArePlaced (length bytes) h
are_placed bytes h has = (has.root_inside, has.root_early, has.metadata_inside, has.leaves_inside, has.tiles_inside)

-- the faults after a header, by the number of bytes
module _ (bytes : List ℕ) (h : Header) (count : ℕ) (all : count ≡ length bytes) (is : IsHeader bytes h) where
  pub misplaced_fault : (s : Section) → IsMisplaced count h s → OpeningHas bytes (faults.Section s)
  misplaced_fault s at = OpeningHas.misplaced h s refl is (subst (λ (n : ℕ). IsMisplaced n h s) all at)

  pub compressed_fault : ArePlaced count h → ¬ IsPlain h.internal → OpeningHas bytes (faults.Compressed h.internal)
  compressed_fault placed other = OpeningHas.compressed h refl is (subst (λ (n : ℕ). ArePlaced n h) all placed) other

  pub has_sections : ArePlaced count h → IsPlain h.internal → HasSections bytes h
  has_sections placed plain = record {
    header = is;
    root_inside = omega (arith, placed.0);
    root_early = placed.1;
    metadata_inside = omega (arith, placed.2);
    leaves_inside = omega (arith, placed.3);
    tiles_inside = omega (arith, placed.4);
    plain = plain;
  }

-- ---- the root directory

pub root_read : (bytes : List ℕ) (h : Header) (root : List DirectoryEntry)
    → directory_or_fault h.root.offset (directory_at (section_bytes h.root bytes)) ≡ Ok root → IsDirectory (section_bytes h.root bytes) root
root_read bytes h root e = directory_ok (section_bytes h.root bytes) root (read_ok h.root.offset (directory_at (section_bytes h.root bytes)) root e)

refused : (offset : ℕ) (r : Read DirectoryFault (List DirectoryEntry)) (d : ArchiveFault) → directory_or_fault offset r ≡ Err d → d ≡ faults.Directory offset
refused offset (Ok es) d e = absurd (not_both es d e)
refused offset (Err f) d e = sym (same_fault {A = List DirectoryEntry} (faults.Directory offset) d e)

root_fault : (bytes : List ℕ) (h : Header) (d : ArchiveFault) → HasSections bytes h
    → directory_or_fault h.root.offset (directory_at (section_bytes h.root bytes)) ≡ Err d → OpeningHas bytes d
root_fault bytes h d has e =
    OpeningHas.no_directory h (refused h.root.offset (directory_at (section_bytes h.root bytes)) d e) has
    (λ (es : List DirectoryEntry) (is : IsDirectory (section_bytes h.root bytes) es). not_both es d
    (sym (ap (directory_or_fault h.root.offset) (directory_only (section_bytes h.root bytes) es is)) ∙ e))

pub root_refused : (bytes : List ℕ) (h : Header) (d : ArchiveFault) → HasSections bytes h
    → UnlessOutside (λ fault. directory_or_fault h.root.offset (directory_at (section_bytes h.root bytes)) ≡ Err fault) d
    → UnlessOutside (OpeningHas bytes) d
root_refused bytes h d has e inside = root_fault bytes h d has (e inside)

-- bytes with sections and a root directory are opened
opens : (bytes : List ℕ) (h : Header) (root : List DirectoryEntry) (d : ArchiveFault) → HasSections bytes h → IsDirectory (section_bytes h.root bytes) root
    → OpeningHas bytes d → ⊥
opens bytes h root d has dir (OpeningHas.is_short e short) = absurd (omega (arith, has.header.whole))
opens bytes h root d has dir (OpeningHas.other_magic e long other) = other has.header.magic_is
opens bytes h root d has dir (OpeningHas.other_version e long m other) = other has.header.version_is
opens bytes h root d has dir (OpeningHas.misplaced g s e is at) =
    not_misplaced (length bytes) h s (are_placed bytes h has) (subst (λ (x : Header). IsMisplaced (length bytes) x s) (one_header bytes g h is has.header) at)
opens bytes h root d has dir (OpeningHas.compressed g e is placed packed) =
    packed (subst (λ (x : Header). IsPlain x.internal) (sym (one_header bytes g h is has.header)) has.plain)
opens bytes h root d has dir (OpeningHas.no_directory g e others none) =
    none root (subst (λ (x : Header). IsDirectory (section_bytes x.root bytes) root) (one_header bytes h g has.header others.header) dir)

pub opened_once : (bytes : List ℕ) (g h : Header) (some others : List DirectoryEntry) → HasSections bytes g → IsDirectory (section_bytes g.root bytes) some
    → HasSections bytes h → IsDirectory (section_bytes h.root bytes) others → (g ≡ h) × (some ≡ others)
opened_once bytes g h some others a dir b other =
    let same = one_header bytes g h a.header b.header in
    (same, one_directory (section_bytes h.root bytes) some others (subst (λ (x : Header). IsDirectory (section_bytes x.root bytes) some) same dir) other)

pub opened_unless : (bytes : List ℕ) (h : Header) (root : List DirectoryEntry) (d : ArchiveFault) → UnlessOutside (OpeningHas bytes) d → HasSections bytes h
    → IsDirectory (section_bytes h.root bytes) root → IsOutside d
opened_unless bytes h root d fault has dir = is_outside (OpeningHas bytes) d fault (opens bytes h root d has dir)
