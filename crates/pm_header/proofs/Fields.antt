-- Fields that are written one after the other are each at their offset.
use Rattle.std.proofs.Common.{◌≡◌, ℕ, ℤ, ◌<◌, ◌^◌, List, [], ◌∷◌, ◌++◌, to_z, of_z, refl, sym, ap, ◌∙◌, lit≤}
use Rattle.std.specs.Int.{w32, w64, from_le_bytes, to_le_bytes, cast_signed, cast_unsigned}
use Rattle.std.proofs.lemmas.Nat.{from_le_bytes-to_le_bytes_8, from_le_bytes-to_le_bytes_4}
use Rattle.std.specs.Int.RustNames.{FitsSigned}
use Rattle.std.proofs.Math.Facts.{to_z-of_z, Fits-of_z, Fits-lt-pow}
use Rattle.pm_header.specs.declared.section_span.SectionSpan.{SectionSpan}
use Rattle.pm_header.specs.declared.header.Header.{Header}
use Rattle.pm_header.specs.Layout.{IsHeader, magic, part_at, header_at, little_8}

-- headers with the same fields are equal
pub same_header : (h g : Header) → h.root ≡ g.root → h.metadata ≡ g.metadata → h.leaves ≡ g.leaves → h.tiles ≡ g.tiles → h.addressed ≡ g.addressed
    → h.entries ≡ g.entries → h.contents ≡ g.contents → h.clustered ≡ g.clustered → h.internal ≡ g.internal → h.compression ≡ g.compression → h.kind ≡ g.kind
    → h.min_zoom ≡ g.min_zoom → h.max_zoom ≡ g.max_zoom → h.min_lon ≡ g.min_lon → h.min_lat ≡ g.min_lat → h.max_lon ≡ g.max_lon → h.max_lat ≡ g.max_lat
    → h.centre_zoom ≡ g.centre_zoom → h.centre_lon ≡ g.centre_lon → h.centre_lat ≡ g.centre_lat → h ≡ g
same_header h g e_root e_metadata e_leaves e_tiles e_addressed e_entries e_contents e_clustered e_internal
    e_compression e_kind e_min_zoom e_max_zoom e_min_lon e_min_lat e_max_lon e_max_lat e_centre_zoom e_centre_lon e_centre_lat = λ i. record {
      root = e_root i;
      metadata = e_metadata i;
      leaves = e_leaves i;
      tiles = e_tiles i;
      addressed = e_addressed i;
      entries = e_entries i;
      contents = e_contents i;
      clustered = e_clustered i;
      internal = e_internal i;
      compression = e_compression i;
      kind = e_kind i;
      min_zoom = e_min_zoom i;
      max_zoom = e_max_zoom i;
      min_lon = e_min_lon i;
      min_lat = e_min_lat i;
      max_lon = e_max_lon i;
      max_lat = e_max_lat i;
      centre_zoom = e_centre_zoom i;
      centre_lon = e_centre_lon i;
      centre_lat = e_centre_lat i;
    }

same_part : (p q : SectionSpan) → p.offset ≡ q.offset → p.length ≡ q.length → p ≡ q
same_part p q e_offset e_length = λ i. record { offset = e_offset i; length = e_length i }

abbrev pub little_4 : ℤ → List ℕ
little_4 z = to_le_bytes w32 (cast_unsigned w32 z)

back_8 : (n : ℕ) → n < 2 ^ 64 → n ≡ from_le_bytes w64 (little_8 n)
back_8 n fits = sym (from_le_bytes-to_le_bytes_8 n fits)

back_4 : (z : ℤ) → FitsSigned w32 z → z ≡ cast_signed w32 (from_le_bytes w32 (little_4 z))
back_4 z fits =
    sym (to_z-of_z fits) ∙ ap (cast_signed w32) (sym (from_le_bytes-to_le_bytes_4 (cast_unsigned w32 z) (Fits-lt-pow (Fits-of_z fits))))

abbrev PartFits : SectionSpan → Type 0
PartFits p = (p.offset < 2 ^ 64) × (p.length < 2 ^ 64)

-- each number of a header fits its bytes
pub record HeaderFits (h : Header) : Type 0 where
  pub root : PartFits h.root
  pub metadata : PartFits h.metadata
  pub leaves : PartFits h.leaves
  pub tiles : PartFits h.tiles
  pub addressed : h.addressed < 2 ^ 64
  pub entries : h.entries < 2 ^ 64
  pub contents : h.contents < 2 ^ 64
  pub min_lon : FitsSigned w32 h.min_lon
  pub min_lat : FitsSigned w32 h.min_lat
  pub max_lon : FitsSigned w32 h.max_lon
  pub max_lat : FitsSigned w32 h.max_lat
  pub centre_lon : FitsSigned w32 h.centre_lon
  pub centre_lat : FitsSigned w32 h.centre_lat

-- the fields one after the other
abbrev pub header_bytes : Header → List ℕ
header_bytes h =
    magic ++ 3 ∷ [] ++ little_8 h.root.offset ++ little_8 h.root.length ++ little_8 h.metadata.offset ++ little_8 h.metadata.length
    ++ little_8 h.leaves.offset ++ little_8 h.leaves.length ++ little_8 h.tiles.offset ++ little_8 h.tiles.length
    ++ little_8 h.addressed ++ little_8 h.entries ++ little_8 h.contents ++ h.clustered ∷ h.internal ∷ h.compression ∷ h.kind ∷ []
    ++ h.min_zoom ∷ h.max_zoom ∷ [] ++ little_4 h.min_lon ++ little_4 h.min_lat ++ little_4 h.max_lon ++ little_4 h.max_lat
    ++ h.centre_zoom ∷ [] ++ little_4 h.centre_lon ++ little_4 h.centre_lat

laid_at : (h : Header) → HeaderFits h → h ≡ header_at (header_bytes h)
unfolding header_at
laid_at h fits = same_header h (header_at (header_bytes h))
    (same_part h.root (part_at 8 (header_bytes h)) (back_8 h.root.offset fits.root.0) (back_8 h.root.length fits.root.1))
    (same_part h.metadata (part_at 24 (header_bytes h)) (back_8 h.metadata.offset fits.metadata.0) (back_8 h.metadata.length fits.metadata.1))
    (same_part h.leaves (part_at 40 (header_bytes h)) (back_8 h.leaves.offset fits.leaves.0) (back_8 h.leaves.length fits.leaves.1))
    (same_part h.tiles (part_at 56 (header_bytes h)) (back_8 h.tiles.offset fits.tiles.0) (back_8 h.tiles.length fits.tiles.1))
    (back_8 h.addressed fits.addressed)
    (back_8 h.entries fits.entries)
    (back_8 h.contents fits.contents)
    refl
    refl
    refl
    refl
    refl
    refl
    (back_4 h.min_lon fits.min_lon)
    (back_4 h.min_lat fits.min_lat)
    (back_4 h.max_lon fits.max_lon)
    (back_4 h.max_lat fits.max_lat)
    refl
    (back_4 h.centre_lon fits.centre_lon)
    (back_4 h.centre_lat fits.centre_lat)

laid_out : (h : Header) → HeaderFits h → IsHeader (header_bytes h) h
laid_out h fits = record { whole = lit≤ tt; magic_is = refl; version_is = refl; fields_are = laid_at h fits }

pub is_laid_out : (h : Header) (bytes : List ℕ) → HeaderFits h → bytes ≡ header_bytes h → IsHeader bytes h
is_laid_out h bytes fits e = rw e (laid_out h fits)

-- ---- one field after another

-- the bytes go on with a field
pub on : {front before after : List ℕ} (field : List ℕ) → after ≡ before ++ field → before ≡ front → after ≡ front ++ field
on field e so_far = e ∙ ap (λ (bs : List ℕ). bs ++ field) so_far

-- with two numbers
pub on_part : {front before after : List ℕ} (first second : List ℕ) → after ≡ before ++ first ++ second → before ≡ front → after ≡ front ++ first ++ second
on_part first second e so_far = e ∙ ap (λ (bs : List ℕ). bs ++ first ++ second) so_far

-- with a signed number
pub on_4 : {front before after : List ℕ} (z : ℤ) → FitsSigned w32 z → after ≡ before ++ little_4 (to_z w32 (of_z w32 z)) → before ≡ front
    → after ≡ front ++ little_4 z
on_4 {front} z fits e so_far =
    e ∙ ap (λ (bs : List ℕ). bs ++ little_4 (to_z w32 (of_z w32 z))) so_far ∙ ap (λ (x : ℤ). front ++ little_4 x) (to_z-of_z fits)
