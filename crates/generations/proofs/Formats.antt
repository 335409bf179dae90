-- A format's sector has the version and the count of sectors at their offsets.
use Rattle.std.proofs.Common.{◌≡◌, ◌↔◌, inl, inr, ℕ, ◌<◌, ◌^◌, List, Some, None, take, sym, ap, subst, ◌∙◌, arith}
use Rattle.std.proofs.lemmas.Nat.{from_le_bytes-to_le_bytes_4, from_le_bytes-to_le_bytes_8}
use Rattle.generations.specs.Sectors.{disk_mark, IsVersion, IsFormatSector, version_from, format_sector, number_from, HasMark}

-- the version and the count are read back
version_back : (version n : ℕ) → version < 2 ^ 32 → version_from (format_sector version n) ≡ version
unfolding disk_mark format_sector
version_back version n fits = from_le_bytes-to_le_bytes_4 version fits

version_fits : (version : ℕ) → IsVersion version → version < 2 ^ 32
version_fits version (inl is) = omega (arith, is)
version_fits version (inr is) = omega (arith, is)

pub has_version : (version n : ℕ) → IsVersion version → version_from (format_sector version n) ≡ version
has_version version n is = version_back version n (version_fits version is)

pub read_back : (version n : ℕ) → n < 2 ^ 64 → number_from 12 (format_sector version n) ≡ n
unfolding disk_mark format_sector
read_back version n fits = from_le_bytes-to_le_bytes_8 n fits

-- the count that a sector of a format names is the one that is read there
pub is_read : (sector : List ℕ) (n : ℕ) → IsFormatSector sector n × (n < 2 ^ 64) → n ≡ number_from 12 sector
is_read sector n is = sym (read_back (version_from sector) n is.1) ∙ ap (number_from 12) (sym is.0.1)

-- a sector is that of a format where it has the bytes of the version and of the count that are read there
pub size_there : (sector : List ℕ) (found : ℕ) → found ≡ number_from 12 sector → found < 2 ^ 64 → IsFormatSector sector found
    → (n : ℕ) → (Some found ≡ Some n) ↔ (IsFormatSector sector n × (n < 2 ^ 64))
size_there sector found read fits same n = (
  λ e. let is : found ≡ n = cc in subst (λ (m : ℕ). IsFormatSector sector m × (m < 2 ^ 64)) is (same, fits),
  λ is. ap Some (read ∙ sym (is_read sector n is)),
)

-- and of none where it has others
pub no_size : (sector : List ℕ) (found : ℕ) → found ≡ number_from 12 sector → (IsFormatSector sector found → ⊥)
    → (n : ℕ) → (None ≡ Some n) ↔ (IsFormatSector sector n × (n < 2 ^ 64))
no_size sector found read apart n = (
  λ e. cc,
  λ is. absurd (apart (subst (IsFormatSector sector) (is_read sector n is ∙ sym read) is.0)),
)

-- or where there is no such version
pub no_version : (sector : List ℕ) → (IsVersion (version_from sector) → ⊥) → (n : ℕ) → (None ≡ Some n) ↔ (IsFormatSector sector n × (n < 2 ^ 64))
no_version sector apart n = (λ e. cc, λ is. absurd (apart is.0.0))

-- the sector of a format begins with the mark
pub marked : (sector : List ℕ) (version n : ℕ) → sector ≡ format_sector version n → HasMark sector
unfolding disk_mark format_sector
marked sector version n is = ap (λ (s : List ℕ). take 8 s) is
