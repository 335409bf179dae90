-- The layout that the sector of a format names.
use Rattle.std.proofs.Common.{◌≡◌, ℕ, ◌<◌, ◌≤◌, ◌^◌, List, Option, Some, None, sym, subst, ◌∙◌, arith}
use Rattle.std.specs.Prelude.{MatchOption}
use Rattle.generations.specs.Areas.{IsSize}
use Rattle.generations.specs.Sectors.{IsFormatSector, IsFormat}
use Rattle.generations.specs.declared.layout.Layout.{Layout}
use Rattle.generations.proofs.Formats.{is_read}

-- a format's count is the one that is named
pub same_count : (count : ℕ) (sector : List ℕ) (n m : ℕ) → IsFormatSector sector n × (n < 2 ^ 64) → IsFormat count sector m → m ≡ n
same_count count sector n m is format = is_read sector m (format.stands, omega (arith, format.size.1)) ∙ sym (is_read sector n is)

pub layout_there : (count : ℕ) (sector : List ℕ) (n : ℕ) (layout : Option Layout) → IsFormatSector sector n × (n < 2 ^ 64) → n ≤ count
    → MatchOption layout (IsSize n → ⊥) (λ l. l.sectors ≡ n)
    → MatchOption layout ((m : ℕ) → IsFormat count sector m → ⊥) (λ l. IsFormat count sector l.sectors)
layout_there count sector n None is within none = λ m format. none (subst IsSize (same_count count sector n m is format) format.size)
layout_there count sector n (Some l) is within same = record {
  stands = subst (IsFormatSector sector) (sym same) is.0;
  size = l.size;
  within = omega (arith, same, within);
}
