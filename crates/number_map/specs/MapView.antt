-- What contracts see of a map.
use Rattle.std.specs.Prelude.{ℕ, List, refl}
use Rattle.std.specs.Coded.{Coded, code_by, coded×, coded_ℕ, coded_list}

-- the numbers with their values, ascending, and for how many numbers more there is room, whichever they are
pub record MapView (T : Type 0) : Type 0 where
  pub entries : List (ℕ × T)
  pub spare : ℕ

-- it is stored as the pair of its fields
abbrev pub map_code : {T : Type 0} → Coded T → Coded (MapView T)
map_code {T} code =
    code_by (List (ℕ × T) × ℕ) (coded× (coded_list (coded× coded_ℕ code)) coded_ℕ) (λ m. (m.entries, m.spare)) (λ p. record { entries = p.0; spare = p.1 })
    (λ _. refl)
