-- Lists of points, point by point.
use Rattle.std.proofs.Common.{◌≡◌, ℕ, ◌/◌, ◌<◌, ◌≤◌, List, [], ◌∷◌, length, refl, arith}
use Rattle.edit_text.specs.Trusted.{point_in, points_of}

pub points_first : (bytes : List ℕ) → 8 ≤ length bytes → points_of bytes ≡ (point_in bytes).0 ∷ points_of (point_in bytes).1
unfolding points_of point_in
points_first (a ∷ b ∷ c ∷ d ∷ e ∷ f ∷ g ∷ h ∷ rest) l = refl
points_first [] l = absurd (omega arith)
points_first (a ∷ []) l = absurd (omega arith)
points_first (a ∷ b ∷ []) l = absurd (omega arith)
points_first (a ∷ b ∷ c ∷ []) l = absurd (omega arith)
points_first (a ∷ b ∷ c ∷ d ∷ []) l = absurd (omega arith)
points_first (a ∷ b ∷ c ∷ d ∷ e ∷ []) l = absurd (omega arith)
points_first (a ∷ b ∷ c ∷ d ∷ e ∷ f ∷ []) l = absurd (omega arith)
points_first (a ∷ b ∷ c ∷ d ∷ e ∷ f ∷ g ∷ []) l = absurd (omega arith)

pub points_none : (bytes : List ℕ) → length bytes < 8 → points_of bytes ≡ []
unfolding points_of
points_none (a ∷ b ∷ c ∷ d ∷ e ∷ f ∷ g ∷ h ∷ rest) l = absurd (omega arith)
points_none [] l = refl
points_none (a ∷ []) l = refl
points_none (a ∷ b ∷ []) l = refl
points_none (a ∷ b ∷ c ∷ []) l = refl
points_none (a ∷ b ∷ c ∷ d ∷ []) l = refl
points_none (a ∷ b ∷ c ∷ d ∷ e ∷ []) l = refl
points_none (a ∷ b ∷ c ∷ d ∷ e ∷ f ∷ []) l = refl
points_none (a ∷ b ∷ c ∷ d ∷ e ∷ f ∷ g ∷ []) l = refl

pub points_len : (bytes : List ℕ) → length bytes / 8 ≡ length (points_of bytes)
unfolding points_of
points_len (a ∷ b ∷ c ∷ d ∷ e ∷ f ∷ g ∷ h ∷ rest) = omega (arith, points_len rest)
points_len [] = refl
points_len (a ∷ []) = refl
points_len (a ∷ b ∷ []) = refl
points_len (a ∷ b ∷ c ∷ []) = refl
points_len (a ∷ b ∷ c ∷ d ∷ []) = refl
points_len (a ∷ b ∷ c ∷ d ∷ e ∷ []) = refl
points_len (a ∷ b ∷ c ∷ d ∷ e ∷ f ∷ []) = refl
points_len (a ∷ b ∷ c ∷ d ∷ e ∷ f ∷ g ∷ []) = refl
