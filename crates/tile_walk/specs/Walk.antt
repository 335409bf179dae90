-- A walk over tiles, by steps.
use Rattle.std.specs.Prelude.{ℕ, ◌<◌, List, ◌∷◌, ⊤}
use Rattle.tile_walk.specs.declared.step.Step.{Step}
use Rattle.tile_walk.specs.declared.step.Step.TheVariants.{Part, Tile, Over}

-- what contracts see of a walk: the tiles that are left, each by its id, with the numbers of the boxes that have it, and a number that falls
-- with each step
pub record WalkView : Type 0 where
  pub left : List (ℕ × List ℕ)
  pub ahead : ℕ

-- the tiles that were left before a step, by what it found and those that are left after it
abbrev pub before_step : Step → List (ℕ × List ℕ) → List (ℕ × List ℕ)
before_step Part ts = ts
before_step (Tile t) ts = (t.0, t.1.items) ∷ ts
before_step Over ts = ts

-- nothing is left to find, or the number has fallen
abbrev pub IsFurther : (old new : ℕ) → Step → Type 0
IsFurther old new Part = new < old
IsFurther old new (Tile t) = new < old
IsFurther old new Over = ⊤
