-- Steps of a walk.
use Rattle.std.proofs.Common.{◌≡◌, ℕ, ◌-◌, ◌^◌, ◌<◌, List, [], ◌∷◌, ◌++◌, length, take, Option, Some, None, IfSome, ap, subst, arith}
use Rattle.std.specs.List.{slice_get}
use Rattle.tile_walk.specs.Cut.{IsCut, IsCutOfLast}
use Rattle.tile_walk.specs.Inside.{ahead_of, placed_of}
use Rattle.tile_walk.specs.Squares.{weights}
use Rattle.tile_walk.specs.declared.cut.Cut.{Cut}
use Rattle.tile_walk.specs.declared.square.Square.{Square}
use Rattle.tile_walk.proofs.Tiles.{weight_some, weights_last}

-- what is made of the last square
pub last_cut : (ss now : List Square) (s : Square) (cut : Option Cut) → now ≡ ss → Some s ≡ slice_get now (length now - 1) → IfSome cut (IsCutOfLast ss)
    → IfSome cut (IsCut s)
last_cut ss now s None same is last = tt
last_cut ss now s (Some c) same is last = last s (subst (λ (l : List Square). Some s ≡ slice_get l (length l - 1)) same is)

pub few_placed : (s : Square) (cut : Option Cut) → IfSome cut (IsCut s) → placed_of cut < 2 ^ 64
few_placed s None is = omega arith
few_placed s (Some c) is = is.few

-- squares have a weight
pub some_weight : (ss : List Square) (s : Square) (n : ℕ) → ss ≡ take (n - 1) ss ++ s ∷ [] → 0 < weights ss
some_weight ss s n last = omega (arith, ap weights last, weights_last (take (n - 1) ss) s, weight_some s.zoom)

-- more boxes of the last square are placed
pub placed_ahead : (ss : List Square) (old : Option Cut) (new : Cut) → 0 < weights ss → new.placed < 2 ^ 64 → placed_of old < new.placed
    → ahead_of ss (Some new) < ahead_of ss old
placed_ahead ss old new some few more = omega (arith, some, few, more)

-- the last square is cut, or taken
pub lighter_ahead : (old new : List Square) (cut after : Option Cut) → placed_of cut < 2 ^ 64 → weights new < weights old → after ≡ None
    → ahead_of new after < ahead_of old cut
lighter_ahead old new cut after few less is = rw is (omega (arith, few, less))
