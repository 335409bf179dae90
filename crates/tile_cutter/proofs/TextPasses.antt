-- The box of lists that an iterator gives, list by list.
use Rattle.std.proofs.Common.{◌≡◌, List, [], ◌∷◌, Option, sym, ap, ◌∙◌}
use Rattle.std.specs.Prelude.{flat_map}
use Rattle.std.proofs.lemmas.Grind.{fold-append}
use Rattle.feature_model.specs.declared.feature.World.{World}
use Rattle.feature_model.specs.declared.feature.WorldBox.{WorldBox}
use Rattle.tile_cutter.specs.Widened.{widen, bounds_after}

-- the box with one list more
pub bounds_item : {X : Type 0} (f : X → List World) (left rest : List X) (x : X) (c c' whole : Option WorldBox) → left ≡ x ∷ rest → c' ≡ bounds_after c (f x)
    → bounds_after c (flat_map f left) ≡ whole → bounds_after c' (flat_map f rest) ≡ whole
bounds_item f left rest x c c' whole first more so_far =
    rw more (sym (fold-append widen c (f x) (flat_map f rest)) ∙ ap (λ xs. bounds_after c (flat_map f xs)) (sym first) ∙ so_far)

pub bounds_over : {X : Type 0} (f : X → List World) (left : List X) (c whole : Option WorldBox) → left ≡ []
    → bounds_after c (flat_map f left) ≡ whole → c ≡ whole
bounds_over f left c whole none so_far = ap (λ xs. bounds_after c (flat_map f xs)) (sym none) ∙ so_far
