-- Bounding boxes of points of the world, and the tiles that they meet.
use Rattle.std.proofs.Common.{◌≡◌, ℕ, ◌+◌, ◌-◌, ◌^◌, ◌<◌, ◌≤◌, suc, min, max, List, [], ◌∷◌, Option, Some, None, map, drop, get_or, length, add-one, refl, sym}
use Rattle.std.proofs.Common.{ap, ◌∙◌, ⊎_elim, arith}
use Rattle.std.specs.Prelude.{flat_map, fold, sum_by}
use Rattle.std.specs.List.{range_with_len}
use Rattle.std.proofs.Math.Seq.{drop-cons}
use Rattle.std.proofs.Math.Nat.{div-mul-le_self, one-le-pow, zero-div}
use Rattle.std.proofs.lemmas.Nat.{le-div}
use Rattle.std.proofs.lemmas.Grind.{fold-append}
use Rattle.std.proofs.lemmas.Bool.{cases_lt}
use Rattle.std.proofs.lemmas.List.Sums.{sum_by-cons}
use Rattle.std.proofs.lemmas.List.{drop_all}
use Rattle.feature_model.specs.declared.feature.World.{World}
use Rattle.feature_model.specs.Data.{FeatureData, GeometryData}
use Rattle.feature_model.specs.declared.feature.WorldBox.{WorldBox}
use Rattle.tile_cutter.specs.declared.coordinates.TheConstants.{WORLD_ZOOM}
use Rattle.tile_cutter.specs.Cut.{quantised_axis}
use Rattle.tile_cutter.specs.Covered.{all_points, least_of, greatest_of, covered, tiles_of, reach_of}
use Rattle.tile_cutter.specs.Widened.{widened, widen, bounds_after, box_or_origin, range_of}

-- ---- a loop over lists

pub bounds_next : {X : Type 0} (f : X → List World) (xs : List X) (i : ℕ) (x : X) (c c' whole : Option WorldBox) → i < length xs → x ≡ get_or xs i x
    → c' ≡ bounds_after c (f x)
    → bounds_after c (flat_map f (drop i xs)) ≡ whole → bounds_after c' (flat_map f (drop (i + 1) xs)) ≡ whole
bounds_next f xs i x c c' whole lt item more so_far =
    let first = ap (flat_map f) (drop-cons xs i x lt) in
    rw (more, add-one) (ap (λ a. bounds_after (bounds_after c (f a)) (flat_map f (drop (suc i) xs))) item)
    ∙ sym (fold-append widen c (f (get_or xs i x)) (flat_map f (drop (suc i) xs)))
    ∙ ap (bounds_after c) (sym first) ∙ so_far

pub bounds_end : {X : Type 0} (f : X → List World) (xs : List X) (i : ℕ) (c whole : Option WorldBox) → length xs ≤ i
    → bounds_after c (flat_map f (drop i xs)) ≡ whole → c ≡ whole
bounds_end f xs i c whole past so_far = ap (λ r. bounds_after c (flat_map f r)) (sym (drop_all i xs past)) ∙ so_far

-- ---- quantising keeps the order

quantised_mono : (zoom a b : ℕ) → a ≤ b → quantised_axis zoom a ≤ quantised_axis zoom b
quantised_mono zoom a b less =
    let some : 0 < 2 ^ (WORLD_ZOOM - zoom) = one-le-pow (WORLD_ZOOM - zoom) 2 (omega arith) in
    le-div (quantised_axis zoom a) b (2 ^ (WORLD_ZOOM - zoom)) some (omega (arith, div-mul-le_self a (2 ^ (WORLD_ZOOM - zoom)), less))

-- of two coordinates in their order
quantised_order : (zoom a b less more : ℕ) → a ≤ b → less ≡ a → more ≡ b
    → (quantised_axis zoom less ≡ min (quantised_axis zoom a) (quantised_axis zoom b))
    × (quantised_axis zoom more ≡ max (quantised_axis zoom a) (quantised_axis zoom b))
quantised_order zoom a b less more order less_is more_is =
    let keeps = quantised_mono zoom a b order in
    (rw less_is (omega (arith, keeps)), rw more_is (omega (arith, keeps)))

pub quantised_both : (zoom a b : ℕ)
    → (quantised_axis zoom (min a b) ≡ min (quantised_axis zoom a) (quantised_axis zoom b))
    × (quantised_axis zoom (max a b) ≡ max (quantised_axis zoom a) (quantised_axis zoom b))
quantised_both zoom a b = ⊎_elim
    (λ (lt : a < b). quantised_order zoom a b (min a b) (max a b) (omega arith) (omega arith) (omega arith))
    (λ (le : b ≤ a).
    let turned = quantised_order zoom b a (min a b) (max a b) le (omega arith) (omega arith) in
    (omega (arith, turned.0), omega (arith, turned.1)))
    (cases_lt a b)

-- ---- the sides of the box are the least and the greatest coordinates

least_x : (zoom : ℕ) (ps : List World) (c : WorldBox)
    → fold min (quantised_axis zoom c.x0) (map (λ p. quantised_axis zoom p.x) ps) ≡ quantised_axis zoom (box_or_origin (bounds_after (Some c) ps)).x0
least_x zoom [] c = refl
least_x zoom (p ∷ ps) c = ap (λ m. fold min m (map (λ q. quantised_axis zoom q.x) ps)) (sym (quantised_both zoom c.x0 p.x).0)
    ∙ least_x zoom ps (widened (Some c) p)

least_y : (zoom : ℕ) (ps : List World) (c : WorldBox)
    → fold min (quantised_axis zoom c.y0) (map (λ p. quantised_axis zoom p.y) ps) ≡ quantised_axis zoom (box_or_origin (bounds_after (Some c) ps)).y0
least_y zoom [] c = refl
least_y zoom (p ∷ ps) c = ap (λ m. fold min m (map (λ q. quantised_axis zoom q.y) ps)) (sym (quantised_both zoom c.y0 p.y).0)
    ∙ least_y zoom ps (widened (Some c) p)

greatest_x : (zoom : ℕ) (ps : List World) (c : WorldBox)
    → fold max (quantised_axis zoom c.x1) (map (λ p. quantised_axis zoom p.x) ps)
    ≡ quantised_axis zoom (box_or_origin (bounds_after (Some c) ps)).x1
greatest_x zoom [] c = refl
greatest_x zoom (p ∷ ps) c = ap (λ m. fold max m (map (λ q. quantised_axis zoom q.x) ps)) (sym (quantised_both zoom c.x1 p.x).1)
    ∙ greatest_x zoom ps (widened (Some c) p)

greatest_y : (zoom : ℕ) (ps : List World) (c : WorldBox)
    → fold max (quantised_axis zoom c.y1) (map (λ p. quantised_axis zoom p.y) ps)
    ≡ quantised_axis zoom (box_or_origin (bounds_after (Some c) ps)).y1
greatest_y zoom [] c = refl
greatest_y zoom (p ∷ ps) c = ap (λ m. fold max m (map (λ q. quantised_axis zoom q.y) ps)) (sym (quantised_both zoom c.y1 p.y).1)
    ∙ greatest_y zoom ps (widened (Some c) p)

-- the box of no points is that of the origin
origin_quantised : (zoom : ℕ) → 0 ≡ quantised_axis zoom 0
origin_quantised zoom = sym (zero-div (2 ^ (WORLD_ZOOM - zoom)))

pub least_x_is : (zoom : ℕ) (ps : List World)
    → least_of (map (λ p. quantised_axis zoom p.x) ps) ≡ quantised_axis zoom (box_or_origin (bounds_after None ps)).x0
least_x_is zoom [] = origin_quantised zoom
least_x_is zoom (p ∷ ps) = least_x zoom ps (widened None p)

pub least_y_is : (zoom : ℕ) (ps : List World)
    → least_of (map (λ p. quantised_axis zoom p.y) ps) ≡ quantised_axis zoom (box_or_origin (bounds_after None ps)).y0
least_y_is zoom [] = origin_quantised zoom
least_y_is zoom (p ∷ ps) = least_y zoom ps (widened None p)

pub greatest_x_is : (zoom : ℕ) (ps : List World)
    → greatest_of (map (λ p. quantised_axis zoom p.x) ps) ≡ quantised_axis zoom (box_or_origin (bounds_after None ps)).x1
greatest_x_is zoom [] = origin_quantised zoom
greatest_x_is zoom (p ∷ ps) = greatest_x zoom ps (widened None p)

pub greatest_y_is : (zoom : ℕ) (ps : List World)
    → greatest_of (map (λ p. quantised_axis zoom p.y) ps) ≡ quantised_axis zoom (box_or_origin (bounds_after None ps)).y1
greatest_y_is zoom [] = origin_quantised zoom
greatest_y_is zoom (p ∷ ps) = greatest_y zoom ps (widened None p)

-- ---- the tiles of a box

pub covered_is : (g : GeometryData) (zoom : ℕ) → range_of (bounds_after None (all_points g)) zoom ≡ covered g zoom
unfolding covered
covered_is g zoom =
    let ps = all_points g in
    rw (least_x_is zoom ps, greatest_x_is zoom ps, least_y_is zoom ps, greatest_y_is zoom ps) refl

pub sum_next : (f : ℕ → ℕ) (zoom end : ℕ) → zoom < end
    → sum_by f (range_with_len zoom (end - zoom)) ≡ f zoom + sum_by f (range_with_len (zoom + 1) (end - (zoom + 1)))
sum_next f zoom end lt =
    let more : end - zoom ≡ suc (end - (zoom + 1)) = omega arith in
    ap (λ n. sum_by f (range_with_len zoom n)) more ∙ sum_by-cons f zoom (range_with_len (zoom + 1) (end - (zoom + 1)))

sum_same : (f h : ℕ → ℕ) → ((n : ℕ) → f n ≡ h n) → (ns : List ℕ) → sum_by f ns ≡ sum_by h ns
sum_same f h each [] = refl
sum_same f h each (n ∷ ns) = let here = each n in let rest = sum_same f h each ns in omega (arith, sum_by-cons f n ns, sum_by-cons h n ns)

pub reach_is : (f : FeatureData) (bounds : Option WorldBox) → bounds ≡ bounds_after None (all_points f.geometry)
    → sum_by (λ zoom. tiles_of (range_of bounds zoom)) (range_with_len f.minzoom (f.maxzoom + 1 - f.minzoom)) ≡ reach_of f
unfolding reach_of
reach_is f bounds bounds_is =
    sum_same (λ zoom. tiles_of (range_of bounds zoom)) (λ zoom. tiles_of (covered f.geometry zoom))
    (λ zoom. ap (λ c. tiles_of (range_of c zoom)) bounds_is ∙ ap tiles_of (covered_is f.geometry zoom)) (range_with_len f.minzoom (f.maxzoom + 1 - f.minzoom))
