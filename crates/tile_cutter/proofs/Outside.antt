-- Outside the tiles that a feature covers nothing of it is shown.
use Rattle.std.proofs.Common.{◌≡◌, ℕ, ℤ, pos, ◌+◌, ◌-◌, ◌*◌, ◌^◌, ◌<◌, ◌≤◌, ◌-ℤ◌, ◌<ℤ◌, min, max, Bool, true, false, cond, List, [], ◌∷◌, ◌++◌, Option}
use Rattle.std.proofs.Common.{None, map, refl, sym, ap, ◌∙◌, ⊎_elim, ◌⊎◌, inl, inr, arith}
use Rattle.std.specs.Prelude.{All, filter, flat_map, fold, int_le}
use Rattle.std.specs.List.{slice_split}
use Rattle.std.proofs.lemmas.Int.{ints, clamps}
use Rattle.std.proofs.lemmas.Grind.{div_ceil_times}
use Rattle.std.proofs.lemmas.Bool.{and_left, and_right, cases_lt}
use Rattle.std.proofs.lemmas.List.{append-nil}
use Rattle.std.proofs.lemmas.List.Elements.{All-nil, All-cons, All-head, All-tail, All-weaker}
use Rattle.feature_model.specs.declared.feature.World.{World}
use Rattle.feature_model.specs.Data.{FeatureData, GeometryData, world_points, world_lines, world_polygons}
use Rattle.geometry_commands.specs.declared.point.Pt.{Pt}
use Rattle.geometry_commands.specs.Shapes.{ShapeView, lines}
use Rattle.mvt_layer.specs.Tile.{FeatureView}
use Rattle.tile_cutter.specs.declared.reach.TileRange.{TileRange}
use Rattle.tile_cutter.specs.declared.coordinates.TheConstants.{EXTENT, MARGIN}
use Rattle.tile_cutter.specs.Cut.{quantised_axis, tile_points, tile_ring, box_start, box_end, in_box, least_corner, greatest_corner, meets_box, points_cut}
use Rattle.tile_cutter.specs.Cut.{Segment, segments, is_kept, way_along, is_some_segment, line_cut, lines_cut, is_ring, polygon_cut, polygons_cut, geometry_cut}
use Rattle.tile_cutter.specs.Cut.{has_zoom, feature_cut, unless_empty}
use Rattle.tile_cutter.specs.Covered.{all_of, all_points, least_of, greatest_of, first_met, last_met, covered, IsInRange}
use Rattle.tile_cutter.specs.Widened.{bounds_after, range_of}
use Rattle.tile_cutter.proofs.Boxes.{covered_is}
use Rattle.tile_cutter.proofs.Passes.{stands_at}
use Rattle.tile_cutter.proofs.Kept.{points_all, ring_all}
use Rattle.tile_cutter.proofs.Chains.{is_left_out}
use Rattle.tile_cutter.proofs.Drawn.{Both, all_segments}

-- ---- the four sides of the box

abbrev IsRight : Pt → Type 0
IsRight p = box_end <ℤ p.x

abbrev IsLeft : Pt → Type 0
IsLeft p = p.x <ℤ box_start

abbrev IsBelow : Pt → Type 0
IsBelow p = box_end <ℤ p.y

abbrev IsAbove : Pt → Type 0
IsAbove p = p.y <ℤ box_start

past : (a b : ℤ) → b <ℤ a → int_le a b ≡ false
past a b h = grind (arith, ints)

fold_keeps : (P : Pt → Type 0) (f : Pt → Pt → Pt) → ((p q : Pt) → P p → P q → P (f p q)) → (p : Pt) (ps : List Pt) → P p → All P ps → P (fold f p ps)
fold_keeps P f keeps p [] here all = here
fold_keeps P f keeps p (q ∷ qs) here all = fold_keeps P f keeps (f p q) qs (keeps p q here (All-head P q qs all)) (All-tail P q qs all)

-- what is on one side isn't in the box, and doesn't meet it
record IsSide (P : Pt → Type 0) : Type 0 where
  out : (p : Pt) → P p → in_box p ≡ false
  apart : (p : Pt) (ps : List Pt) → P p → All P ps → meets_box (p ∷ ps) ≡ false

right_least : (p q : Pt) → IsRight p → IsRight q → IsRight (least_corner p q)
right_least p q p_is q_is = omega (arith, ints, clamps, p_is, q_is)

left_greatest : (p q : Pt) → IsLeft p → IsLeft q → IsLeft (greatest_corner p q)
left_greatest p q p_is q_is = omega (arith, ints, clamps, p_is, q_is)

below_least : (p q : Pt) → IsBelow p → IsBelow q → IsBelow (least_corner p q)
below_least p q p_is q_is = omega (arith, ints, clamps, p_is, q_is)

above_greatest : (p q : Pt) → IsAbove p → IsAbove q → IsAbove (greatest_corner p q)
above_greatest p q p_is q_is = omega (arith, ints, clamps, p_is, q_is)

right_side : IsSide IsRight
right_side = record {
  out = λ p h. and_left _ _ (and_left _ _ (and_right _ _ (past p.x box_end h)));
  apart =
      λ p ps here all.
      and_left _ _ (and_left _ _ (and_left _ _ (past (fold least_corner p ps).x box_end (fold_keeps IsRight least_corner right_least p ps here all))));
}

left_side : IsSide IsLeft
left_side = record {
  out = λ p h. and_left _ _ (and_left _ _ (and_left _ _ (past box_start p.x h)));
  apart =
      λ p ps here all.
      and_left _ _
      (and_left _ _ (and_right _ _ (past box_start (fold greatest_corner p ps).x (fold_keeps IsLeft greatest_corner left_greatest p ps here all))));
}

below_side : IsSide IsBelow
below_side = record {
  out = λ p h. and_right _ _ (past p.y box_end h);
  apart =
      λ p ps here all. and_left _ _ (and_right _ _ (past (fold least_corner p ps).y box_end (fold_keeps IsBelow least_corner below_least p ps here all)));
}

above_side : IsSide IsAbove
above_side = record {
  out = λ p h. and_left _ _ (and_right _ _ (past box_start p.y h));
  apart = λ p ps here all. and_right _ _ (past box_start (fold greatest_corner p ps).y (fold_keeps IsAbove greatest_corner above_greatest p ps here all));
}

-- ---- a geometry on one side

filter_nothing : {X : Type 0} (p : X → Bool) (xs : List X) → All (λ x. p x ≡ false) xs → filter p xs ≡ []
filter_nothing p [] all = refl
filter_nothing p (x ∷ xs) all = rw (All-head (λ y. p y ≡ false) x xs all) (filter_nothing p xs (All-tail (λ y. p y ≡ false) x xs all))

flat_nothing : {X Y : Type 0} (f : X → List Y) (xs : List X) → All (λ x. f x ≡ []) xs → flat_map f xs ≡ []
flat_nothing f [] all = refl
flat_nothing f (x ∷ xs) all = rw (All-head (λ y. f y ≡ []) x xs all) (flat_nothing f xs (All-tail (λ y. f y ≡ []) x xs all))

split_nothing : (ss : List Segment) → All (λ s. is_kept s ≡ false) ss → filter is_some_segment (slice_split is_left_out ss) ≡ []
split_nothing [] all = refl
split_nothing (s ∷ ss) all = rw (All-head (λ t. is_kept t ≡ false) s ss all) (split_nothing ss (All-tail (λ t. is_kept t ≡ false) s ss all))

all_parts : {X Y : Type 0} (P : Y → Type 0) (f : X → List Y) (xs : List X) → All P (flat_map f xs) → All (λ x. All P (f x)) xs
all_parts P f [] all = All-nil (λ x. All P (f x))
all_parts {X} {Y} P f (x ∷ xs) all =
    let both = split (f x) (flat_map f xs) all in
    All-cons (λ y. All P (f y)) x xs both.0 (all_parts P f xs both.1)
  where
    split : (us vs : List Y) → All P (us ++ vs) → All P us × All P vs
    split [] vs all = (All-nil P, all)
    split (u ∷ us) vs all =
        let rest = split us vs (All-tail P u (us ++ vs) all) in
        (All-cons P u us (All-head P u (us ++ vs) all) rest.0, rest.1)

no_points : (P : Pt → Type 0) → IsSide P → (zoom column row : ℕ) (ps : List World) → All (λ p. P (stands_at zoom column row p)) ps
    → points_cut zoom column row ps ≡ []
unfolding points_cut
no_points P side zoom column row ps all =
    filter_nothing in_box (tile_points zoom column row ps)
    (All-weaker P (λ p. in_box p ≡ false) side.out (tile_points zoom column row ps) (points_all P zoom column row ps all))

no_line : (P : Pt → Type 0) → IsSide P → (zoom column row : ℕ) (ps : List World) → All (λ p. P (stands_at zoom column row p)) ps
    → line_cut zoom column row ps ≡ []
unfolding line_cut
no_line P side zoom column row ps all =
    let ss = segments (tile_points zoom column row ps) in
    let ends = all_segments P (tile_points zoom column row ps) (points_all P zoom column row ps all) in
    let none = All-weaker (Both P) (λ s. is_kept s ≡ false) (λ s both. side.apart s.0 (s.1 ∷ []) both.0 (All-cons P s.1 [] both.1 (All-nil P))) ss ends in
    ap (map way_along) (split_nothing ss none)

no_polygon : (P : Pt → Type 0) → IsSide P → (zoom column row : ℕ) (rs : List (List World)) → All (λ p. P (stands_at zoom column row p)) (all_of rs)
    → polygon_cut zoom column row rs ≡ []
unfolding polygon_cut
no_polygon P side zoom column row [] all = refl
no_polygon P side zoom column row (outer ∷ inners) all =
    let rings = all_parts (λ p. P (stands_at zoom column row p)) (λ r. r) (outer ∷ inners) all in
    let outer_all = All-head (λ r. All (λ p. P (stands_at zoom column row p)) r) outer inners rings in
    let apart = ring_apart (tile_ring zoom column row outer) (ring_all P zoom column row outer outer_all) in
    rw (and_right (is_ring (tile_ring zoom column row outer)) (meets_box (tile_ring zoom column row outer)) apart) refl
  where
    ring_apart : (ps : List Pt) → All P ps → meets_box ps ≡ false
    ring_apart [] ps_all = refl
    ring_apart (p ∷ ps) ps_all = side.apart p ps (All-head P p ps ps_all) (All-tail P p ps ps_all)

no_geometry : (P : Pt → Type 0) → IsSide P → (zoom column row : ℕ) (g : GeometryData) → All (λ p. P (stands_at zoom column row p)) (all_points g)
    → geometry_cut zoom column row g ≡ None
unfolding geometry_cut lines_cut polygons_cut
no_geometry P side zoom column row (world_points ps) all = rw (no_points P side zoom column row ps all) refl
no_geometry P side zoom column row (world_lines ls) all =
    let Stands : World → Type 0 = λ p. P (stands_at zoom column row p) in
    rw (flat_nothing (line_cut zoom column row) ls
    (All-weaker (All Stands) (λ l. line_cut zoom column row l ≡ []) (no_line P side zoom column row) ls (all_parts Stands (λ l. l) ls all))) refl
no_geometry P side zoom column row (world_polygons ps) all =
    let Stands : World → Type 0 = λ p. P (stands_at zoom column row p) in
    rw (flat_nothing (polygon_cut zoom column row) ps
    (All-weaker (λ p. All Stands (all_of p)) (λ p. polygon_cut zoom column row p ≡ []) (no_polygon P side zoom column row) ps
    (all_parts Stands all_of ps all))) refl

no_feature : (f : FeatureData) (zoom column row : ℕ) → geometry_cut zoom column row f.geometry ≡ None → feature_cut f zoom column row ≡ None
unfolding feature_cut
no_feature f zoom column row none = rw none (go (has_zoom f zoom))
  where
    go : (b : Bool) → ◌≡◌ {A = Option FeatureView} (cond b None None) None
    go true = refl
    go false = refl

-- ---- coordinates outside the range

fold_min_below : {X : Type 0} (f : X → ℕ) (m : ℕ) (xs : List X) → (fold min m (map f xs) ≤ m) × All (λ x. fold min m (map f xs) ≤ f x) xs
fold_min_below f m [] = (omega arith, All-nil (λ x. m ≤ f x))
fold_min_below f m (x ∷ xs) =
    let rest = fold_min_below f (min m (f x)) xs in
    (omega (arith, rest.0), All-cons (λ y. fold min (min m (f x)) (map f xs) ≤ f y) x xs (omega (arith, rest.0)) rest.1)

least_below : {X : Type 0} (f : X → ℕ) (xs : List X) → All (λ x. least_of (map f xs) ≤ f x) xs
least_below f [] = All-nil (λ x. 0 ≤ f x)
least_below f (x ∷ xs) =
    let rest = fold_min_below f (f x) xs in
    All-cons (λ y. fold min (f x) (map f xs) ≤ f y) x xs rest.0 rest.1

fold_max_above : {X : Type 0} (f : X → ℕ) (m : ℕ) (xs : List X) → (m ≤ fold max m (map f xs)) × All (λ x. f x ≤ fold max m (map f xs)) xs
fold_max_above f m [] = (omega arith, All-nil (λ x. f x ≤ m))
fold_max_above f m (x ∷ xs) =
    let rest = fold_max_above f (max m (f x)) xs in
    (omega (arith, rest.0), All-cons (λ y. f y ≤ fold max (max m (f x)) (map f xs)) x xs (omega (arith, rest.0)) rest.1)

greatest_above : {X : Type 0} (f : X → ℕ) (xs : List X) → All (λ x. f x ≤ greatest_of (map f xs)) xs
greatest_above f [] = All-nil (λ x. f x ≤ 0)
greatest_above f (x ∷ xs) =
    let rest = fold_max_above f (f x) xs in
    All-cons (λ y. f y ≤ fold max (f x) (map f xs)) x xs rest.0 rest.1

-- before the first column, or row, that is met
before_first : (at least u : ℕ) → at < first_met least → least ≤ u → box_end <ℤ (pos u -ℤ pos (EXTENT * at))
before_first at least u lt le =
    let ceil = div_ceil_times (least - (EXTENT + MARGIN)) EXTENT (omega arith) in
    let far : EXTENT * at + (EXTENT + MARGIN) < least = omega (arith, ceil.1, lt) in
    omega (arith, ints)

-- after the last
behind_last : (zoom at greatest u : ℕ) → last_met zoom greatest < at → at < 2 ^ zoom → u ≤ greatest → (pos u -ℤ pos (EXTENT * at)) <ℤ box_start
behind_last zoom at greatest u lt inside le =
    let far : greatest + MARGIN < EXTENT * at = omega (arith, lt) in
    omega (arith, ints)

-- ---- the law

-- in a column, or a row, before the first or after the last that is met nothing is shown
beside : (g : GeometryData) (zoom column row at first last : ℕ) (along : World → ℕ) (Behind Before : Pt → Type 0) → IsSide Behind → IsSide Before
    → ((p : World) → box_end <ℤ (pos (along p) -ℤ pos (EXTENT * at)) → Behind (stands_at zoom column row p))
    → ((p : World) → (pos (along p) -ℤ pos (EXTENT * at)) <ℤ box_start → Before (stands_at zoom column row p))
    → first ≡ first_met (least_of (map along (all_points g))) → last ≡ last_met zoom (greatest_of (map along (all_points g))) → at < 2 ^ zoom
    → (at < first) ⊎ (last < at) → geometry_cut zoom column row g ≡ None
beside g zoom column row at first last along Behind Before behind before is_behind is_before first_is last_is within (inl lt) =
    let ps = all_points g in
    let met : at < first_met (least_of (map along ps)) = rw (← first_is) lt in
    no_geometry Behind behind zoom column row g
    (All-weaker (λ p. least_of (map along ps) ≤ along p) (λ p. Behind (stands_at zoom column row p))
    (λ p le. is_behind p (before_first at (least_of (map along ps)) (along p) met le)) ps (least_below along ps))
beside g zoom column row at first last along Behind Before behind before is_behind is_before first_is last_is within (inr lt) =
    let ps = all_points g in
    let met : last_met zoom (greatest_of (map along ps)) < at = rw (← last_is) lt in
    no_geometry Before before zoom column row g
    (All-weaker (λ p. along p ≤ greatest_of (map along ps)) (λ p. Before (stands_at zoom column row p))
    (λ p le. is_before p (behind_last zoom at (greatest_of (map along ps)) (along p) met within le)) ps (greatest_above along ps))

geometry_outside : (g : GeometryData) (zoom column row : ℕ) (range : TileRange) → range ≡ covered g zoom → column < 2 ^ zoom → row < 2 ^ zoom
    → ¬ IsInRange range column row → geometry_cut zoom column row g ≡ None
unfolding covered
geometry_outside g zoom column row range is across down out =
    let columns = beside g zoom column row column range.x0 range.x1 (λ p. quantised_axis zoom p.x) IsRight IsLeft right_side left_side
    (λ p h. h) (λ p h. h) (ap (λ r. r.x0) is) (ap (λ r. r.x1) is) across in
    let rows = beside g zoom column row row range.y0 range.y1 (λ p. quantised_axis zoom p.y) IsBelow IsAbove below_side above_side
    (λ p h. h) (λ p h. h) (ap (λ r. r.y0) is) (ap (λ r. r.y1) is) down in
    ⊎_elim
    (λ (lt : column < range.x0). columns (inl lt))
    (λ (right_of : range.x0 ≤ column). ⊎_elim
    (λ (lt : range.x1 < column). columns (inr lt))
    (λ (left_of : column ≤ range.x1). ⊎_elim
    (λ (lt : row < range.y0). rows (inl lt))
    (λ (below : range.y0 ≤ row). ⊎_elim
    (λ (lt : range.y1 < row). rows (inr lt))
    (λ (above : row ≤ range.y1). absurd (out (record { left = right_of; right = left_of; top = below; bottom = above })))
    (cases_lt range.y1 row))
    (cases_lt row range.y0))
    (cases_lt range.x1 column))
    (cases_lt column range.x0)

pub outside : (f : FeatureData) (zoom column row : ℕ) (range : TileRange) → range ≡ covered f.geometry zoom → column < 2 ^ zoom → row < 2 ^ zoom
    → ¬ IsInRange range column row → feature_cut f zoom column row ≡ None
outside f zoom column row range is across down out = no_feature f zoom column row (geometry_outside f.geometry zoom column row range is across down out)

nothing_left : {X : Type 0} (shape : List X → ShapeView) (xs : List X) → unless_empty shape xs ≡ None → xs ≡ []
nothing_left shape [] none = refl
nothing_left shape (x ∷ xs) none = cc

-- a line is the geometry of a feature
pub line_outside : (zoom column row : ℕ) (line : List World) (range : TileRange) → range ≡ range_of (bounds_after None line) zoom → column < 2 ^ zoom
    → row < 2 ^ zoom → ¬ IsInRange range column row → line_cut zoom column row line ≡ []
unfolding geometry_cut lines_cut
line_outside zoom column row line range is across down out =
    let g = world_lines (line ∷ []) in
    let range_is = is ∙ ap (λ ps. range_of (bounds_after None ps) zoom) (sym (append-nil line)) ∙ covered_is g zoom in
    sym (append-nil (line_cut zoom column row line))
    ∙ nothing_left lines (line_cut zoom column row line ++ []) (geometry_outside g zoom column row range range_is across down out)
