-- What no edit can have touched of a tile, none can have touched of the tiles inside of it.
use Rattle.std.proofs.Common.{◌≡◌, ◌⊎◌, inl, inr, ⊎_elim, ℕ, zero, suc, ◌<◌, ◌≤◌, ◌+◌, ◌-◌, ◌*◌, ◌/◌, ◌^◌, List, [], All}
use Rattle.std.proofs.Common.{Bool, true, false, refl, sym, ◌∙◌, ap, subst, arith}
use Rattle.std.specs.Prelude.{◌&&◌, nat_le, nat_lt, filter_map, if◌then◌else◌}
use Rattle.std.proofs.Math.Nat.{div-div-eq-div-mul, mul_assoc, mul-le-mul_right}
use Rattle.std.proofs.lemmas.Bool.{cases_lt, leb-true}
use Rattle.std.proofs.lemmas.List.Elements.{All-weaker}
use Rattle.std.proofs.lemmas.Nat.{pow-add}
use Rattle.cached_map.specs.Cached.{WasMap, IsUntouched}
use Rattle.feature_model.specs.declared.feature.WorldBox.{WorldBox}
use Rattle.feature_model.specs.declared.limits.TheConstants.{MAX_ZOOM}
use Rattle.feature_store.specs.Layers.{is_tile, layers, layer_names, layer_with, cuts_of}
use Rattle.feature_store.specs.Store.{FeatureMap}
use Rattle.tile_cache.specs.Cells.{HasWhole}
use Rattle.tile_cache.specs.Touched.{Mark, Reaches, IsNewestOf, shown_box}
use Rattle.tile_cache.specs.declared.touch_grid.TheConstants.{WIDE_LEVELS}
use Rattle.tile_cache.proofs.Marks.{newest_of}
use Rattle.tile_cutter.specs.WorldBox.{tile_box, first_shown, last_shown, Meets}
use Rattle.tile_cutter.specs.declared.coordinates.TheConstants.{EXTENT, MARGIN, WORLD_ZOOM}
use Rattle.service_laws.specs.Inside.{IsInside}

-- ---- boxes

-- of two neighbouring zooms the unit of the first is twice that of the second
units : (zoom : ℕ) → zoom < WORLD_ZOOM → 2 ^ (WORLD_ZOOM - zoom) ≡ 2 * 2 ^ (WORLD_ZOOM - suc zoom)
units zoom below =
    let more : WORLD_ZOOM - zoom ≡ 1 + (WORLD_ZOOM - suc zoom) = omega (arith, below) in
    ap (λ (k : ℕ). 2 ^ k) more ∙ pow-add 2 1 (WORLD_ZOOM - suc zoom)

-- a column of the next zoom, or a row, begins no earlier than that which it is in, and ends no later
first_inside : (zoom at : ℕ) → zoom < WORLD_ZOOM → first_shown zoom (at / 2) ≤ first_shown (suc zoom) at
first_inside zoom at below =
    let near : (EXTENT * (at / 2) - MARGIN) * 2 ≤ EXTENT * at - MARGIN = omega arith in
    omega (arith, scaled_is, mul-le-mul_right (2 ^ (WORLD_ZOOM - suc zoom)) near)
  where
    scaled_is : (EXTENT * (at / 2) - MARGIN) * 2 ^ (WORLD_ZOOM - zoom) ≡ ((EXTENT * (at / 2) - MARGIN) * 2) * 2 ^ (WORLD_ZOOM - suc zoom)
    scaled_is = ap (λ (u : ℕ). (EXTENT * (at / 2) - MARGIN) * u) (units zoom below)
        ∙ sym (mul_assoc (EXTENT * (at / 2) - MARGIN) 2 (2 ^ (WORLD_ZOOM - suc zoom)))

last_inside : (zoom at : ℕ) → zoom < WORLD_ZOOM → last_shown (suc zoom) at ≤ last_shown zoom (at / 2)
last_inside zoom at below =
    let near : EXTENT * at + (EXTENT + MARGIN + 1) ≤ (EXTENT * (at / 2) + (EXTENT + MARGIN + 1)) * 2 = omega arith in
    omega (arith, scaled_is, mul-le-mul_right (2 ^ (WORLD_ZOOM - suc zoom)) near)
  where
    scaled_is : (EXTENT * (at / 2) + (EXTENT + MARGIN + 1)) * 2 ^ (WORLD_ZOOM - zoom)
        ≡ ((EXTENT * (at / 2) + (EXTENT + MARGIN + 1)) * 2) * 2 ^ (WORLD_ZOOM - suc zoom)
    scaled_is = ap (λ (u : ℕ). (EXTENT * (at / 2) + (EXTENT + MARGIN + 1)) * u) (units zoom below)
        ∙ sym (mul_assoc (EXTENT * (at / 2) + (EXTENT + MARGIN + 1)) 2 (2 ^ (WORLD_ZOOM - suc zoom)))

-- a tile's box has the whole of the box of each tile of the next zoom in it
next_inside : (zoom column row : ℕ) → zoom < WORLD_ZOOM → HasWhole (tile_box zoom (column / 2) (row / 2)) (tile_box (suc zoom) column row)
unfolding tile_box
next_inside zoom column row below = record {
  left = first_inside zoom column below;
  right = last_inside zoom column below;
  top = first_inside zoom row below;
  bottom = last_inside zoom row below;
}

whole_on : (a b c : WorldBox) → HasWhole a b → HasWhole b c → HasWhole a c
whole_on a b c ab bc = record {
  left = omega (arith, ab.left, bc.left);
  right = omega (arith, ab.right, bc.right);
  top = omega (arith, ab.top, bc.top);
  bottom = omega (arith, ab.bottom, bc.bottom);
}

halved : (at k : ℕ) → at / 2 / 2 ^ k ≡ at / 2 ^ suc k
halved at k =
    let more : 1 + k ≡ suc k = omega arith in
    div-div-eq-div-mul at 2 (2 ^ k) ∙ ap (λ (unit : ℕ). at / unit) (sym (pow-add 2 1 k) ∙ ap (λ (n : ℕ). 2 ^ n) more)

by_one : (at : ℕ) → at ≡ at / 2 ^ 0
by_one at = omega arith

no_more : (zoom : ℕ) → zoom ≡ zoom + 0
no_more zoom = omega arith

-- so has it of each tile inside of it
whole_inside : (k zoom column row : ℕ) → zoom + k ≤ WORLD_ZOOM
    → HasWhole (tile_box zoom (column / 2 ^ k) (row / 2 ^ k)) (tile_box (zoom + k) column row)
whole_inside zero zoom column row within =
    let whole : HasWhole (tile_box zoom column row) (tile_box zoom column row) =
    record { left = omega arith; right = omega arith; top = omega arith; bottom = omega arith } in
    subst (λ (c : ℕ). HasWhole (tile_box zoom c (row / 2 ^ 0)) (tile_box (zoom + 0) column row)) (by_one column)
    (subst (λ (r : ℕ). HasWhole (tile_box zoom column r) (tile_box (zoom + 0) column row)) (by_one row)
    (subst (λ (z : ℕ). HasWhole (tile_box zoom column row) (tile_box z column row)) (no_more zoom) whole))
whole_inside (suc k) zoom column row within =
    let outer : HasWhole (tile_box zoom (column / 2 / 2 ^ k) (row / 2 / 2 ^ k)) (tile_box (zoom + k) (column / 2) (row / 2)) =
    whole_inside k zoom (column / 2) (row / 2) (omega (arith, within)) in
    let inner : HasWhole (tile_box (zoom + k) (column / 2) (row / 2)) (tile_box (suc (zoom + k)) column row) =
    next_inside (zoom + k) column row (omega (arith, within)) in
    let more : suc (zoom + k) ≡ zoom + suc k = omega arith in
    subst (λ (c : ℕ). HasWhole (tile_box zoom c (row / 2 ^ suc k)) (tile_box (zoom + suc k) column row)) (halved column k)
    (subst (λ (r : ℕ). HasWhole (tile_box zoom (column / 2 / 2 ^ k) r) (tile_box (zoom + suc k) column row)) (halved row k)
    (subst (λ (z : ℕ). HasWhole (tile_box zoom (column / 2 / 2 ^ k) (row / 2 / 2 ^ k)) (tile_box z column row)) more (whole_on _ _ _ outer inner)))

-- ---- what reaches a tile

-- what reaches a tile reaches the tile that it is inside of
reaches_outer : (b : WorldBox) (outer inner : WorldBox) → HasWhole outer inner → Meets b inner → Meets b outer
reaches_outer b outer inner has meets = record {
  left = omega (arith, has.right, meets.left);
  right = omega (arith, has.left, meets.right);
  top = omega (arith, has.bottom, meets.top);
  bottom = omega (arith, has.top, meets.bottom);
}

module _ (z x y inner_z inner_x inner_y : ℕ) (is : IsInside z x y inner_z inner_x inner_y) where
  box_inside : inner_z ≤ MAX_ZOOM → HasWhole (tile_box z x y) (tile_box inner_z inner_x inner_y)
  box_inside within =
      let k : ℕ = inner_z - z in
      let sum : z + k ≡ inner_z = omega (arith, is.zoom) in
      subst (λ (c : ℕ). HasWhole (tile_box z c y) (tile_box inner_z inner_x inner_y)) is.column
      (subst (λ (r : ℕ). HasWhole (tile_box z (inner_x / 2 ^ k) r) (tile_box inner_z inner_x inner_y)) is.row
      (subst (λ (n : ℕ). HasWhole (tile_box z (inner_x / 2 ^ k) (inner_y / 2 ^ k)) (tile_box n inner_x inner_y)) sum
      (whole_inside k z inner_x inner_y (omega (arith, sum, within)))))

  untouched_inside : (marks : List Mark) (newest n : ℕ) → newest ≤ n → inner_z ≤ MAX_ZOOM → IsUntouched marks z x y newest
      → IsUntouched marks inner_z inner_x inner_y n
  untouched_inside marks newest n le within all =
      All-weaker (λ (m : Mark). Reaches m.0 z x y → m.1 ≤ newest) (λ (m : Mark). Reaches m.0 inner_z inner_x inner_y → m.1 ≤ n)
      (λ m low reaches.
      let low_here = low (record { ordered = reaches.ordered; meets = reaches_outer m.0 _ _ (box_inside within) reaches.meets }) in
      omega (arith, low_here, le)) marks all

-- above the greatest zoom no tile has layers
no_tile : (z x y : ℕ) → MAX_ZOOM < z → is_tile z x y ≡ false
no_tile z x y above = by (nat_le z MAX_ZOOM) refl
  where
    by : (low : Bool) → nat_le z MAX_ZOOM ≡ low → is_tile z x y ≡ false
    by true is = absurd (omega (arith, above, leb-true z MAX_ZOOM is))
    by false is = ap (λ (b : Bool). b && (nat_lt x (2 ^ z) && nat_lt y (2 ^ z))) is

nothing_above : (m : FeatureMap) (z x y : ℕ) → MAX_ZOOM < z → layers m z x y ≡ []
unfolding layers
nothing_above m z x y above =
    ap (λ (b : Bool). if b then filter_map (λ name. layer_with name (cuts_of m name z x y)) (layer_names m) else []) (no_tile z x y above)

-- Where the number of the newest edit that can have touched a tile isn't above that of a map that is known, the tiles inside of it have its layers.
pub known_inside : (m : FeatureMap) (cells : List ℕ) (last n newest : ℕ) (was : FeatureMap) (z x y inner_z inner_x inner_y : ℕ)
    → WasMap m cells last n was → IsNewestOf cells z x y newest → newest ≤ n → IsInside z x y inner_z inner_x inner_y
    → layers m inner_z inner_x inner_y ≡ layers was inner_z inner_x inner_y
known_inside m cells last n newest was z x y inner_z inner_x inner_y known newest_is le inside = ⊎_elim
    (λ (above : MAX_ZOOM < inner_z). nothing_above m inner_z inner_x inner_y above ∙ sym (nothing_above was inner_z inner_x inner_y above))
    (λ (within : inner_z ≤ MAX_ZOOM). known.tiles inner_z inner_x inner_y
    (untouched_inside z x y inner_z inner_x inner_y inside known.marks newest n le within
    (newest_of WIDE_LEVELS cells known.marks z x y newest newest_is known.remembers).reached))
    (cases_lt MAX_ZOOM inner_z)
