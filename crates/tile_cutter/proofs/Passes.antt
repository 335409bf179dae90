-- One pass over the points that an iterator gives: each is looked at once, with the one before it.
use Rattle.std.proofs.Common.{◌≡◌, ℕ, ◌*◌, ◌==◌, Bool, true, false, cond, not, ◌&&◌, List, [], ◌∷◌, ◌++◌, Option, Some, None, map}
use Rattle.std.proofs.Common.{pos, ◌-ℤ◌, refl, sym, ap, ◌∙◌, append_assoc, arith}
use Rattle.std.specs.Prelude.{All, filter}
use Rattle.std.specs.List.{dedup_from}
use Rattle.std.specs.Ordering.{int_eq}
use Rattle.std.proofs.lemmas.List.{append-nil}
use Rattle.std.proofs.lemmas.List.Elements.{All-nil, All-push}
use Rattle.std.proofs.lemmas.Int.{ints}
use Rattle.std.proofs.lemmas.Bool.Decides.{Decides-int_eq, Decides-eqb, Decides-and, Decides-like, same_from_decides}
use Rattle.feature_model.specs.declared.feature.World.{World}
use Rattle.geometry_commands.specs.declared.point.Pt.{Pt}
use Rattle.tile_cutter.specs.declared.coordinates.TheConstants.{EXTENT}
use Rattle.tile_cutter.specs.Cut.{quantised, is_same, position_in, tile_points, in_box, points_cut}
use Rattle.tile_cutter.specs.Passes.{is_same_position, repeats, is_shown}
use Rattle.tile_cutter.specs.Range.{IsOfTile}

-- the points of a tile that are left, after one that is there or not
unfoldable pub left_after : Option Pt → List Pt → List Pt
left_after before [] = []
left_after before (p ∷ ps) = cond (repeats before p) (left_after (Some p) ps) (p ∷ left_after (Some p) ps)

-- the coordinates of a point of the world
abbrev pub stands_at : ℕ → ℕ → ℕ → World → Pt
stands_at zoom column row p = position_in column row (quantised zoom p)

side_same : (a b k : ℕ) → int_eq (pos a -ℤ pos k) (pos b -ℤ pos k) ≡ (a == b)
side_same a b k = same_from_decides (int_eq (pos a -ℤ pos k) (pos b -ℤ pos k)) (a == b) (Decides-int_eq (pos a -ℤ pos k) (pos b -ℤ pos k))
    (Decides-like (a == b) (λ (e : a ≡ b). omega (arith, ints)) (λ (e : pos a -ℤ pos k ≡ pos b -ℤ pos k). omega (arith, ints)) (Decides-eqb a b))

-- two points have one position if they are one point
pub position_same : (column row : ℕ) (p q : World) → is_same_position (position_in column row p) (position_in column row q) ≡ is_same p q
position_same column row p q = rw (side_same p.x q.x (EXTENT * column), side_same p.y q.y (EXTENT * row)) refl

world_same : (p q : World) → is_same p q ≡ true → p ≡ q
world_same p q e =
    let both = (Decides-and (p.x == q.x) (p.y == q.y) (Decides-eqb p.x q.x) (Decides-eqb p.y q.y)).0 e in
    ap (λ a. let w : World = record { x = a; y = p.y } in w) both.0 ∙ ap (λ b. let w : World = record { x = q.x; y = b } in w) both.1

pub same_place : (p q : Pt) → is_same_position p q ≡ true → p ≡ q
same_place p q e =
    let both = (Decides-and (int_eq p.x q.x) (int_eq p.y q.y) (Decides-int_eq p.x q.x) (Decides-int_eq p.y q.y)).0 e in
    λ i. record { x = both.0 i; y = both.1 i }

-- what comes after a point
positions_after : (column row : ℕ) (k : World) (ps : List World)
    → map (position_in column row) (dedup_from is_same k ps)
    ≡ position_in column row k ∷ left_after (Some (position_in column row k)) (map (position_in column row) ps)
unfolding left_after
positions_after column row k [] = refl
positions_after column row k (p ∷ ps) =
    rw (position_same column row p k) (go (is_same p k) refl (positions_after column row k ps) (positions_after column row p ps))
  where
    go : (b : Bool) → is_same p k ≡ b
        → map (position_in column row) (dedup_from is_same k ps)
        ≡ position_in column row k ∷ left_after (Some (position_in column row k)) (map (position_in column row) ps)
        → map (position_in column row) (dedup_from is_same p ps)
        ≡ position_in column row p ∷ left_after (Some (position_in column row p)) (map (position_in column row) ps)
        → map (position_in column row) (cond b (dedup_from is_same k ps) (k ∷ dedup_from is_same p ps))
        ≡ position_in column row k ∷ cond b (left_after (Some (position_in column row p)) (map (position_in column row) ps))
        (position_in column row p ∷ left_after (Some (position_in column row p)) (map (position_in column row) ps))
    go true e behind_k behind_p = rw (world_same p k e) behind_k
    go false e behind_k behind_p = ap (λ rest. position_in column row k ∷ rest) behind_p

map_twice : (zoom column row : ℕ) (ps : List World) → map (position_in column row) (map (quantised zoom) ps) ≡ map (stands_at zoom column row) ps
map_twice zoom column row [] = refl
map_twice zoom column row (p ∷ ps) = ap (λ rest. stands_at zoom column row p ∷ rest) (map_twice zoom column row ps)

-- the points of a tile, in one pass
pub tile_points_are : (zoom column row : ℕ) (ps : List World) → left_after None (map (stands_at zoom column row) ps) ≡ tile_points zoom column row ps
unfolding left_after
tile_points_are zoom column row [] = refl
tile_points_are zoom column row (p ∷ ps) =
    ap (λ rest. stands_at zoom column row p ∷ left_after (Some (stands_at zoom column row p)) rest) (sym (map_twice zoom column row ps))
    ∙ sym (positions_after column row (quantised zoom p) (map (quantised zoom) ps))

-- a pass at the next point of those that are left, and at the end
pub stands_item : {X : Type 0} (F : List Pt → X) (zoom column row : ℕ) (left rest : List World) (x : World) (here : Pt) (whole : X) → left ≡ x ∷ rest
    → here ≡ stands_at zoom column row x → F (map (stands_at zoom column row) left) ≡ whole → F (here ∷ map (stands_at zoom column row) rest) ≡ whole
stands_item F zoom column row left rest x here whole first at so_far =
    rw at (ap (λ ps. F (map (stands_at zoom column row) ps)) (sym first) ∙ so_far)

pub stands_over : {X : Type 0} (F : List Pt → X) (zoom column row : ℕ) (left : List World) (whole : X) → left ≡ []
    → F (map (stands_at zoom column row) left) ≡ whole → F [] ≡ whole
stands_over F zoom column row left whole none so_far = ap (λ ps. F (map (stands_at zoom column row) ps)) (sym none) ∙ so_far

-- ---- a pass that keeps points

-- what such a pass leaves of a list, after a point that is there or not: each point that passes the test
pub record IsPass (keeps : Option Pt → Pt → Bool) (after : Option Pt → List Pt → List Pt) : Type 0 where
  pub none : (before : Option Pt) → after before [] ≡ []
  pub more : (before : Option Pt) (p : Pt) (ps : List Pt) → after before (p ∷ ps) ≡ cond (keeps before p) (p ∷ after (Some p) ps) (after (Some p) ps)

-- what was kept so far, all of them points of the tile, is the whole with what the points that are left leave
pub record HasKept (after : Option Pt → List Pt → List Pt) (zoom column row : ℕ) (left : List World) (whole kept : List Pt) (before : Option Pt) : Type 0 where
  pub joined : kept ++ after before (map (stands_at zoom column row) left) ≡ whole
  pub of_tile : All (IsOfTile column row) kept

pub pass_begins : (after : Option Pt → List Pt → List Pt) (zoom column row : ℕ) (ps : List World) (whole : List Pt)
    → after None (map (stands_at zoom column row) ps) ≡ whole → HasKept after zoom column row ps whole [] None
pass_begins after zoom column row ps whole is = record { joined = is; of_tile = All-nil (IsOfTile column row) }

module _ (keeps : Option Pt → Pt → Bool) (after : Option Pt → List Pt → List Pt) (pass : IsPass keeps after) where
  -- one point more
  one_more : (before : Option Pt) (here : Pt) (rest kept whole : List Pt) (b : Bool) → keeps before here ≡ b → kept ++ after before (here ∷ rest) ≡ whole
      → cond b (kept ++ here ∷ []) kept ++ after (Some here) rest ≡ whole
  one_more before here rest kept whole true is so_far =
      append_assoc kept (here ∷ []) (after (Some here) rest) ∙ ap (λ r. kept ++ r) (sym (rw is at (pass.more before here rest))) ∙ so_far
  one_more before here rest kept whole false is so_far = ap (λ r. kept ++ r) (sym (rw is at (pass.more before here rest))) ∙ so_far

  all_more : (column row : ℕ) (here : Pt) (kept : List Pt) (b : Bool) → All (IsOfTile column row) kept → IsOfTile column row here
      → All (IsOfTile column row) (cond b (kept ++ here ∷ []) kept)
  all_more column row here kept true all is = All-push (IsOfTile column row) kept here all is
  all_more column row here kept false all is = all

  pub pass_item : (zoom column row : ℕ) (left rest : List World) (x : World) (whole kept kept' : List Pt) (before : Option Pt) (here : Pt)
      → HasKept after zoom column row left whole kept before → left ≡ x ∷ rest → here ≡ stands_at zoom column row x → IsOfTile column row here
      → kept' ≡ cond (keeps before here) (kept ++ here ∷ []) kept → HasKept after zoom column row rest whole kept' (Some here)
  pass_item zoom column row left rest x whole kept kept' before here so_far first at of_tile is =
      let here_left = stands_item (λ (r : List Pt). kept ++ after before r) zoom column row left rest x here whole first at so_far.joined in
      record {
        joined = rw is (one_more before here (map (stands_at zoom column row) rest) kept whole (keeps before here) refl here_left);
        of_tile = rw is (all_more column row here kept (keeps before here) so_far.of_tile of_tile);
      }

  pub pass_over : (zoom column row : ℕ) (left : List World) (whole kept : List Pt) (before : Option Pt)
      → HasKept after zoom column row left whole kept before → left ≡ [] → kept ≡ whole
  pass_over zoom column row left whole kept before so_far none =
      sym (append-nil kept) ∙ ap (λ r. kept ++ r) (sym (pass.none before))
      ∙ stands_over (λ (r : List Pt). kept ++ after before r) zoom column row left whole none so_far.joined

-- ---- points

abbrev pub shown_after : Option Pt → List Pt → List Pt
shown_after before ps = filter in_box (left_after before ps)

shown_more : (before : Option Pt) (p : Pt) (ps : List Pt)
    → shown_after before (p ∷ ps) ≡ cond (is_shown before p) (p ∷ shown_after (Some p) ps) (shown_after (Some p) ps)
unfolding left_after
shown_more before p ps = go (repeats before p)
  where
    go : (b : Bool)
        → filter in_box (cond b (left_after (Some p) ps) (p ∷ left_after (Some p) ps))
        ≡ cond (not b && in_box p) (p ∷ shown_after (Some p) ps) (shown_after (Some p) ps)
    go true = refl
    go false = refl

shown_none : (before : Option Pt) → shown_after before [] ≡ []
unfolding left_after
shown_none before = refl

pub shown_pass : IsPass is_shown shown_after
shown_pass = record { none = shown_none; more = shown_more }

pub points_begin : (zoom column row : ℕ) (ps : List World) → shown_after None (map (stands_at zoom column row) ps) ≡ points_cut zoom column row ps
unfolding points_cut
points_begin zoom column row ps = ap (filter in_box) (tile_points_are zoom column row ps)

-- ---- rings

abbrev pub is_new : Option Pt → Pt → Bool
is_new before p = not (repeats before p)

left_more : (before : Option Pt) (p : Pt) (ps : List Pt)
    → left_after before (p ∷ ps) ≡ cond (is_new before p) (p ∷ left_after (Some p) ps) (left_after (Some p) ps)
unfolding left_after
left_more before p ps = go (repeats before p)
  where
    go : (b : Bool)
        → cond b (left_after (Some p) ps) (p ∷ left_after (Some p) ps) ≡ cond (not b) (p ∷ left_after (Some p) ps) (left_after (Some p) ps)
    go true = refl
    go false = refl

left_none : (before : Option Pt) → left_after before [] ≡ []
unfolding left_after
left_none before = refl

pub ring_pass : IsPass is_new left_after
ring_pass = record { none = left_none; more = left_more }
