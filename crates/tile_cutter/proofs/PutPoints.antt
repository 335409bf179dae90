-- Points that are written one after the other.
use Rattle.std.proofs.Common.{◌≡◌, ℕ, ◌+◌, ◌≤◌, suc, Bool, true, false, cond, List, [], ◌∷◌, ◌++◌, Option, Some, None, length, refl, sym}
use Rattle.std.proofs.Common.{ap, subst, ◌∙◌, arith}
use Rattle.std.specs.Prelude.{All, flat_map}
use Rattle.std.proofs.lemmas.List.{append-nil, length-append}
use Rattle.pb_wire.specs.Varint.{varint}
use Rattle.feature_model.specs.declared.feature.World.{World}
use Rattle.geometry_commands.specs.declared.packed.PackedShape.{PackedShape}
use Rattle.geometry_commands.specs.declared.point.Pt.{Pt}
use Rattle.geometry_commands.specs.Commands.{step, steps}
use Rattle.geometry_commands.specs.Shapes.{last_of}
use Rattle.geometry_commands.proofs.Packing.{steps_push, last_append, packed_more}
use Rattle.tile_cutter.specs.Cut.{points_cut}
use Rattle.tile_cutter.specs.Passes.{is_shown}
use Rattle.tile_cutter.specs.Range.{IsOfTile}
use Rattle.tile_cutter.proofs.Passes.{HasKept, shown_after, shown_pass, stands_at, points_begin, pass_begins, pass_item, pass_over}

-- ---- a count

pub record CountGoes (zoom column row : ℕ) (points left : List World) (count : ℕ) (before : Option Pt) : Type 0 where
  pub kept : List Pt
  pub has : HasKept shown_after zoom column row left (points_cut zoom column row points) kept before
  pub count_is : count ≡ length kept
  pub few : count + length left ≤ length points

pub count_begins : (zoom column row : ℕ) (points : List World) → CountGoes zoom column row points points 0 None
count_begins zoom column row points = record {
  kept = [];
  has = pass_begins shown_after zoom column row points (points_cut zoom column row points) (points_begin zoom column row points);
  count_is = refl;
  few = omega arith;
}

pub count_item : (zoom column row : ℕ) (points left rest : List World) (x : World) (count count' : ℕ) (before : Option Pt) (here : Pt)
    → CountGoes zoom column row points left count before → left ≡ x ∷ rest → here ≡ stands_at zoom column row x → IsOfTile column row here
    → count' ≡ cond (is_shown before here) (suc count) count → CountGoes zoom column row points rest count' (Some here)
count_item zoom column row points left rest x count count' before here so_far first at of_tile is = go (is_shown before here) refl is
  where
    kept' : Bool → List Pt
    kept' b = cond b (so_far.kept ++ here ∷ []) so_far.kept

    one_less : length left ≡ suc (length rest)
    one_less = ap length first

    has' : (b : Bool) → is_shown before here ≡ b → HasKept shown_after zoom column row rest (points_cut zoom column row points) (kept' b) (Some here)
    has' b shown =
        pass_item is_shown shown_after shown_pass zoom column row left rest x (points_cut zoom column row points) so_far.kept (kept' b) before here so_far.has
        first at of_tile (ap kept' (sym shown))

    go : (b : Bool) → is_shown before here ≡ b → count' ≡ cond b (suc count) count → CountGoes zoom column row points rest count' (Some here)
    go true shown count_is = record {
      kept = kept' true;
      has = has' true shown;
      count_is = omega (arith, count_is, so_far.count_is, length-append so_far.kept (here ∷ []));
      few = omega (arith, count_is, so_far.few, one_less);
    }
    go false shown count_is = record {
      kept = kept' false;
      has = has' false shown;
      count_is = omega (arith, count_is, so_far.count_is);
      few = omega (arith, count_is, so_far.few, one_less);
    }

pub count_over : (zoom column row : ℕ) (points left : List World) (count : ℕ) (before : Option Pt) → CountGoes zoom column row points left count before
    → left ≡ [] → count ≡ length (points_cut zoom column row points)
count_over zoom column row points left count before so_far none =
    so_far.count_is
    ∙ ap length (pass_over is_shown shown_after shown_pass zoom column row left (points_cut zoom column row points) so_far.kept before so_far.has none)

-- ---- the way along them

pub record PointsGo (zoom column row : ℕ) (points left : List World) (old out : PackedShape) (before : Option Pt) : Type 0 where
  pub kept : List Pt
  pub has : HasKept shown_after zoom column row left (points_cut zoom column row points) kept before
  pub bytes : out.bytes.items ≡ old.bytes.items ++ flat_map varint (steps old.at kept)
  pub at : out.at ≡ last_of old.at kept
  pub cursor : IsOfTile column row out.at

pub points_go : (zoom column row : ℕ) (points : List World) (old : PackedShape) → IsOfTile column row old.at
    → PointsGo zoom column row points points old old None
points_go zoom column row points old cursor = record {
  kept = [];
  has = pass_begins shown_after zoom column row points (points_cut zoom column row points) (points_begin zoom column row points);
  bytes = sym (append-nil old.bytes.items);
  at = refl;
  cursor = cursor;
}

module _ (zoom column row : ℕ) (points left rest : List World) (x : World) (here : Pt) (old out : PackedShape) (before : Option Pt)
    (so_far : PointsGo zoom column row points left old out before) (first : left ≡ x ∷ rest) (stands : here ≡ stands_at zoom column row x)
    (of_tile : IsOfTile column row here) where
  pub point_put : (out' : PackedShape) → is_shown before here ≡ true → out'.bytes.items ≡ out.bytes.items ++ flat_map varint (step out.at here) → out'.at ≡ here
      → PointsGo zoom column row points rest old out' (Some here)
  point_put out' shown bytes at = record {
    kept = so_far.kept ++ here ∷ [];
    has = pass_item is_shown shown_after shown_pass zoom column row left rest x (points_cut zoom column row points) so_far.kept (so_far.kept ++ here ∷ [])
        before here so_far.has first stands of_tile (rw shown refl);
    bytes = packed_more out.bytes.items out'.bytes.items old.bytes.items (steps old.at so_far.kept) (step (last_of old.at so_far.kept) here) so_far.bytes
        (bytes ∙ ap (λ (p : Pt). out.bytes.items ++ flat_map varint (step p here)) so_far.at)
        ∙ ap (λ (r : List ℕ). old.bytes.items ++ flat_map varint r) (sym (steps_push old.at so_far.kept here));
    at = at ∙ sym (last_append old.at so_far.kept (here ∷ []));
    cursor = subst (IsOfTile column row) (sym at) of_tile;
  }

  pub point_left : is_shown before here ≡ false → PointsGo zoom column row points rest old out (Some here)
  point_left hidden = record {
    kept = so_far.kept;
    has = pass_item is_shown shown_after shown_pass zoom column row left rest x (points_cut zoom column row points) so_far.kept so_far.kept
        before here so_far.has first stands of_tile (rw hidden refl);
    bytes = so_far.bytes;
    at = so_far.at;
    cursor = so_far.cursor;
  }

module _ (zoom column row : ℕ) (points left : List World) (old out : PackedShape) (before : Option Pt)
    (so_far : PointsGo zoom column row points left old out before) (none : left ≡ []) where
  pub kept_is : so_far.kept ≡ points_cut zoom column row points
  kept_is = pass_over is_shown shown_after shown_pass zoom column row left (points_cut zoom column row points) so_far.kept before so_far.has none

  pub points_bytes : out.bytes.items ≡ old.bytes.items ++ flat_map varint (steps old.at (points_cut zoom column row points))
  points_bytes = so_far.bytes ∙ ap (λ ps. old.bytes.items ++ flat_map varint (steps old.at ps)) kept_is

  pub points_at : out.at ≡ last_of old.at (points_cut zoom column row points)
  points_at = so_far.at ∙ ap (last_of old.at) kept_is

  pub points_of_tile : All (IsOfTile column row) (points_cut zoom column row points)
  points_of_tile = subst (All (IsOfTile column row)) kept_is so_far.has.of_tile
