-- What is written is the shape that is shown.
use Rattle.std.proofs.Common.{◌≡◌, ◌==◌, ℕ, ◌^◌, ◌<◌, ◌≤◌, Bool, true, false, vec_len, List, [], ◌∷◌, ◌++◌, Option, Some, None, length, refl, sym, ap}
use Rattle.std.proofs.Common.{subst, ◌∙◌, arith}
use Rattle.std.specs.Prelude.{All, ◌↔◌, IfSome, flat_map, option_map}
use Rattle.pb_wire.specs.Varint.{varint}
use Rattle.feature_model.specs.declared.limits.TheConstants.{MAX_ZOOM}
use Rattle.feature_model.specs.Data.{FeatureData}
use Rattle.geometry_commands.specs.declared.kinds.ShapeKind.{ShapeKind}
use Rattle.geometry_commands.specs.declared.kinds.ShapeKind.TheVariants as kinds
use Rattle.geometry_commands.specs.declared.packed.PackedShape.{PackedShape}
use Rattle.geometry_commands.specs.declared.point.Pt.{Pt}
use Rattle.geometry_commands.specs.Commands.{command, steps, origin}
use Rattle.geometry_commands.specs.Faulty.{end_of}
use Rattle.geometry_commands.specs.Packed.{Adds}
use Rattle.geometry_commands.specs.Shapes.{ShapeView, points, lines, rings, last_of, lines_spelled}
use Rattle.tile_cutter.specs.Cut.{unless_empty, geometry_cut, has_zoom, feature_cut, shown_with}
use Rattle.tile_cutter.specs.Put.{IsClear, HasPut, Shows}
use Rattle.tile_cutter.specs.Range.{IsOfTile, IsDrawable}
use Rattle.tile_cutter.proofs.PutLists.{no_bytes, some_lists}
use Rattle.tile_cutter.proofs.Spelled.{origin_of_tile, spelled_lines, spelled_points, some_length, none_length}

pub clear_cursor : (zoom column row : ℕ) (old : PackedShape) → zoom ≤ MAX_ZOOM → column < 2 ^ zoom → row < 2 ^ zoom → IsClear old
    → IsOfTile column row old.at
clear_cursor zoom column row old allowed across down clear = subst (IsOfTile column row) (sym clear.at) (origin_of_tile zoom column row allowed across down)

nothing_put : {X : Type 0} (shape : List X → ShapeView) (xs : List X) (new : PackedShape) → xs ≡ [] → HasPut new None (unless_empty shape xs)
nothing_put shape xs new none = subst (λ ys. HasPut new None (unless_empty shape ys)) (sym none) tt

module _ (zoom column row : ℕ) (old new : PackedShape) (allowed : zoom ≤ MAX_ZOOM) (across : column < 2 ^ zoom) (down : row < 2 ^ zoom)
    (clear : IsClear old) where
  lists_bytes : (closed : Bool) (ls : List (List Pt)) → Adds closed old new ls → new.bytes.items ≡ flat_map varint (lines_spelled closed origin ls)
  lists_bytes closed ls adds =
      adds.bytes ∙ ap (λ (r : List ℕ). r ++ flat_map varint (lines_spelled closed old.at ls)) clear.bytes
      ∙ ap (λ (p : Pt). flat_map varint (lines_spelled closed p ls)) clear.at

  lists_end : (closed : Bool) (ls : List (List Pt)) → Adds closed old new ls → new.at ≡ end_of origin ls
  lists_end closed ls adds = adds.at ∙ ap (λ (p : Pt). end_of p ls) clear.at

  -- without bytes no list is shown
  pub none_are_put : (closed : Bool) (shape : List (List Pt) → ShapeView) (ls : List (List Pt)) → Adds closed old new ls
      → All (IsDrawable closed column row) ls → (vec_len new.bytes == 0) ≡ true → HasPut new None (unless_empty shape ls)
  none_are_put closed shape ls adds all none =
      nothing_put shape ls new (no_bytes closed column row old new clear ls adds all (none_length new.bytes none))

  -- and with bytes one is
  some_are_put : (closed : Bool) (ls : List (List Pt)) → Adds closed old new ls → (vec_len new.bytes == 0) ≡ false → 0 < length ls
  some_are_put closed ls adds some = some_lists closed column row old new clear ls adds (some_length new.bytes some)

  put_as_lines : (ls : List (List Pt)) → 0 < length ls → Adds false old new ls → All (IsDrawable false column row) ls
      → HasPut new (Some kinds.Lines) (unless_empty lines ls)
  put_as_lines [] some adds all = absurd (omega arith)
  put_as_lines (l ∷ ls) some adds all = record {
    packed = record { bytes = lists_bytes false (l ∷ ls) adds; at = lists_end false (l ∷ ls) adds };
    kind_is = refl;
    can = spelled_lines false zoom column row (l ∷ ls) allowed across down all;
  }

  pub lines_are_put : (ls : List (List Pt)) → Adds false old new ls → All (IsDrawable false column row) ls → (vec_len new.bytes == 0) ≡ false
      → HasPut new (Some kinds.Lines) (unless_empty lines ls)
  lines_are_put ls adds all some = put_as_lines ls (some_are_put false ls adds some) adds all

  put_as_rings : (ls : List (List Pt)) → 0 < length ls → Adds true old new ls → All (IsDrawable true column row) ls
      → HasPut new (Some kinds.Polygons) (unless_empty rings ls)
  put_as_rings [] some adds all = absurd (omega arith)
  put_as_rings (l ∷ ls) some adds all = record {
    packed = record { bytes = lists_bytes true (l ∷ ls) adds; at = lists_end true (l ∷ ls) adds };
    kind_is = refl;
    can = spelled_lines true zoom column row (l ∷ ls) allowed across down all;
  }

  pub rings_are_put : (ls : List (List Pt)) → Adds true old new ls → All (IsDrawable true column row) ls → (vec_len new.bytes == 0) ≡ false
      → HasPut new (Some kinds.Polygons) (unless_empty rings ls)
  rings_are_put ls adds all some = put_as_rings ls (some_are_put true ls adds some) adds all

  pub points_are_put : (ps : List Pt) (count : ℕ) (begun : PackedShape) → 0 < count → count ≡ length ps → length ps < 2 ^ 29
      → begun.bytes.items ≡ old.bytes.items ++ varint (command 1 count) → begun.at ≡ old.at
      → new.bytes.items ≡ begun.bytes.items ++ flat_map varint (steps begun.at ps) → new.at ≡ last_of begun.at ps → All (IsOfTile column row) ps
      → HasPut new (Some kinds.Points) (unless_empty points ps)
  points_are_put [] count begun some count_is few bytes at more end all = absurd (omega (arith, some, count_is))
  points_are_put (p ∷ ps) count begun some count_is few bytes at more end all =
      let starts : begun.at ≡ origin = at ∙ clear.at in
      record {
        packed = record {
          bytes = more ∙ rw (bytes, clear.bytes, count_is) (ap (λ (q : Pt). varint (command 1 (length (p ∷ ps))) ++ flat_map varint (steps q (p ∷ ps))) starts);
          at = end ∙ ap (λ (q : Pt). last_of q (p ∷ ps)) starts;
        };
        kind_is = refl;
        can = spelled_points zoom column row (p ∷ ps) allowed across down (omega arith) few all;
      }

-- ---- features

-- a feature of a zoom by its geometry
cut_is : (f : FeatureData) (zoom column row : ℕ) → has_zoom f zoom ≡ true
    → feature_cut f zoom column row ≡ option_map (shown_with f.tags) (geometry_cut zoom column row f.geometry)
unfolding feature_cut
cut_is f zoom column row e = rw e refl

pub hidden_by_zoom : (f : FeatureData) (zoom column row : ℕ) → has_zoom f zoom ≡ false → feature_cut f zoom column row ≡ None
unfolding feature_cut
hidden_by_zoom f zoom column row e = rw e refl

none_where : (out : PackedShape) (f : FeatureData) (o : Option ShapeKind) (s : Option ShapeView) → HasPut out o s
    → (o ≡ None) ↔ (option_map (shown_with f.tags) s ≡ None)
none_where out f None None put = (λ e. refl, λ e. refl)
none_where out f (Some kind) (Some s) put = (λ e. absurd cc, λ e. absurd cc)
none_where out f None (Some s) put = absurd put
none_where out f (Some kind) None put = absurd put

pub shown_or_none : (out : PackedShape) (f : FeatureData) (zoom column row : ℕ) (o : Option ShapeKind) → has_zoom f zoom ≡ true
    → HasPut out o (geometry_cut zoom column row f.geometry) → (o ≡ None) ↔ (feature_cut f zoom column row ≡ None)
shown_or_none out f zoom column row o e put =
    subst (λ c. (o ≡ None) ↔ (c ≡ None)) (sym (cut_is f zoom column row e)) (none_where out f o (geometry_cut zoom column row f.geometry) put)

shown_by : (out : PackedShape) (f : FeatureData) (zoom column row : ℕ) (o : Option ShapeKind) (s : Option ShapeView)
    → feature_cut f zoom column row ≡ option_map (shown_with f.tags) s → HasPut out o s → IfSome o (λ kind. Shows f zoom column row out kind)
shown_by out f zoom column row None s cut put = tt
shown_by out f zoom column row (Some kind) (Some s) cut put = record { shape = s; cut = cut; put = put }
shown_by out f zoom column row (Some kind) None cut put = absurd put

pub what_is_shown : (out : PackedShape) (f : FeatureData) (zoom column row : ℕ) (o : Option ShapeKind) → has_zoom f zoom ≡ true
    → HasPut out o (geometry_cut zoom column row f.geometry) → IfSome o (λ kind. Shows f zoom column row out kind)
what_is_shown out f zoom column row o e put =
    shown_by out f zoom column row o (geometry_cut zoom column row f.geometry) (cut_is f zoom column row e) put
