-- What is trusted is what is read: geometries, and features.
use Rattle.std.proofs.Common.{◌≡◌, ℕ, zero, suc, ◌*◌, ◌≤◌, ◌==◌, ◌&&◌, inl, inr, List, [], ◌∷◌, length, take, drop, Ok, nat_le}
use Rattle.std.proofs.Common.{refl, sym, ap, ◌∙◌, arith}
use Rattle.std.proofs.lemmas.Bool.{cases_lt}
use Rattle.std.proofs.lemmas.List.{length-drop}
use Rattle.std.specs.Int.{w32, from_le_bytes}
use Rattle.feature_model.specs.declared.feature.World.{World}
use Rattle.feature_model.specs.declared.limits.TheConstants.{MAX_ZOOM, MIN_LINE, MIN_RING}
use Rattle.feature_model.specs.Data.{world_points, world_lines, world_polygons}
use Rattle.feature_model.specs.Limits.{is_count}
use Rattle.reader.proofs.Steps.{then_ok, not_both, same_value}
use Rattle.edit_text.specs.declared.fault.TextFault.TheVariants.{Cut}
use Rattle.edit_text.specs.Reading.{read_as, read_if, byte_at, two_at, four_at, point_at, count_at, line_at, lines_at, polygons_at, many_at}
use Rattle.edit_text.specs.Reading.{geometry_behind, geometry_at, name_at, tags_at, zooms_at, feature_at}
use Rattle.edit_text.proofs.PointLists.{points_cut}
use Rattle.edit_text.specs.Trusted.{Front, byte_in, count_in, name_in, each_in, point_in, points_of, line_in, lines_in, polygons_in, shape_in, geometry_in}
use Rattle.edit_text.specs.Trusted.{tags_in, feature_in}
use Rattle.edit_text.proofs.Trust.{Trusts, trust_if, trust_as, trust_then, trust_cond, trust_last, trust_many}
use Rattle.edit_text.proofs.TrustedTexts.{trust_byte, front_as, trust_two, trust_name, trust_tags}

-- ---- points

-- both numbers of a point are there
point_long : (bytes : List ℕ) (x : World × List ℕ) → point_at bytes ≡ Ok x
    → (8 ≤ length bytes) × ((record { x = from_le_bytes w32 (take 4 bytes); y = from_le_bytes w32 (take 4 (drop 4 bytes)) }, drop 4 (drop 4 bytes)) ≡ x)
unfolding point_at four_at
point_long bytes x e =
    let t = then_ok (four_at bytes) (λ a. read_as (λ y. record { x = a.0; y = y }) (four_at a.1)) x e in
    let one = front_as (from_le_bytes w32) 4 bytes t.0 t.1 in
    let u = then_ok (four_at t.0.1) (λ b. Ok (record { x = t.0.0; y = b.0 }, b.1)) x t.2 in
    let two = front_as (from_le_bytes w32) 4 (drop 4 bytes) u.0 (ap (λ a. four_at a.1) one.1 ∙ u.1) in (
      omega (arith, one.0, two.0, length-drop 4 bytes),
      ap (λ a. (record { x = a.0; y = from_le_bytes w32 (take 4 (drop 4 bytes)) }, drop 4 (drop 4 bytes))) one.1
          ∙ ap (λ b. (record { x = t.0.0; y = b.0 }, b.1)) two.1
          ∙ same_value _ x u.2,
    )

trust_point : Trusts point_at point_in
unfolding point_in
trust_point (a ∷ b ∷ c ∷ d ∷ e ∷ f ∷ g ∷ h ∷ rest) x is = (point_long (a ∷ b ∷ c ∷ d ∷ e ∷ f ∷ g ∷ h ∷ rest) x is).1
trust_point [] x is = absurd (omega (arith, (point_long [] x is).0))
trust_point (a ∷ []) x is = absurd (omega (arith, (point_long (a ∷ []) x is).0))
trust_point (a ∷ b ∷ []) x is = absurd (omega (arith, (point_long (a ∷ b ∷ []) x is).0))
trust_point (a ∷ b ∷ c ∷ []) x is = absurd (omega (arith, (point_long (a ∷ b ∷ c ∷ []) x is).0))
trust_point (a ∷ b ∷ c ∷ d ∷ []) x is = absurd (omega (arith, (point_long (a ∷ b ∷ c ∷ d ∷ []) x is).0))
trust_point (a ∷ b ∷ c ∷ d ∷ e ∷ []) x is = absurd (omega (arith, (point_long (a ∷ b ∷ c ∷ d ∷ e ∷ []) x is).0))
trust_point (a ∷ b ∷ c ∷ d ∷ e ∷ f ∷ []) x is = absurd (omega (arith, (point_long (a ∷ b ∷ c ∷ d ∷ e ∷ f ∷ []) x is).0))
trust_point (a ∷ b ∷ c ∷ d ∷ e ∷ f ∷ g ∷ []) x is = absurd (omega (arith, (point_long (a ∷ b ∷ c ∷ d ∷ e ∷ f ∷ g ∷ []) x is).0))

abbrev points_front : ℕ → Front (List World)
points_front count bytes = (points_of (take (8 * count) bytes), drop (8 * count) bytes)

-- `count` points are the points of as many times eight bytes
each_points : (count : ℕ) (bytes : List ℕ) → 8 * count ≤ length bytes → each_in point_in count bytes ≡ points_front count bytes
unfolding each_in point_in points_of
each_points zero bytes l = refl
each_points (suc more) (a ∷ b ∷ c ∷ d ∷ e ∷ f ∷ g ∷ h ∷ rest) l =
    let long : 8 * suc more ≡ suc (suc (suc (suc (suc (suc (suc (suc (8 * more)))))))) = omega arith in
    rw long (ap (λ (r : List World × List ℕ). ((point_in (a ∷ b ∷ c ∷ d ∷ e ∷ f ∷ g ∷ h ∷ rest)).0 ∷ r.0, r.1)) (each_points more rest (omega arith)))
each_points (suc more) [] l = absurd (omega arith)
each_points (suc more) (a ∷ []) l = absurd (omega arith)
each_points (suc more) (a ∷ b ∷ []) l = absurd (omega arith)
each_points (suc more) (a ∷ b ∷ c ∷ []) l = absurd (omega arith)
each_points (suc more) (a ∷ b ∷ c ∷ d ∷ []) l = absurd (omega arith)
each_points (suc more) (a ∷ b ∷ c ∷ d ∷ e ∷ []) l = absurd (omega arith)
each_points (suc more) (a ∷ b ∷ c ∷ d ∷ e ∷ f ∷ []) l = absurd (omega arith)
each_points (suc more) (a ∷ b ∷ c ∷ d ∷ e ∷ f ∷ g ∷ []) l = absurd (omega arith)

trust_points : (count : ℕ) → Trusts (many_at (λ _. point_at) count []) (points_front count)
trust_points count bytes x e = elim (cases_lt (length bytes) (8 * count)) [
  | inl few ↦ absurd (not_both x Cut (sym e ∙ points_cut count [] bytes few))
  | inr some ↦ sym (each_points count bytes some) ∙ trust_many (λ _. point_at) point_in (λ _. trust_point) count bytes x e
]

-- ---- lists

trust_count : (least : ℕ) → Trusts (count_at least) count_in
trust_count least = trust_if (is_count least) two_at count_in trust_two

trust_line : (least : ℕ) → Trusts (line_at least) line_in
unfolding line_at line_in
trust_line least = trust_then (count_at least) count_in _ points_front (trust_count least) trust_points

trust_lines : (least : ℕ) → Trusts (lines_at least) lines_in
unfolding lines_at lines_in
trust_lines least = trust_then (count_at 1) count_in _ (each_in line_in) (trust_count 1)
    (λ count. trust_many (λ _. line_at least) line_in (λ _. trust_line least) count)

trust_polygons : Trusts polygons_at polygons_in
unfolding polygons_at polygons_in
trust_polygons = trust_then (count_at 1) count_in _ (each_in lines_in) (trust_count 1)
    (λ count. trust_many (λ _. lines_at MIN_RING) lines_in (λ _. trust_lines MIN_RING) count)

-- ---- geometries

trust_shape : (kind : ℕ) → Trusts (geometry_behind kind) (shape_in kind)
unfolding geometry_behind shape_in
trust_shape kind =
    trust_cond (kind == 1) _ _ _ _ (trust_as world_points (line_at 1) line_in (trust_line 1))
    (trust_cond (kind == 2) _ _ _ _ (trust_as world_lines (lines_at MIN_LINE) lines_in (trust_lines MIN_LINE))
    (trust_last (kind == 3) _ _ (trust_as world_polygons polygons_at polygons_in trust_polygons)))

trust_geometry : Trusts geometry_at geometry_in
unfolding geometry_at geometry_in
trust_geometry = trust_then byte_at byte_in geometry_behind shape_in trust_byte trust_shape

-- ---- features

abbrev zooms_in : Front (ℕ × ℕ)
zooms_in bytes = (((byte_in bytes).0, (byte_in (byte_in bytes).1).0), (byte_in (byte_in bytes).1).1)

trust_zooms : Trusts zooms_at zooms_in
unfolding zooms_at
trust_zooms =
    trust_then (λ bytes. read_if (λ zoom. nat_le zoom MAX_ZOOM) (byte_at bytes)) byte_in _ (λ first bytes. ((first, (byte_in bytes).0), (byte_in bytes).1))
    (trust_if (λ zoom. nat_le zoom MAX_ZOOM) byte_at byte_in trust_byte)
    (λ first. trust_as (λ last. (first, last)) _ byte_in (trust_if (λ last. nat_le first last && nat_le last MAX_ZOOM) byte_at byte_in trust_byte))

pub trust_feature : Trusts feature_at feature_in
unfolding feature_at feature_in
trust_feature =
    trust_then name_at name_in _ _ trust_name (λ layer.
    trust_then zooms_at zooms_in _ _ trust_zooms (λ zooms.
    trust_then geometry_at geometry_in _ _ trust_geometry (λ geometry.
    trust_as (λ tags. record { layer = layer; minzoom = zooms.0; maxzoom = zooms.1; geometry = geometry; tags = tags }) tags_at tags_in trust_tags)))
