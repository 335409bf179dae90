-- Geometries, tied to what is read.
use Rattle.std.proofs.Common.{◌≡◌, ℕ, ◌^◌, ◌<◌, ◌≤◌, ◌⊎◌, inl, inr, true, List, [], ◌∷◌, ◌++◌, length}
use Rattle.std.proofs.Common.{drop, take, Ok, Err, refl, sym, ap, subst, ◌∙◌, All, length-append, length-drop, arith}
use Rattle.std.specs.List.{flat_map}
use Rattle.std.specs.Int.{w32, from_le_bytes}
use Rattle.std.proofs.lemmas.Bool.{cases_lt}
use Rattle.std.proofs.lemmas.Bool.Decides.{nat_tests}
use Rattle.std.proofs.lemmas.List.Elements.{All-nil, All-push}
use Rattle.feature_model.specs.declared.limits.TheConstants.{MIN_LINE, MIN_RING}
use Rattle.feature_model.specs.declared.feature.World.{World}
use Rattle.feature_model.specs.Data.{GeometryData, world_points, world_lines, world_polygons}
use Rattle.feature_model.specs.Limits.{IsCount, is_count, CountFits, GeometryFits}
use Rattle.feature_model.specs.Spelled.{two_bytes, four_bytes, spelled_list, spelled_point, spelled_line, spelled_geometry}
use Rattle.feature_model.proofs.TextLengths.{length-four_bytes}
use Rattle.edit_text.specs.declared.fault.TextFault.TheVariants.{Cut, Bad}
use Rattle.feature_model.specs.Types.{IsOfWorld, LiesInWorld}
use Rattle.edit_text.specs.Reading.{Part, then_read, read_as, many_at, two_at, count_at, four_at}
use Rattle.edit_text.specs.Reading.{point_at, list_at, line_at, lines_at, polygons_at, geometry_behind, geometry_at}
use Rattle.edit_text.specs.Cut.{EndsWithin, EndsBehind, EndsBehindKind, EndsAmong, EndsInList, EndsInLine, IsLine, EndsInRings, IsPolygon, EndsInGeometry}
use Rattle.edit_text.proofs.Codecs.{Codec, codec_same, codec_then, codec_as, codec_if}
use Rattle.edit_text.proofs.FieldCodecs.{front_long, codec_two, codec_four}
use Rattle.edit_text.proofs.ManyCodec.{codec_many, all_last, all_front}
use Rattle.edit_text.proofs.KindCodecs.{KindCodec, pick, kind_none, kind_or, codec_kinds}

-- ---- points

point_codec_parts : Codec point_at spelled_point IsOfWorld (λ bytes. EndsWithin 4 bytes ⊎ EndsBehind four_bytes (λ x. x < 2 ^ 32) (λ x. EndsWithin 4) bytes)
unfolding point_at spelled_point
point_codec_parts = codec_then four_at four_bytes (λ x. x < 2 ^ 32) (EndsWithin 4)
    (λ x rest. read_as (λ y. record { x = x; y = y }) (four_at rest)) (λ x p. four_bytes p.y) (λ x p. (p.x ≡ x) × (p.y < 2 ^ 32)) (λ x. EndsWithin 4)
    spelled_point IsOfWorld
    codec_four
    (λ x fits. codec_as four_at four_bytes (λ y. y < 2 ^ 32) (EndsWithin 4) (λ y. record { x = x; y = y }) (λ p. four_bytes p.y)
    (λ p. (p.x ≡ x) × (p.y < 2 ^ 32)) codec_four
    (λ y h l. ((refl, l), refl))
    (λ p is. (p.y, is.1, ap (λ a. record { x = a; y = p.y }) is.0, refl)))
    (λ x p fits is. ((subst (λ a. a < 2 ^ 32) (sym is.0) fits, is.1), ap (λ a. four_bytes a ++ four_bytes p.y) is.0))
    (λ p is. (p.x, is.0, (refl, is.1)))

point_short : (bytes : List ℕ) → EndsWithin 4 bytes ⊎ EndsBehind four_bytes (λ x. x < 2 ^ 32) (λ x. EndsWithin 4) bytes → EndsWithin 8 bytes
point_short bytes (inl l) = omega arith
point_short bytes (inr e) = omega (arith, ap length e.3, length-append (four_bytes e.0) e.1, length-four_bytes e.0, e.4)

four_long : (bytes : List ℕ) → 4 ≤ length bytes → four_at bytes ≡ Ok (from_le_bytes w32 (take 4 bytes), drop 4 bytes)
unfolding four_at
four_long bytes l = ap (read_as (from_le_bytes w32)) (front_long 4 bytes l)

point_ends : (bytes : List ℕ) → EndsWithin 8 bytes → (length bytes < 4) ⊎ (4 ≤ length bytes) → point_at bytes ≡ Err Cut
unfolding point_at
point_ends bytes l (inl short) = ap (λ p. then_read p (λ x rest. read_as (λ y. record { x = x; y = y }) (four_at rest))) (codec_four.ends bytes short)
point_ends bytes l (inr long) =
    ap (λ p. then_read p (λ x rest. read_as (λ y. record { x = x; y = y }) (four_at rest))) (four_long bytes long)
    ∙ ap (read_as (λ y. record { x = from_le_bytes w32 (take 4 bytes); y = y })) (codec_four.ends (drop 4 bytes) (omega (arith, length-drop 4 bytes)))

codec_point : Codec point_at spelled_point IsOfWorld (EndsWithin 8)
codec_point = record {
  found = point_codec_parts.found;
  reads = point_codec_parts.reads;
  cut = λ bytes h e. point_short bytes (point_codec_parts.cut bytes h e);
  ends = λ bytes l. point_ends bytes l (cases_lt (length bytes) 4);
}

-- ---- lists

codec_each : {A : Type 0} (read : List ℕ → Part A) (spell : A → List ℕ) (Is : A → Type 0) (Ends : List ℕ → Type 0) → Codec read spell Is Ends
    → (n : ℕ) → Codec (many_at (λ _. read) n []) (flat_map spell) (λ xs. (length xs ≡ n) × All Is xs) (EndsAmong spell (All Is) (λ _. Ends) n)
codec_each read spell Is Ends c n = codec_many (λ _. read) spell (All Is) (λ _. Ends)
    (record {
      next = λ done are. codec_same read spell Is (λ x. All Is (done ++ x ∷ [])) Ends Ends c (λ x is. All-push Is done x are is)
          (λ x a. all_last Is done x a) (λ b e. e) (λ b e. e);
      fewer = all_front Is;
    })
    (All-nil Is) n

count_passes : (least n : ℕ) → IsCount least n → is_count least n ≡ true
count_passes least n fits = grind (arith, nat_tests)

count_within : (least n : ℕ) → is_count least n ≡ true → IsCount least n
count_within least n t = grind (arith, nat_tests)

codec_count : (least : ℕ) → Codec (count_at least) two_bytes (IsCount least) (EndsWithin 2)
codec_count least = codec_if two_at two_bytes (λ n. n < 2 ^ 16) (EndsWithin 2) (is_count least) (IsCount least) codec_two
    (λ n l t. count_within least n t)
    (λ n is. (omega (arith, is.1), count_passes least n is))

codec_list : {A : Type 0} (least : ℕ) (read : List ℕ → Part A) (spell : A → List ℕ) (Is : A → Type 0) (Ends : List ℕ → Type 0) → Codec read spell Is Ends
    → Codec (list_at least read) (spelled_list spell) (λ xs. CountFits least xs × All Is xs) (EndsInList least spell Is Ends)
unfolding spelled_list
codec_list least read spell Is Ends c = codec_then (count_at least) two_bytes (IsCount least) (EndsWithin 2)
    (λ count. many_at (λ _. read) count []) (λ count xs. flat_map spell xs) (λ count xs. (length xs ≡ count) × All Is xs) (EndsAmong spell (All Is) (λ _. Ends))
    (spelled_list spell) (λ xs. CountFits least xs × All Is xs)
    (codec_count least)
    (λ count fits. codec_each read spell Is Ends c count)
    (λ count xs fits is. ((subst (IsCount least) (sym is.0) fits, is.1), ap (λ n. two_bytes n ++ flat_map spell xs) is.0))
    (λ xs is. (length xs, is.0, (refl, is.1)))

codec_line : (least : ℕ) → Codec (line_at least) spelled_line (IsLine least) (EndsInLine least)
unfolding line_at
codec_line least = codec_list least point_at spelled_point IsOfWorld (EndsWithin 8) codec_point

codec_lines : (least : ℕ) → Codec (lines_at least) (spelled_list spelled_line) (λ ls. CountFits 1 ls × All (IsLine least) ls)
    (EndsInList 1 spelled_line (IsLine least) (EndsInLine least))
unfolding lines_at
codec_lines least = codec_list 1 (line_at least) spelled_line (IsLine least) (EndsInLine least) (codec_line least)

codec_polygons : Codec polygons_at (spelled_list (spelled_list spelled_line)) (λ ps. CountFits 1 ps × All IsPolygon ps)
    (EndsInList 1 (spelled_list spelled_line) IsPolygon EndsInRings)
unfolding polygons_at
codec_polygons = codec_list 1 (lines_at MIN_RING) (spelled_list spelled_line) IsPolygon EndsInRings (codec_lines MIN_RING)

-- ---- kinds

-- the text after the kind
abbrev shape_text : GeometryData → List ℕ
shape_text (world_points points) = spelled_line points
shape_text (world_lines lines) = spelled_list spelled_line lines
shape_text (world_polygons polygons) = spelled_list (spelled_list spelled_line) polygons

abbrev ArePoints : GeometryData → Type 0
ArePoints (world_points points) = IsLine 1 points
ArePoints (world_lines lines) = ⊥
ArePoints (world_polygons polygons) = ⊥

abbrev AreLines : GeometryData → Type 0
AreLines (world_points points) = ⊥
AreLines (world_lines lines) = CountFits 1 lines × All (IsLine MIN_LINE) lines
AreLines (world_polygons polygons) = ⊥

abbrev ArePolygons : GeometryData → Type 0
ArePolygons (world_points points) = ⊥
ArePolygons (world_lines lines) = ⊥
ArePolygons (world_polygons polygons) = CountFits 1 polygons × All IsPolygon polygons

split_points : (g : GeometryData) → ArePoints g → (points : List World) × IsLine 1 points × (g ≡ world_points points) × (shape_text g ≡ spelled_line points)
split_points (world_points points) is = (points, is, refl, refl)
split_points (world_lines lines) is = absurd is
split_points (world_polygons polygons) is = absurd is

split_lines : (g : GeometryData) → AreLines g → (lines : List (List World)) × (CountFits 1 lines × All (IsLine MIN_LINE) lines) × (g ≡ world_lines lines)
    × (shape_text g ≡ spelled_list spelled_line lines)
split_lines (world_points points) is = absurd is
split_lines (world_lines lines) is = (lines, is, refl, refl)
split_lines (world_polygons polygons) is = absurd is

split_polygons : (g : GeometryData) → ArePolygons g → (polygons : List (List (List World))) × (CountFits 1 polygons × All IsPolygon polygons)
    × (g ≡ world_polygons polygons) × (shape_text g ≡ spelled_list (spelled_list spelled_line) polygons)
split_polygons (world_points points) is = absurd is
split_polygons (world_lines lines) is = absurd is
split_polygons (world_polygons polygons) is = (polygons, is, refl, refl)

points_text : (g : GeometryData) → ArePoints g → spelled_geometry g ≡ 1 ∷ shape_text g
unfolding spelled_geometry
points_text (world_points points) is = refl
points_text (world_lines lines) is = absurd is
points_text (world_polygons polygons) is = absurd is

lines_text : (g : GeometryData) → AreLines g → spelled_geometry g ≡ 2 ∷ shape_text g
unfolding spelled_geometry
lines_text (world_points points) is = absurd is
lines_text (world_lines lines) is = refl
lines_text (world_polygons polygons) is = absurd is

polygons_text : (g : GeometryData) → ArePolygons g → spelled_geometry g ≡ 3 ∷ shape_text g
unfolding spelled_geometry
polygons_text (world_points points) is = absurd is
polygons_text (world_lines lines) is = absurd is
polygons_text (world_polygons polygons) is = refl

abbrev pub IsGeometry : GeometryData → Type 0
IsGeometry g = GeometryFits g × LiesInWorld g

geometry_to : (g : GeometryData) → ArePoints g ⊎ (AreLines g ⊎ (ArePolygons g ⊎ ⊥)) → IsGeometry g
geometry_to (world_points points) (inl is) = (is.0, is.1)
geometry_to (world_points points) (inr (inl is)) = absurd is
geometry_to (world_points points) (inr (inr (inl is))) = absurd is
geometry_to (world_points points) (inr (inr (inr is))) = absurd is
geometry_to (world_lines lines) (inl is) = absurd is
geometry_to (world_lines lines) (inr (inl is)) = ((is.0, λ k d l. (is.1 k d l).0), λ k d l. (is.1 k d l).1)
geometry_to (world_lines lines) (inr (inr (inl is))) = absurd is
geometry_to (world_lines lines) (inr (inr (inr is))) = absurd is
geometry_to (world_polygons polygons) (inl is) = absurd is
geometry_to (world_polygons polygons) (inr (inl is)) = absurd is
geometry_to (world_polygons polygons) (inr (inr (inl is))) =
    ((is.0, λ k d l. ((is.1 k d l).0, λ i e m. ((is.1 k d l).1 i e m).0)), λ k d l. λ i e m. ((is.1 k d l).1 i e m).1)
geometry_to (world_polygons polygons) (inr (inr (inr is))) = absurd is

geometry_from : (g : GeometryData) → IsGeometry g → ArePoints g ⊎ (AreLines g ⊎ (ArePolygons g ⊎ ⊥))
geometry_from (world_points points) is = inl (is.0, is.1)
geometry_from (world_lines lines) is = inr (inl (is.0.0, λ k d l. (is.0.1 k d l, is.1 k d l)))
geometry_from (world_polygons polygons) is = inr (inr (inl (is.0.0, λ k d l. ((is.0.1 k d l).0, λ i e m. ((is.0.1 k d l).1 i e m, is.1 k d l i e m)))))

-- without the last of four, which never is
three_to : {P Q R S : Type 0} → P ⊎ (Q ⊎ (R ⊎ (S ⊎ ⊥))) → P ⊎ (Q ⊎ (R ⊎ S))
three_to (inl p) = inl p
three_to (inr (inl q)) = inr (inl q)
three_to (inr (inr (inl r))) = inr (inr (inl r))
three_to (inr (inr (inr (inl s)))) = inr (inr (inr s))
three_to (inr (inr (inr (inr e)))) = absurd e

three_from : {P Q R S : Type 0} → P ⊎ (Q ⊎ (R ⊎ S)) → P ⊎ (Q ⊎ (R ⊎ (S ⊎ ⊥)))
three_from (inl p) = inl p
three_from (inr (inl q)) = inr (inl q)
three_from (inr (inr (inl r))) = inr (inr (inl r))
three_from (inr (inr (inr s))) = inr (inr (inr (inl s)))

points_here : Codec (λ bytes. read_as world_points (line_at 1 bytes)) shape_text ArePoints (EndsInLine 1)
points_here = codec_as (line_at 1) spelled_line (IsLine 1) (EndsInLine 1) world_points shape_text ArePoints (codec_line 1)
    (λ points h is. (is, refl)) split_points

lines_here : Codec (λ bytes. read_as world_lines (lines_at MIN_LINE bytes)) shape_text AreLines
    (EndsInList 1 spelled_line (IsLine MIN_LINE) (EndsInLine MIN_LINE))
lines_here = codec_as (lines_at MIN_LINE) (spelled_list spelled_line) (λ ls. CountFits 1 ls × All (IsLine MIN_LINE) ls)
    (EndsInList 1 spelled_line (IsLine MIN_LINE) (EndsInLine MIN_LINE)) world_lines shape_text AreLines (codec_lines MIN_LINE)
    (λ lines h is. (is, refl)) split_lines

polygons_here : Codec (λ bytes. read_as world_polygons (polygons_at bytes)) shape_text ArePolygons
    (EndsInList 1 (spelled_list spelled_line) IsPolygon EndsInRings)
polygons_here = codec_as polygons_at (spelled_list (spelled_list spelled_line)) (λ ps. CountFits 1 ps × All IsPolygon ps)
    (EndsInList 1 (spelled_list spelled_line) IsPolygon EndsInRings) world_polygons shape_text ArePolygons codec_polygons
    (λ polygons h is. (is, refl)) split_polygons

abbrev read_points : List ℕ → Part GeometryData
read_points bytes = read_as world_points (line_at 1 bytes)

abbrev read_lines : List ℕ → Part GeometryData
read_lines bytes = read_as world_lines (lines_at MIN_LINE bytes)

abbrev read_polygons : List ℕ → Part GeometryData
read_polygons bytes = read_as world_polygons (polygons_at bytes)

abbrev no_kind : ℕ → List ℕ → Part GeometryData
no_kind k bytes = Err Bad

kinds_three : KindCodec 3 (pick 3 read_polygons no_kind) spelled_geometry (λ g. ArePolygons g ⊎ ⊥)
    (λ b. EndsBehindKind 3 (EndsInList 1 (spelled_list spelled_line) IsPolygon EndsInRings) b ⊎ ⊥)
kinds_three = kind_or 3 read_polygons shape_text ArePolygons (EndsInList 1 (spelled_list spelled_line) IsPolygon EndsInRings) no_kind spelled_geometry
    (λ g. ⊥) (λ b. ⊥) polygons_here (kind_none 4 spelled_geometry) polygons_text

kinds_two : KindCodec 2 (pick 2 read_lines (pick 3 read_polygons no_kind)) spelled_geometry (λ g. AreLines g ⊎ (ArePolygons g ⊎ ⊥))
    (λ b. EndsBehindKind 2 (EndsInList 1 spelled_line (IsLine MIN_LINE) (EndsInLine MIN_LINE)) b
    ⊎ (EndsBehindKind 3 (EndsInList 1 (spelled_list spelled_line) IsPolygon EndsInRings) b ⊎ ⊥))
kinds_two = kind_or 2 read_lines shape_text AreLines (EndsInList 1 spelled_line (IsLine MIN_LINE) (EndsInLine MIN_LINE))
    (pick 3 read_polygons no_kind) spelled_geometry (λ g. ArePolygons g ⊎ ⊥)
    (λ b. EndsBehindKind 3 (EndsInList 1 (spelled_list spelled_line) IsPolygon EndsInRings) b ⊎ ⊥) lines_here kinds_three lines_text

kinds_one : KindCodec 1 (pick 1 read_points (pick 2 read_lines (pick 3 read_polygons no_kind))) spelled_geometry
    (λ g. ArePoints g ⊎ (AreLines g ⊎ (ArePolygons g ⊎ ⊥)))
    (λ b. EndsBehindKind 1 (EndsInLine 1) b ⊎ (EndsBehindKind 2 (EndsInList 1 spelled_line (IsLine MIN_LINE) (EndsInLine MIN_LINE)) b
    ⊎ (EndsBehindKind 3 (EndsInList 1 (spelled_list spelled_line) IsPolygon EndsInRings) b ⊎ ⊥)))
kinds_one = kind_or 1 read_points shape_text ArePoints (EndsInLine 1) (pick 2 read_lines (pick 3 read_polygons no_kind)) spelled_geometry
    (λ g. AreLines g ⊎ (ArePolygons g ⊎ ⊥))
    (λ b. EndsBehindKind 2 (EndsInList 1 spelled_line (IsLine MIN_LINE) (EndsInLine MIN_LINE)) b
    ⊎ (EndsBehindKind 3 (EndsInList 1 (spelled_list spelled_line) IsPolygon EndsInRings) b ⊎ ⊥)) points_here kinds_two points_text

pub codec_geometry : Codec geometry_at spelled_geometry IsGeometry EndsInGeometry
unfolding geometry_at geometry_behind
codec_geometry = codec_same geometry_at spelled_geometry (λ g. ArePoints g ⊎ (AreLines g ⊎ (ArePolygons g ⊎ ⊥))) IsGeometry
    (λ b. EndsWithin 1 b ⊎ (EndsBehindKind 1 (EndsInLine 1) b
    ⊎ (EndsBehindKind 2 (EndsInList 1 spelled_line (IsLine MIN_LINE) (EndsInLine MIN_LINE)) b
    ⊎ (EndsBehindKind 3 (EndsInList 1 (spelled_list spelled_line) IsPolygon EndsInRings) b ⊎ ⊥))))
    EndsInGeometry
    (codec_kinds (pick 1 read_points (pick 2 read_lines (pick 3 read_polygons no_kind))) spelled_geometry
    (λ g. ArePoints g ⊎ (AreLines g ⊎ (ArePolygons g ⊎ ⊥)))
    (λ b. EndsBehindKind 1 (EndsInLine 1) b ⊎ (EndsBehindKind 2 (EndsInList 1 spelled_line (IsLine MIN_LINE) (EndsInLine MIN_LINE)) b
    ⊎ (EndsBehindKind 3 (EndsInList 1 (spelled_list spelled_line) IsPolygon EndsInRings) b ⊎ ⊥))) 1 kinds_one)
    geometry_to geometry_from (λ b e. three_to e) (λ b e. three_from e)
