-- The lengths of texts.
use Rattle.std.proofs.Common.{◌≡◌, ℕ, ℤ, ◌+◌, ◌*◌, ◌≤◌, Bool, true, false, List, [], ◌∷◌, ◌++◌, length, get_or, map, take, refl, ◌∙◌, length-append}
use Rattle.std.proofs.Common.{Vec, Global, All, arith}
use Rattle.std.proofs.lemmas.List.{take_all, length-map}
use Rattle.std.specs.List.{flat_map}
use Rattle.feature_model.specs.declared.limits.TheConstants.{MAX_ELEMENTS, MIN_LINE, MIN_RING}
use Rattle.feature_model.specs.declared.feature.World.{World}
use Rattle.feature_model.specs.declared.feature.Geometry.{Geometry}
use Rattle.feature_model.specs.declared.feature.Geometry.TheVariants as kinds
use Rattle.feature_model.specs.Data.{world_points, world_lines, world_polygons, geometry_data, text_value, natural_value}
use Rattle.feature_model.specs.Data.{negative_value, truth_value, TagData, FeatureData, put, delete}
use Rattle.feature_model.specs.Limits.{CountFits, RingsFit, GeometryFits}
use Rattle.feature_model.proofs.Mapped.{All-from_map}
use Rattle.feature_model.specs.Spelled.{two_bytes, four_bytes, eight_bytes, spelled_list, spelled_point, spelled_line, spelled_geometry}
use Rattle.feature_model.specs.Spelled.{spelled_name, spelled_value, spelled_tag, spelled_tags, spelled_feature, spelled_change}

pub length-two_bytes : (n : ℕ) → length (two_bytes n) ≡ 2
unfolding two_bytes
length-two_bytes n = refl

pub length-four_bytes : (n : ℕ) → length (four_bytes n) ≡ 4
unfolding four_bytes
length-four_bytes n = refl

pub length-eight_bytes : (n : ℕ) → length (eight_bytes n) ≡ 8
unfolding eight_bytes
length-eight_bytes n = refl

pub length-spelled_point : (p : World) → length (spelled_point p) ≡ 8
unfolding spelled_point
length-spelled_point p = length-append (four_bytes p.x) (four_bytes p.y) ∙ omega (arith, length-four_bytes p.x, length-four_bytes p.y)

length-points : (ps : List World) → length (flat_map spelled_point ps) ≡ 8 * length ps
length-points [] = refl
length-points (p ∷ ps) = omega (arith, length-append (spelled_point p) (flat_map spelled_point ps), length-spelled_point p, length-points ps)

pub length-spelled_list : {A : Type 0} (spell : A → List ℕ) (xs : List A) → length (spelled_list spell xs) ≡ 2 + length (flat_map spell xs)
unfolding spelled_list
length-spelled_list spell xs = length-append (two_bytes (length xs)) (flat_map spell xs) ∙ omega (arith, length-two_bytes (length xs))

pub length-spelled_line : (ps : List World) → length (spelled_line ps) ≡ 2 + 8 * length ps
length-spelled_line ps = omega (arith, length-spelled_list spelled_point ps, length-points ps)

pub ruleset lines = (length-spelled_line)

pub ruleset lists = (length-spelled_list)

-- ---- geometries

pub length-points_text : (ps : List World) → length (spelled_geometry (world_points ps)) ≡ 1 + length (spelled_line ps)
unfolding spelled_geometry
length-points_text ps = omega arith

pub length-lines_text : (ls : List (List World)) → length (spelled_geometry (world_lines ls)) ≡ 1 + length (spelled_list spelled_line ls)
unfolding spelled_geometry
length-lines_text ls = omega arith

pub length-polygons_text : (ps : List (List (List World))) → length (spelled_geometry (world_polygons ps))
    ≡ 1 + length (spelled_list (spelled_list spelled_line) ps)
unfolding spelled_geometry
length-polygons_text ps = omega arith

pub ruleset geometries = (length-points_text, length-lines_text, length-polygons_text)

-- ---- tags

pub length-text : (bytes : List ℕ) → length (spelled_value (text_value bytes)) ≡ 3 + length bytes
unfolding spelled_value
length-text bytes = omega (arith, length-append (two_bytes (length bytes)) bytes, length-two_bytes (length bytes))

pub length-natural : (n : ℕ) → length (spelled_value (natural_value n)) ≡ 9
unfolding spelled_value
length-natural n = omega (arith, length-eight_bytes n)

pub length-negative : (z : ℤ) → length (spelled_value (negative_value z)) ≡ 9
unfolding spelled_value eight_bytes
length-negative z = refl

pub length-truth : (b : Bool) → length (spelled_value (truth_value b)) ≡ 1
unfolding spelled_value
length-truth false = refl
length-truth true = refl

pub ruleset values = (length-text, length-natural, length-negative, length-truth)

length-spelled_name : (bytes : List ℕ) → length (spelled_name bytes) ≡ 1 + length bytes
unfolding spelled_name
length-spelled_name bytes = omega arith

pub length-spelled_tag : (t : TagData) → length (spelled_tag t) ≡ 1 + length t.key + length (spelled_value t.value)
unfolding spelled_tag
length-spelled_tag t = omega (arith, length-append (spelled_name t.key) (spelled_value t.value), length-spelled_name t.key)

pub length-spelled_tags : (ts : List TagData) → length (spelled_tags ts) ≡ 1 + length (flat_map spelled_tag ts)
unfolding spelled_tags
length-spelled_tags ts = omega arith

pub ruleset tags = (length-spelled_tag, length-spelled_tags)

-- ---- features

pub length-spelled_change : (id : ℕ) (f : FeatureData) → length (spelled_change (put id f))
    ≡ 12 + length f.layer + length (spelled_geometry f.geometry) + length (spelled_tags f.tags)
unfolding spelled_change spelled_feature
length-spelled_change id f =
    omega (
      arith,
      length-eight_bytes id,
      length-spelled_name f.layer,
      length-append (eight_bytes id) (spelled_name f.layer ++ (f.minzoom ∷ f.maxzoom ∷ spelled_geometry f.geometry ++ spelled_tags f.tags)),
      length-append (spelled_name f.layer) (f.minzoom ∷ f.maxzoom ∷ spelled_geometry f.geometry ++ spelled_tags f.tags),
      length-append (spelled_geometry f.geometry) (spelled_tags f.tags),
    )

pub length-spelled_delete : (id : ℕ) → length (spelled_change (delete id)) ≡ 9
unfolding spelled_change
length-spelled_delete id = omega (arith, length-eight_bytes id)

pub ruleset features = (length-spelled_change)

pub ruleset changes = (length-spelled_delete)

-- ---- whole lists

pub length-list_all : {X A : Type 0} (spell : A → List ℕ) (f : X → A) (xs : List X) (i len : ℕ) → length xs ≤ i
    → len ≡ 2 + length (flat_map spell (map f (take i xs))) → len ≡ length (spelled_list spell (map f xs))
length-list_all spell f xs i len h e = rw (length-spelled_list spell (map f xs), ← take_all i xs h) e

pub length-tags_all : {X : Type 0} (f : X → TagData) (xs : List X) (i len : ℕ) → length xs ≤ i → len ≡ 1 + length (flat_map spelled_tag (map f (take i xs)))
    → len ≡ length (spelled_tags (map f xs))
length-tags_all f xs i len h e = rw (length-spelled_tags (map f xs), ← take_all i xs h) e

-- ---- limits, as the functions on the lists of a geometry ask for them

lines_within : {X : Type 0} (f : X → List World) (xs : List X) → All (CountFits MIN_LINE) (map f xs) → All (λ x. length (f x) ≤ MAX_ELEMENTS) xs
lines_within f xs h = λ k d l. (All-from_map (CountFits MIN_LINE) f xs h k d l).1

polygons_within : {X Y : Type 0} (f : X → List Y) (g : Y → List World) (xs : List X) → All RingsFit (map (λ x. map g (f x)) xs)
    → All (λ x. length (f x) ≤ MAX_ELEMENTS) xs
polygons_within f g xs h = λ k d l.
    let fit = All-from_map RingsFit (λ x. map g (f x)) xs h k d l in
    let e = length-map (f (get_or xs k d)) g in
    omega (arith, e, fit.0.1)

rings_within : {X Y : Type 0} (f : X → List Y) (g : Y → List World) (xs : List X) → All RingsFit (map (λ x. map g (f x)) xs)
    → All (λ x. All (λ y. length (g y) ≤ MAX_ELEMENTS) (f x)) xs
rings_within f g xs h = λ k d l.
    let fit = All-from_map RingsFit (λ x. map g (f x)) xs h k d l in
    λ j y m. (All-from_map (CountFits MIN_RING) g (f (get_or xs k d)) fit.1 j y m).1

module _ {geometry : Geometry} where
  pub lines_short : {lines : Vec (Vec World Global) Global} {xs : List (Vec World Global)} → geometry ≡ kinds.Lines lines → xs ≡ lines.items
      → GeometryFits (geometry_data geometry) → All (λ l. length l.items ≤ MAX_ELEMENTS) xs
  lines_short {lines} is whole fits =
      let fit = rw is at fits in
      rw whole (lines_within (λ l. l.items) lines.items fit.1)

  module _ {polygons : Vec (Vec (Vec World Global) Global) Global} {xs : List (Vec (Vec World Global) Global)} (is : geometry ≡ kinds.Polygons polygons)
      (whole : xs ≡ polygons.items) (fits : GeometryFits (geometry_data geometry)) where
    pub polygons_short : All (λ p. length p.items ≤ MAX_ELEMENTS) xs
    polygons_short =
        let fit = rw is at fits in
        rw whole (polygons_within (λ p. p.items) (λ r. r.items) polygons.items fit.1)

    pub rings_short : All (λ p. All (λ r. length r.items ≤ MAX_ELEMENTS) p.items) xs
    rings_short =
        let fit = rw is at fits in
        rw whole (rings_within (λ p. p.items) (λ r. r.items) polygons.items fit.1)
