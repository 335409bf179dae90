-- The lists of a geometry are read as exactly the geometry whose lists they are.
use Rattle.std.proofs.Common.{◌≡◌, ℕ, suc, ◌^◌, ◌<◌, Bool, true, false, List, [], ◌∷◌, length, map}
use Rattle.std.proofs.Common.{All, Option, Some, None, Ok, Err, refl, sym, ap, subst, ◌∙◌, arith}
use Rattle.std.specs.Prelude.{option_map, option_and_then, if◌then◌else◌, nat_lt}
use Rattle.std.proofs.lemmas.Bool.{ltb-true}
use Rattle.std.proofs.lemmas.Bool.Decides.{nat_tests}
use Rattle.std.proofs.lemmas.List.Elements.{All-nil, All-cons, All-head, All-tail}
use Rattle.serde_json.specs.Data.{Data, null, boolean, number, string, array, object, unsigned, negative, float, Items, no_items, item}
use Rattle.serde_json.specs.Events.{items_len}
use Rattle.serde_json.specs.Find.{as_array}
use Rattle.serde_json.specs.View.{items_of}
use Rattle.feature_model.specs.declared.limits.TheConstants.{MIN_LINE, MIN_RING}
use Rattle.reader.specs.Reading.{Read, ◌>>=◌}
use Rattle.reader.proofs.Steps.{same_value, same_fault, not_both, then_faults}
use Rattle.feature_model.specs.declared.fault.EditFault.{EditFault}
use Rattle.feature_model.specs.declared.fault.EditFault.TheVariants as faults
use Rattle.feature_model.specs.declared.feature.World.{World}
use Rattle.feature_model.specs.Data.{GeometryData, world_points, world_lines, world_polygons}
use Rattle.feature_model.specs.Limits.{IsCount, is_count, CountFits, GeometryFits}
use Rattle.edit_json.specs.Json.{ShapeData, point_list, line_list, polygon_list, point_json, points_json, lines_json, shape_of}
use Rattle.feature_model.specs.Types.{IsOfWorld, LiesInWorld}
use Rattle.edit_json.specs.Lists.{below, pair_at, point_at, in_geometry, point_in, items_in, each, list_of, points_at, lines_at, geometry_at}

-- what `one` reads is exactly what has this JSON and keeps to P
pub record Reads {A : Type 0} (one : Data → Read EditFault A) (json : A → Data) (P : A → Type 0) : Type 0 where
  pub says : (d : Data) (x : A) → one d ≡ Ok x → (d ≡ json x) × P x
  pub finds : (x : A) → P x → one (json x) ≡ Ok x
  pub fault : (d : Data) (e : EditFault) → one d ≡ Err e → e ≡ faults.Geometry

-- ---- whole numbers

pub if-some : {A : Type 0} (b : Bool) (o : Option A) (x : A) → (if b then o else None) ≡ Some x → (b ≡ true) × (o ≡ Some x)
if-some true o x e = (refl, e)
if-some false o x e = cc

pub if-ok : {A : Type 0} (b : Bool) (r : Read EditFault A) (fault : EditFault) (x : A)
    → (if b then r else Err fault) ≡ Ok x → (b ≡ true) × (r ≡ Ok x)
if-ok true r fault x e = (refl, e)
if-ok false r fault x e = cc

pub if-fault : {A : Type 0} (b : Bool) (r : Read EditFault A) (fault e : EditFault)
    → (r ≡ Err e → e ≡ fault) → (if b then r else Err fault) ≡ Err e → e ≡ fault
if-fault true r fault e here h = here h
if-fault false r fault e here h = sym (same_fault fault e h)

in_geometry-ok : {A : Type 0} (o : Option A) (x : A) → in_geometry o ≡ Ok x → o ≡ Some x
in_geometry-ok None x e = cc
in_geometry-ok (Some y) x e = ap Some (same_value y x e)

in_geometry-fault : {A : Type 0} (o : Option A) (e : EditFault) → in_geometry o ≡ Err e → e ≡ faults.Geometry
in_geometry-fault {A} None e h = sym (same_fault {A = A} faults.Geometry e h)
in_geometry-fault (Some y) e h = absurd (not_both y e h)

pub below-says : (limit : ℕ) (d : Data) (n : ℕ) → below limit d ≡ Some n → (d ≡ number (unsigned n)) × (n < limit)
unfolding below
below-says limit null n e = cc
below-says limit (boolean b) n e = cc
below-says limit (number (unsigned m)) n e =
    let h = if-some (nat_lt m limit) (Some m) n e in
    let f : m ≡ n = let g = h.1 in cc in
    (ap (λ k. number (unsigned k)) f, subst (λ (k : ℕ). k < limit) f (ltb-true m limit h.0))
below-says limit (number (negative z)) n e = cc
below-says limit (number (float x)) n e = cc
below-says limit (string s) n e = cc
below-says limit (array ds) n e = cc
below-says limit (object ms) n e = cc

pub below-finds : (limit n : ℕ) → n < limit → below limit (number (unsigned n)) ≡ Some n
unfolding below
below-finds limit n h = grind (arith, nat_tests)

-- ---- points

pair-some : (o p : Option ℕ) (w : World) → option_and_then (λ x. option_map (λ y. record { x = x; y = y }) p) o ≡ Some w → (o ≡ Some w.x) × (p ≡ Some w.y)
pair-some None p w e = cc
pair-some (Some x) None w e = cc
pair-some (Some x) (Some y) w e = let f : record { x = x; y = y } ≡ w = cc in (ap (λ v. Some v.x) f, ap (λ v. Some v.y) f)

pair_at-says : (ds : Items) (w : World) → pair_at ds ≡ Some w → (array ds ≡ point_json w) × IsOfWorld w
unfolding pair_at
pair_at-says no_items w e = cc
pair_at-says (item a no_items) w e = cc
pair_at-says (item a (item b no_items)) w e =
    let h = pair-some (below (2 ^ 32) a) (below (2 ^ 32) b) w e in
    let f = below-says (2 ^ 32) a w.x h.0 in
    let g = below-says (2 ^ 32) b w.y h.1 in
    (rw (f.0, g.0) refl, (f.1, g.1))
pair_at-says (item a (item b (item d ds))) w e = cc

point_at-says : (d : Data) (w : World) → point_at d ≡ Some w → (d ≡ point_json w) × IsOfWorld w
unfolding point_at
point_at-says null w e = cc
point_at-says (boolean b) w e = cc
point_at-says (number n) w e = cc
point_at-says (string s) w e = cc
point_at-says (array ds) w e = pair_at-says ds w e
point_at-says (object ms) w e = cc

point_at-finds : (w : World) → IsOfWorld w → point_at (point_json w) ≡ Some w
unfolding point_at pair_at
point_at-finds w h = rw (below-finds (2 ^ 32) w.x h.0, below-finds (2 ^ 32) w.y h.1) refl

pub points-read : Reads point_in point_json IsOfWorld
points-read = record {
  says = λ d w e. point_at-says d w (in_geometry-ok (point_at d) w e);
  finds = λ w h. ap in_geometry (point_at-finds w h);
  fault = λ d e h. in_geometry-fault (point_at d) e h;
}

-- ---- lists

bind-ok : {A : Type 0} (o : Read EditFault A) (p : Read EditFault (List A)) (xs : List A)
    → (o >>= (λ x. p >>= (λ ys. Ok (x ∷ ys)))) ≡ Ok xs
    → (x : A) × ((ys : List A) × ((o ≡ Ok x) × (p ≡ Ok ys) × (xs ≡ x ∷ ys)))
bind-ok (Err e) p xs h = cc
bind-ok (Ok x) (Err e) xs h = cc
bind-ok (Ok x) (Ok ys) xs h = (x, (ys, (refl, refl, sym (same_value (x ∷ ys) xs h))))

module _ {A : Type 0} (one : Data → Read EditFault A) (json : A → Data) (P : A → Type 0) (r : Reads one json P) where
  items_len-of : (xs : List A) → items_len (items_of (map json xs)) ≡ length xs
  items_len-of [] = refl
  items_len-of (x ∷ xs) = ap suc (items_len-of xs)

  each-says : (ds : Items) (xs : List A) → each one ds ≡ Ok xs → (ds ≡ items_of (map json xs)) × All P xs
  unfolding each
  each-says no_items xs e = let f : xs ≡ [] = cc in rw f (refl, All-nil P)
  each-says (item d ds) xs e =
      let h = bind-ok (one d) (each one ds) xs e in
      let f = r.says d h.0 h.1.1.0 in
      let g = each-says ds h.1.0 h.1.1.1 in
      rw h.1.1.2 (λ i. item (f.0 i) (g.0 i), All-cons P h.0 h.1.0 f.1 g.1)

  each-finds : (xs : List A) → All P xs → each one (items_of (map json xs)) ≡ Ok xs
  unfolding each
  each-finds [] h = refl
  each-finds (x ∷ xs) h = rw (r.finds x (All-head P x xs h), each-finds xs (All-tail P x xs h)) refl

  count-says : (least n : ℕ) → is_count least n ≡ true → IsCount least n
  count-says least n h = (grind (arith, nat_tests), grind (arith, nat_tests))

  count-finds : (least n : ℕ) → IsCount least n → is_count least n ≡ true
  count-finds least n h = grind (arith, nat_tests)

  abbrev Fits : ℕ → List A → Type 0
  Fits least xs = CountFits least xs × All P xs

  pub list_of-says : (least : ℕ) (ds : Items) (xs : List A) → list_of least one ds ≡ Ok xs → (ds ≡ items_of (map json xs)) × Fits least xs
  unfolding list_of
  list_of-says least ds xs e =
      let h = if-ok (is_count least (items_len ds)) (each one ds) faults.Geometry xs e in
      let f = each-says ds xs h.1 in
      let n = ap items_len f.0 ∙ items_len-of xs in
      let k = count-says least (items_len ds) h.0 in
      (f.0, ((omega (arith, n, k.0), omega (arith, n, k.1)), f.1))

  pub list_of-finds : (least : ℕ) (xs : List A) → Fits least xs → list_of least one (items_of (map json xs)) ≡ Ok xs
  unfolding list_of
  list_of-finds least xs h = rw (items_len-of xs, count-finds least (length xs) h.0) (each-finds xs h.1)

  array-says : (least : ℕ) (d : Data) (xs : List A) → (items_in d >>= list_of least one) ≡ Ok xs
      → (d ≡ array (items_of (map json xs))) × Fits least xs
  array-says least null xs e = cc
  array-says least (boolean b) xs e = cc
  array-says least (number n) xs e = cc
  array-says least (string s) xs e = cc
  array-says least (array ds) xs e = let f = list_of-says least ds xs e in (ap array f.0, f.1)
  array-says least (object ms) xs e = cc

  each-fault : (ds : Items) (e : EditFault) → each one ds ≡ Err e → e ≡ faults.Geometry
  unfolding each
  each-fault no_items e h = absurd (not_both [] e h)
  each-fault (item d ds) e h =
      then_faults (λ c. c ≡ faults.Geometry) (one d) (λ x. each one ds >>= (λ xs. Ok (x ∷ xs))) (r.fault d)
      (λ x. then_faults (λ c. c ≡ faults.Geometry) (each one ds) (λ xs. Ok (x ∷ xs)) (each-fault ds) (λ xs c k. absurd (not_both (x ∷ xs) c k))) e h

  pub list_of-fault : (least : ℕ) (ds : Items) (e : EditFault) → list_of least one ds ≡ Err e → e ≡ faults.Geometry
  unfolding list_of
  list_of-fault least ds e h = if-fault (is_count least (items_len ds)) (each one ds) faults.Geometry e (each-fault ds e) h

  array-fault : (least : ℕ) (d : Data) (e : EditFault) → (items_in d >>= list_of least one) ≡ Err e → e ≡ faults.Geometry
  array-fault least d e h =
      then_faults (λ c. c ≡ faults.Geometry) (items_in d) (list_of least one) (in_geometry-fault (as_array d)) (list_of-fault least) e h

  pub array-read : (least : ℕ) → Reads (λ d. items_in d >>= list_of least one) (λ xs. array (items_of (map json xs))) (Fits least)
  array-read least = record { says = array-says least; finds = list_of-finds least; fault = array-fault least }

-- ---- lines, rings and polygons

abbrev ArePoints : ℕ → List World → Type 0
ArePoints least points = CountFits least points × All IsOfWorld points

pub line-read : (least : ℕ) → Reads (points_at least) points_json (ArePoints least)
unfolding points_at
line-read least = array-read point_in point_json IsOfWorld points-read least

abbrev AreLines : ℕ → List (List World) → Type 0
AreLines least lines = CountFits 1 lines × All (ArePoints least) lines

pub polygon-read : (least : ℕ) → Reads (lines_at least) lines_json (AreLines least)
unfolding lines_at
polygon-read least = array-read (points_at least) points_json (ArePoints least) (line-read least) 1

-- ---- geometries

some-world : {A : Type 0} (to : A → GeometryData) (o : Read EditFault A) (g : GeometryData)
    → (o >>= (λ x. Ok (to x))) ≡ Ok g → (x : A) × ((o ≡ Ok x) × (g ≡ to x))
some-world to (Err e) g h = cc
some-world to (Ok x) g h = (x, (refl, sym (same_value (to x) g h)))

pub geometry_at-says : (s : ShapeData) (g : GeometryData) → geometry_at s ≡ Ok g → (s ≡ shape_of g) × GeometryFits g × LiesInWorld g
unfolding geometry_at
geometry_at-says (point_list ds) g e =
    let h = some-world world_points (list_of 1 point_in ds) g e in
    let f = list_of-says point_in point_json IsOfWorld points-read 1 ds h.0 h.1.0 in
    rw h.1.1 (ap point_list f.0, f.1.0, f.1.1)
geometry_at-says (line_list ds) g e =
    let h = some-world world_lines (list_of 1 (points_at MIN_LINE) ds) g e in
    let f = list_of-says (points_at MIN_LINE) points_json (ArePoints MIN_LINE) (line-read MIN_LINE) 1 ds h.0 h.1.0 in
    rw h.1.1 (ap line_list f.0, (f.1.0, λ k d l. (f.1.1 k d l).0), λ k d l. (f.1.1 k d l).1)
geometry_at-says (polygon_list ds) g e =
    let h = some-world world_polygons (list_of 1 (lines_at MIN_RING) ds) g e in
    let f = list_of-says (lines_at MIN_RING) lines_json (AreLines MIN_RING) (polygon-read MIN_RING) 1 ds h.0 h.1.0 in
    rw h.1.1 (
      ap polygon_list f.0,
      (f.1.0, λ k d l. ((f.1.1 k d l).0, λ i c j. ((f.1.1 k d l).1 i c j).0)),
      λ k d l i c j. ((f.1.1 k d l).1 i c j).1,
    )

pub geometry_at-finds : (g : GeometryData) → GeometryFits g → LiesInWorld g → geometry_at (shape_of g) ≡ Ok g
unfolding geometry_at
geometry_at-finds (world_points points) h w = ap (λ read. read >>= (λ xs. Ok (world_points xs)))
    (list_of-finds point_in point_json IsOfWorld points-read 1 points (h, w))
geometry_at-finds (world_lines lines) h w =
    ap (λ read. read >>= (λ xs. Ok (world_lines xs))) (list_of-finds (points_at MIN_LINE) points_json (ArePoints MIN_LINE) (line-read MIN_LINE) 1 lines
    (h.0, λ k d l. (h.1 k d l, w k d l)))
geometry_at-finds (world_polygons polygons) h w =
    ap (λ read. read >>= (λ xs. Ok (world_polygons xs)))
    (list_of-finds (lines_at MIN_RING) lines_json (AreLines MIN_RING) (polygon-read MIN_RING) 1 polygons
    (h.0, λ k d l. ((h.1 k d l).0, λ i c j. ((h.1 k d l).1 i c j, w k d l i c j))))

world-fault : {A : Type 0} (to : A → GeometryData) (o : Read EditFault A) (e : EditFault)
    → ((c : EditFault) → o ≡ Err c → c ≡ faults.Geometry) → (o >>= (λ x. Ok (to x))) ≡ Err e → e ≡ faults.Geometry
world-fault to o e here h = then_faults (λ c. c ≡ faults.Geometry) o (λ x. Ok (to x)) here (λ x c k. absurd (not_both (to x) c k)) e h

pub geometry_at-fault : (s : ShapeData) (e : EditFault) → geometry_at s ≡ Err e → e ≡ faults.Geometry
unfolding geometry_at
geometry_at-fault (point_list ds) e h =
    world-fault world_points (list_of 1 point_in ds) e (list_of-fault point_in point_json IsOfWorld points-read 1 ds) h
geometry_at-fault (line_list ds) e h =
    world-fault world_lines (list_of 1 (points_at MIN_LINE) ds) e
    (list_of-fault (points_at MIN_LINE) points_json (ArePoints MIN_LINE) (line-read MIN_LINE) 1 ds) h
geometry_at-fault (polygon_list ds) e h =
    world-fault world_polygons (list_of 1 (lines_at MIN_RING) ds) e
    (list_of-fault (lines_at MIN_RING) lines_json (AreLines MIN_RING) (polygon-read MIN_RING) 1 ds) h
