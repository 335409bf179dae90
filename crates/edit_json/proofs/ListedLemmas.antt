-- The value of an edit is in order, and its numbers fit.
use Rattle.std.proofs.Common.{◌≡◌, ℕ, ◌^◌, ◌<◌, ◌≤◌, pos, negsuc, List, [], ◌∷◌, map, Some, All, nat_cmp, Less, refl, sym, ap, subst, ◌∙◌, arith}
use Rattle.std.specs.Cmp.Lexicographic.{slice_cmp}
use Rattle.std.specs.List.{AllByRecursion}
use Rattle.std.proofs.lemmas.List.Elements.{All-nil, All-cons, All-head, All-tail}
use Rattle.std.proofs.lemmas.Int.{ints}
use Rattle.std.proofs.lemmas.Map.Keys.{sorted_head, sorted_tail}
use Rattle.json.proofs.Printed.Utf8.{IsUtf8-are_ascii}
use Rattle.serde_json.specs.Data.{Data, object, array, no_members, member, depth, items_depth, members_depth}
use Rattle.serde_json.specs.Read.{read}
use Rattle.serde_json.specs.View.{items_of}
use Rattle.feature_model.specs.declared.feature.World.{World}
use Rattle.feature_model.specs.Data.{GeometryData, world_points, world_lines, world_polygons, ValueData, text_value}
use Rattle.feature_model.specs.Data.{natural_value, negative_value, truth_value, TagData, FeatureData, ChangeData, EditData, put, delete}
use Rattle.feature_model.specs.Limits.{keys_of, HasAscendingKeys, ValueFits, ValuesFit, FeatureFits}
use Rattle.feature_model.specs.Types.{IsOfWorld, LiesInWorld, ValueFitsTypes, TagFitsTypes, FeatureFitsTypes, IsChange, IsEdit}
use Rattle.edit_json.specs.Batches.{asked_json, asked_of, batch_json, IsJsonChange, IsBatch}
use Rattle.edit_json.specs.Numbered.{numbered_edit}
use Rattle.edit_json.specs.Json.{name_bytes, json_of, point_json, points_json, lines_json, shape_json, shape_of, value_json, tags_json}
use Rattle.edit_json.specs.Listed.{IsJsonText, listed_text, body_text, HasItsChanges}
use Rattle.edit_json.proofs.ProperLemmas.{IsBelow, IsProper, AreProper, HasProper, is_json}

-- ---- geometry

points_proper : (ps : List World) → All IsOfWorld ps → AreProper (items_of (map point_json ps))
points_proper [] h = tt
points_proper (p ∷ ps) h =
    let first = All-head IsOfWorld p ps h in
    ((omega (arith, first.0), (omega (arith, first.1), tt)), points_proper ps (All-tail IsOfWorld p ps h))

lines_proper : (ls : List (List World)) → All (All IsOfWorld) ls → AreProper (items_of (map points_json ls))
lines_proper [] h = tt
lines_proper (l ∷ ls) h = (points_proper l (All-head (All IsOfWorld) l ls h), lines_proper ls (All-tail (All IsOfWorld) l ls h))

polygons_proper : (ps : List (List (List World))) → All (All (All IsOfWorld)) ps → AreProper (items_of (map lines_json ps))
polygons_proper [] h = tt
polygons_proper (p ∷ ps) h = (lines_proper p (All-head (All (All IsOfWorld)) p ps h), polygons_proper ps (All-tail (All (All IsOfWorld)) p ps h))

shape_proper : (g : GeometryData) → LiesInWorld g → IsProper (shape_json (shape_of g))
unfolding name_bytes
shape_proper (world_points ps) h = (IsUtf8-are_ascii _ refl, tt, points_proper ps h, tt)
shape_proper (world_lines ls) h = (IsUtf8-are_ascii _ refl, tt, lines_proper ls h, tt)
shape_proper (world_polygons ps) h = (IsUtf8-are_ascii _ refl, tt, polygons_proper ps h, tt)

-- ---- tags

value_proper : (v : ValueData) → ValueFits v → ValueFitsTypes v → IsProper (value_json v)
value_proper (text_value t) fits typed = typed
value_proper (natural_value n) fits typed = typed
value_proper (negative_value (pos n)) fits typed = absurd (omega (arith, ints, fits))
value_proper (negative_value (negsuc n)) fits typed = typed.sfits
value_proper (truth_value b) fits typed = tt

below_keys : (k : List ℕ) (ts : List TagData) → AllByRecursion (λ l. slice_cmp nat_cmp k l ≡ Less) (keys_of ts) → IsBelow k (tags_json ts)
below_keys k [] h = tt
below_keys k (t ∷ ts) h = (h.0, below_keys k ts h.1)

tags_proper : (ts : List TagData) → HasAscendingKeys ts → ValuesFit ts → All TagFitsTypes ts → HasProper (tags_json ts)
tags_proper [] ascending fit typed = tt
tags_proper (t ∷ ts) ascending fit typed =
    let first = All-head TagFitsTypes t ts typed in (
      first.key,
      below_keys t.key ts (sorted_head (slice_cmp nat_cmp) t.key (keys_of ts) ascending),
      value_proper t.value (All-head (λ (x : TagData). ValueFits x.value) t ts fit) first.value,
      tags_proper ts (sorted_tail (slice_cmp nat_cmp) t.key (keys_of ts) ascending) (All-tail (λ (x : TagData). ValueFits x.value) t ts fit)
          (All-tail TagFitsTypes t ts typed),
    )

-- ---- features

feature_proper : (f : FeatureData) → FeatureFits f → FeatureFitsTypes f → IsProper (json_of f)
unfolding name_bytes
feature_proper f fits typed = (
  IsUtf8-are_ascii _ refl,
  (refl, (refl, (refl, (refl, tt)))),
  shape_proper f.geometry typed.geometry,
  (
    IsUtf8-are_ascii _ refl,
    (refl, (refl, (refl, tt))),
    typed.layer,
    (
      IsUtf8-are_ascii _ refl,
      (refl, (refl, tt)),
      omega (arith, fits.zooms.1),
      (
        IsUtf8-are_ascii _ refl,
        (refl, tt),
        omega (arith, fits.zooms.0, fits.zooms.1),
        (IsUtf8-are_ascii _ refl, tt, tags_proper f.tags fits.tags.ascending fits.values typed.tags, tt),
      ),
    ),
  ),
)

-- ---- edits

change_proper : (c : ChangeData) → IsChange c → IsProper (asked_json (asked_of c))
unfolding name_bytes
change_proper (put id f) h = (
  IsUtf8-are_ascii _ refl,
  (refl, tt),
  feature_proper f h.0.feature h.1,
  (IsUtf8-are_ascii _ refl, tt, omega (arith, h.0.number), tt),
)
change_proper (delete id) h = (IsUtf8-are_ascii _ refl, tt, omega (arith, h), tt)

changes_proper : (cs : EditData) → All IsChange cs → AreProper (items_of (map asked_json (map asked_of cs)))
changes_proper [] h = tt
changes_proper (c ∷ cs) h = (change_proper c (All-head IsChange c cs h), changes_proper cs (All-tail IsChange c cs h))

-- ---- nothing nests deep

points_shallow : (ps : List World) → items_depth (items_of (map point_json ps)) ≤ 1
points_shallow [] = omega arith
points_shallow (p ∷ ps) = omega (arith, points_shallow ps)

lines_shallow : (ls : List (List World)) → items_depth (items_of (map points_json ls)) ≤ 2
lines_shallow [] = omega arith
lines_shallow (l ∷ ls) = omega (arith, points_shallow l, lines_shallow ls)

polygons_shallow : (ps : List (List (List World))) → items_depth (items_of (map lines_json ps)) ≤ 3
polygons_shallow [] = omega arith
polygons_shallow (p ∷ ps) = omega (arith, lines_shallow p, polygons_shallow ps)

shape_shallow : (g : GeometryData) → depth (shape_json (shape_of g)) ≤ 5
shape_shallow (world_points ps) = omega (arith, points_shallow ps)
shape_shallow (world_lines ls) = omega (arith, lines_shallow ls)
shape_shallow (world_polygons ps) = omega (arith, polygons_shallow ps)

value_shallow : (v : ValueData) → depth (value_json v) ≡ 0
value_shallow (text_value t) = refl
value_shallow (natural_value n) = refl
value_shallow (negative_value z) = refl
value_shallow (truth_value b) = refl

tags_shallow : (ts : List TagData) → members_depth (tags_json ts) ≤ 0
tags_shallow [] = omega arith
tags_shallow (t ∷ ts) = omega (arith, value_shallow t.value, tags_shallow ts)

change_shallow : (c : ChangeData) → depth (asked_json (asked_of c)) ≤ 7
change_shallow (put id f) = omega (arith, shape_shallow f.geometry, tags_shallow f.tags)
change_shallow (delete id) = omega arith

changes_shallow : (cs : EditData) → items_depth (items_of (map asked_json (map asked_of cs))) ≤ 7
changes_shallow [] = omega arith
changes_shallow (c ∷ cs) = omega (arith, change_shallow c, changes_shallow cs)

-- ---- the laws

pub edit_is_json : (number : ℕ) (cs : EditData) → number < 2 ^ 64 → IsEdit cs → IsJsonText (listed_text number cs) (numbered_edit number cs)
unfolding name_bytes
edit_is_json number cs below edit =
    is_json (numbered_edit number cs)
    (IsUtf8-are_ascii _ refl, (refl, tt), changes_proper cs edit.changes, (IsUtf8-are_ascii _ refl, tt, below, tt))
    (omega (arith, changes_shallow cs))

pub body_is_json : (cs : EditData) → IsEdit cs → IsJsonText (body_text cs) (batch_json cs)
unfolding name_bytes
body_is_json cs edit =
    is_json (batch_json cs) (IsUtf8-are_ascii _ refl, tt, changes_proper cs edit.changes, tt) (omega (arith, changes_shallow cs))

json_change : (c : ChangeData) → IsChange c → IsJsonChange c
json_change (put id f) h = (
  h.0.number,
  record {
    is = refl;
    layer = h.0.feature.layer;
    zooms = h.0.feature.zooms;
    geometry = h.0.feature.geometry;
    world = h.1.geometry;
    tags = h.0.feature.tags;
    values = h.0.feature.values;
  },
)
json_change (delete id) h = h

json_changes : (cs : EditData) → All IsChange cs → All IsJsonChange cs
json_changes [] h = All-nil IsJsonChange
json_changes (c ∷ cs) h =
    All-cons IsJsonChange c cs (json_change c (All-head IsChange c cs h)) (json_changes cs (All-tail IsChange c cs h))

is_batch : (cs : EditData) → IsEdit cs → IsBatch (batch_json cs) cs
is_batch cs edit = record { is = refl; count = edit.allowed.count; distinct = edit.allowed.distinct; each = json_changes cs edit.changes }

some_is : (a b : Data) → Some a ≡ Some b → a ≡ b
some_is a b same = cc

its_changes : (number : ℕ) (cs : EditData) (taken : Data) → HasItsChanges (numbered_edit number cs) taken → taken ≡ batch_json cs
unfolding name_bytes
its_changes number cs taken h =
    h.2 ∙ ap (λ (x : Data). object (member (name_bytes "changes") x no_members))
    (sym (some_is (array (items_of (map asked_json (map asked_of cs)))) h.0 h.1))

pub taken_is_batch : (number : ℕ) (cs : EditData) (listed taken : Data) → number < 2 ^ 64 → IsEdit cs → read (listed_text number cs) ≡ Some listed
    → HasItsChanges listed taken → IsBatch taken cs
taken_is_batch number cs listed taken below edit is has =
    let same : listed ≡ numbered_edit number cs = some_is listed (numbered_edit number cs) (sym is ∙ (edit_is_json number cs below edit).1) in
    subst (λ (d : Data). IsBatch d cs) (sym (its_changes number cs taken (subst (λ (d : Data). HasItsChanges d taken) same has))) (is_batch cs edit)
