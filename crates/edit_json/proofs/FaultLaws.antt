-- A value is the value of one feature, or has a first fault, and never both.
use Rattle.std.proofs.Common.{◌≡◌, ℕ, ◌≤◌, List, length, All, Ok, Err, ◌≢◌, refl, sym, ap, subst, ◌∙◌, ◌⊎◌, inl, inr, nat_cmp, arith}
use Rattle.std.specs.Cmp.Lexicographic.{slice_cmp}
use Rattle.std.specs.List.Sorted.{IsStrictlySortedBy}
use Rattle.serde_json.specs.Data.{Data, Members}
use Rattle.feature_model.specs.declared.limits.TheConstants.{MAX_TAGS}
use Rattle.reader.proofs.Steps.{same_value, not_both}
use Rattle.feature_model.specs.declared.fault.EditFault.{EditFault}
use Rattle.feature_model.specs.declared.fault.EditFault.TheVariants as faults
use Rattle.feature_model.specs.Data.{GeometryData, TagData, FeatureData}
use Rattle.feature_model.specs.Limits.{IsName, keys_of, GeometryFits, TagsFit, ValuesFit}
use Rattle.edit_json.specs.Json.{name_bytes, ShapeData, point_list, line_list, polygon_list}
use Rattle.edit_json.specs.Json.{shape_json, shape_of, tags_json, OutlineData, outline_json, outline_of}
use Rattle.feature_model.specs.Types.{LiesInWorld}
use Rattle.edit_json.specs.Faults.{IsFeature, IsOutline, HasOutline, NameFits, RangeFits, HasGeometry, names_of, HasKeys, HasTags, IsFirstJsonFault}
use Rattle.edit_json.specs.Lists.{geometry_at}
use Rattle.edit_json.specs.Tags.{tags_at}
use Rattle.edit_json.proofs.GeometryLaws.{geometry_at-says, geometry_at-finds, geometry_at-fault}
use Rattle.edit_json.proofs.TagLaws.{tags_at-says, tags_at-finds, tags_at-fault, names_of-tags, length-keys_of}

-- a geometry's object has one list
shape_json-one : (s t : ShapeData) → shape_json s ≡ shape_json t → s ≡ t
unfolding name_bytes
shape_json-one (point_list ds) (point_list es) e = cc
shape_json-one (point_list ds) (line_list es) e = cc
shape_json-one (point_list ds) (polygon_list es) e = cc
shape_json-one (line_list ds) (point_list es) e = cc
shape_json-one (line_list ds) (line_list es) e = cc
shape_json-one (line_list ds) (polygon_list es) e = cc
shape_json-one (polygon_list ds) (point_list es) e = cc
shape_json-one (polygon_list ds) (line_list es) e = cc
shape_json-one (polygon_list ds) (polygon_list es) e = cc

-- an object has one outline
pub outline_json-one : (o p : OutlineData) → outline_json o ≡ outline_json p → o ≡ p
outline_json-one o p e =
    let s : shape_json o.shape ≡ shape_json p.shape = cc in
    let shape = shape_json-one o.shape p.shape s in
    let layer : o.layer ≡ p.layer = cc in
    let minzoom : o.minzoom ≡ p.minzoom = cc in
    let maxzoom : o.maxzoom ≡ p.maxzoom = cc in
    let tags : o.tags ≡ p.tags = cc in
    λ i. record { layer = layer i; minzoom = minzoom i; maxzoom = maxzoom i; shape = shape i; tags = tags i }

-- one geometry has a list
shape_of-one : (g h : GeometryData) → GeometryFits g → LiesInWorld g → GeometryFits h → LiesInWorld h → shape_of g ≡ shape_of h → g ≡ h
shape_of-one g h a b c d e = same_value g h (sym (geometry_at-finds g a b) ∙ ap geometry_at e ∙ geometry_at-finds h c d)

-- tags have members of their own
tags_json-one : (ts us : List TagData) → ValuesFit ts → ValuesFit us → tags_json ts ≡ tags_json us → ts ≡ us
tags_json-one ts us a b e = same_value ts us (sym (tags_at-finds ts a) ∙ ap tags_at e ∙ tags_at-finds us b)

-- a value is the value of one feature
pub feature-one : (d : Data) (f g : FeatureData) → IsFeature d f → IsFeature d g → f ≡ g
feature-one d f g a b =
    let e = outline_json-one (outline_of f) (outline_of g) (sym a.is ∙ b.is) in
    let s = shape_of-one f.geometry g.geometry a.geometry a.world b.geometry b.world (ap (λ o. o.shape) e) in
    let t = tags_json-one f.tags g.tags a.values b.values (ap (λ o. o.tags) e) in
    λ i. record { layer = (e i).layer; minzoom = (e i).minzoom; maxzoom = (e i).maxzoom; geometry = s i; tags = t i }

-- the outline of a feature's value is its own
outline-one : (d : Data) (f : FeatureData) (P : OutlineData → Type 0) → IsFeature d f → HasOutline d P → P (outline_of f)
outline-one d f P a h = subst P (outline_json-one h.0 (outline_of f) (sym h.1.is ∙ a.is)) h.2

tags-keys : (ts : List TagData) → TagsFit ts → (length (names_of (tags_json ts)) ≤ MAX_TAGS) × All IsName (names_of (tags_json ts))
tags-keys ts h = let P : List (List ℕ) → Type 0 = λ ns. (length ns ≤ MAX_TAGS) × All IsName ns in
    let few : length (keys_of ts) ≤ MAX_TAGS = rw (length-keys_of ts) h.few in
    subst P (sym (names_of-tags ts)) (few, h.names)

-- the value of a feature has no fault
pub feature-faultless : (d : Data) (f : FeatureData) (e : EditFault) → IsFeature d f → IsFirstJsonFault d e → e ≡ faults.Memory
feature-faultless d f faults.Member a h = absurd (h (outline_of f) (record { is = a.is; low = omega (arith, a.zooms); high = omega (arith, a.zooms) }))
feature-faultless d f faults.Layer a h = absurd (outline-one d f (λ o. ¬ NameFits o) a h a.layer)
feature-faultless d f faults.Zoom a h = absurd ((outline-one d f (λ o. NameFits o × ¬ RangeFits o) a h).1 a.zooms)
feature-faultless d f faults.Geometry a h =
    absurd ((outline-one d f (λ o. NameFits o × RangeFits o × ¬ HasGeometry o) a h).2 (f.geometry, refl, a.geometry, a.world))
feature-faultless d f faults.Tags a h = absurd ((outline-one d f (λ o. NameFits o × RangeFits o × HasGeometry o × ¬ HasKeys o) a h).3 (tags-keys f.tags a.tags))
feature-faultless d f faults.Value a h =
    absurd ((outline-one d f (λ o. NameFits o × RangeFits o × HasGeometry o × HasKeys o × ¬ HasTags o) a h).4 (f.tags, refl, a.values))
feature-faultless d f faults.Memory a h = refl
feature-faultless d f _ a h = absurd h

-- ---- what the reader's steps return

keys-fit : (ms : Members) (ts : List TagData) → ms ≡ tags_json ts → length (names_of ms) ≤ MAX_TAGS → All IsName (names_of ms)
    → IsStrictlySortedBy (slice_cmp nat_cmp) (names_of ms) → TagsFit ts
keys-fit ms ts e few names ascending =
    let f : names_of ms ≡ keys_of ts = ap names_of e ∙ names_of-tags ts in
    let P : List (List ℕ) → Type 0 = λ ns. All IsName ns in
    let Q : List (List ℕ) → Type 0 = λ ns. IsStrictlySortedBy (slice_cmp nat_cmp) ns in
    record { few = omega (arith, few, ap length f, length-keys_of ts); names = subst P f names; ascending = subst Q f ascending }

-- the list is a geometry's
pub has_geometry : (o : OutlineData) (g : GeometryData) → geometry_at o.shape ≡ Ok g → HasGeometry o
has_geometry o g e = let h = geometry_at-says o.shape g e in (g, h.0, h.1, h.2)

no-geometry : (o : OutlineData) (e : EditFault) → geometry_at o.shape ≡ Err e → ¬ HasGeometry o
no-geometry o e is h = not_both h.0 e (sym (geometry_at-finds h.0 h.2 h.3) ∙ ap geometry_at (sym h.1) ∙ is)

no-tags : (o : OutlineData) (e : EditFault) → tags_at o.tags ≡ Err e → ¬ HasTags o
no-tags o e is h = not_both h.0 e (sym (tags_at-finds h.0 h.2) ∙ ap tags_at (sym h.1) ∙ is)

is_memory : (e : EditFault) → (e ≡ faults.Memory) ⊎ (e ≢ faults.Memory)
is_memory faults.Memory = inl refl
is_memory _ = inr (λ e. cc)

pub geometry-refused : (d : Data) (o : OutlineData) (e : EditFault) → IsOutline d o → NameFits o → RangeFits o
    → (e ≢ faults.Memory → geometry_at o.shape ≡ Err e) → IsFirstJsonFault d e
geometry-refused d o e h n r met = elim (is_memory e) [
  | inl m ↦ rw m (o, h, (n, r))
  | inr other ↦ let is = met other in rw (geometry_at-fault o.shape e is) (o, h, (n, r, no-geometry o e is))
]

pub tags-refused : (d : Data) (o : OutlineData) (e : EditFault) → IsOutline d o → NameFits o → RangeFits o → HasGeometry o → HasKeys o
    → (e ≢ faults.Memory → tags_at o.tags ≡ Err e) → IsFirstJsonFault d e
tags-refused d o e h n r g k met = elim (is_memory e) [
  | inl m ↦ rw m (o, h, (n, r))
  | inr other ↦ let is = met other in rw (tags_at-fault o.tags e is) (o, h, (n, r, g, k, no-tags o e is))
]

pub feature-found : (d : Data) (o : OutlineData) (f : FeatureData) → IsOutline d o → NameFits o → RangeFits o
    → geometry_at o.shape ≡ Ok f.geometry → HasKeys o → IsStrictlySortedBy (slice_cmp nat_cmp) (names_of o.tags) → tags_at o.tags ≡ Ok f.tags
    → f.layer ≡ o.layer → f.minzoom ≡ o.minzoom → f.maxzoom ≡ o.maxzoom → IsFeature d f
feature-found d o f h n r g k a t layer low high =
    let s = geometry_at-says o.shape f.geometry g in
    let m = tags_at-says o.tags f.tags t in
    let e : o ≡ outline_of f = λ i. record { layer = sym layer i; minzoom = sym low i; maxzoom = sym high i; shape = s.0 i; tags = m.0 i } in
    record {
      is = h.is ∙ ap outline_json e;
      layer = rw layer n;
      zooms = rw (low, high) r;
      geometry = s.1;
      world = s.2;
      tags = keys-fit o.tags f.tags m.0 k.0 k.1 a;
      values = m.1;
    }
