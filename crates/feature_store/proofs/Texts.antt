-- How long the texts of a map are together.
use Rattle.std.proofs.Common.{◌≡◌, ◌≢◌, ℕ, ◌+◌, ◌*◌, ◌<◌, ◌≤◌, true, false, List, [], ◌∷◌, ◌++◌, length, refl, sym, ap, subst, arith}
use Rattle.std.specs.List.{All, flat_map}
use Rattle.std.specs.Ordering.{nat_cmp}
use Rattle.std.specs.BTreeMap.{insert_entry, is_at}
use Rattle.std.specs.Map.{remove_entry}
use Rattle.std.specs.declared.cmp.Ordering.TheVariants.{Less, Equal, Greater}
use Rattle.std.proofs.lemmas.List.{length-append}
use Rattle.std.proofs.lemmas.List.Elements.{All-head, All-tail}
use Rattle.feature_model.specs.Data.{ValueData, text_value, natural_value, negative_value, truth_value, TagData, FeatureData, put}
use Rattle.feature_model.specs.Limits.{IsName, keys_of}
use Rattle.feature_model.specs.Spelled.{spelled_change, spelled_feature, spelled_name, spelled_value, spelled_tag, spelled_tags, eight_bytes, spelled_geometry}
use Rattle.feature_model.specs.Types.{IsChange}
use Rattle.edit_text.proofs.Laws.{short_from}
use Rattle.feature_model.specs.declared.limits.TheConstants.{MAX_EDIT_BYTES}
use Rattle.feature_store.specs.Store.{FeatureMap, entry_text, snapshot, with_feature, without_feature}
use Rattle.number_map.proofs.Entries.{set_step, removed_here, removed_on}
use Rattle.number_map.proofs.Numbers.{less, equal, greater, by_order}

value_takes : (v : ValueData) → 0 < length (spelled_value v)
unfolding spelled_value
value_takes (text_value bytes) = omega arith
value_takes (natural_value n) = omega arith
value_takes (negative_value z) = omega arith
value_takes (truth_value true) = omega arith
value_takes (truth_value false) = omega arith

tag_takes : (t : TagData) → IsName t.key → 3 ≤ length (spelled_tag t)
unfolding spelled_tag spelled_name
tag_takes t name = omega (arith, length-append (spelled_name t.key) (spelled_value t.value), value_takes t.value, name.0)

tags_take : (tags : List TagData) → All IsName (keys_of tags) → 3 * length tags ≤ length (flat_map spelled_tag tags)
tags_take [] names = omega arith
tags_take (t ∷ tags) names =
    omega (
      arith,
      length-append (spelled_tag t) (flat_map spelled_tag tags),
      tag_takes t (All-head IsName t.key (keys_of tags) names),
      tags_take tags (All-tail IsName t.key (keys_of tags) names),
    )

-- a tag takes three bytes of its feature's text
feature_takes : (id : ℕ) (f : FeatureData) → All IsName (keys_of f.tags) → 3 * length f.tags ≤ length (spelled_change (put id f))
unfolding spelled_change spelled_feature spelled_tags
feature_takes id f names =
    omega (
      arith,
      length-append (eight_bytes id) (spelled_feature f),
      length-append (spelled_name f.layer) (f.minzoom ∷ f.maxzoom ∷ spelled_geometry f.geometry ++ spelled_tags f.tags),
      length-append (spelled_geometry f.geometry) (spelled_tags f.tags),
      tags_take f.tags names,
    )

-- the tags of all features
abbrev pub all_tags : FeatureMap → List TagData
all_tags m = flat_map (λ e. e.1.tags) m

pub none_takes : length (snapshot []) ≡ 0
unfolding snapshot
none_takes = refl

pub snapshot_on : (e : ℕ × FeatureData) (m : FeatureMap) → length (snapshot (e ∷ m)) ≡ length (entry_text e) + length (snapshot m)
unfolding snapshot
snapshot_on e m = length-append (entry_text e) (snapshot m)

pub tags_in_snapshot : (m : FeatureMap) → All (λ e. IsChange (put e.0 e.1)) m → 3 * length (all_tags m) ≤ length (snapshot m)
tags_in_snapshot [] edits = omega arith
tags_in_snapshot (e ∷ m) edits =
    let P : ℕ × FeatureData → Type 0 = λ d. IsChange (put d.0 d.1) in
    omega (
      arith,
      length-append e.1.tags (all_tags m),
      snapshot_on e m,
      feature_takes e.0 e.1 (All-head P e m edits).0.feature.tags.names,
      tags_in_snapshot m (All-tail P e m edits),
    )

-- each text is short
pub snapshot_short : (m : FeatureMap) → All (λ e. IsChange (put e.0 e.1)) m → length (snapshot m) ≤ MAX_EDIT_BYTES * length m
snapshot_short [] edits = omega (arith, none_takes)
snapshot_short (e ∷ m) edits =
    let P : ℕ × FeatureData → Type 0 = λ d. IsChange (put d.0 d.1) in
    omega (arith, snapshot_on e m, short_from (put e.0 e.1) (All-head P e m edits), snapshot_short m (All-tail P e m edits))

-- ---- with an edit more

set_takes : (m : FeatureMap) (id : ℕ) (f : FeatureData)
    → length (snapshot (insert_entry nat_cmp m id f)) ≤ length (snapshot m) + length (spelled_change (put id f))
set_takes [] id f = omega (arith, snapshot_on (id, f) [])
set_takes (e ∷ m) id f =
    let Q : FeatureMap → Type 0 = λ n. length (snapshot n) ≤ length (snapshot (e ∷ m)) + length (spelled_change (put id f)) in
    by_order id e.0
    (λ h. subst Q (sym (set_step id f e m Less (less id e.0 h))) (omega (arith, snapshot_on (id, f) (e ∷ m))))
    (λ h. subst Q (sym (set_step id f e m Equal (equal id e.0 h)))
    (omega (arith, snapshot_on (e.0, f) m, snapshot_on e m, ap (λ n. length (spelled_change (put n f))) h)))
    (λ h. subst Q (sym (set_step id f e m Greater (greater id e.0 h)))
    (omega (arith, snapshot_on e (insert_entry nat_cmp m id f), snapshot_on e m, set_takes m id f)))

removed_takes : (m : FeatureMap) (id : ℕ) → length (snapshot (remove_entry (is_at (nat_cmp id)) m)) ≤ length (snapshot m)
removed_takes [] id = omega arith
removed_takes (e ∷ m) id =
    let Q : FeatureMap → Type 0 = λ n. length (snapshot n) ≤ length (snapshot (e ∷ m)) in
    let on : (id ≢ e.0) → Q (remove_entry (is_at (nat_cmp id)) (e ∷ m)) = λ h.
    subst Q (sym (removed_on id e m h)) (omega (arith, snapshot_on e (remove_entry (is_at (nat_cmp id)) m), snapshot_on e m, removed_takes m id)) in
    by_order id e.0 (λ h. on (λ t. omega arith)) (λ h. subst Q (sym (removed_here id e m h)) (omega (arith, snapshot_on e m))) (λ h. on (λ t. omega arith))

pub with_takes : (m : FeatureMap) (id : ℕ) (f : FeatureData)
    → length (snapshot (with_feature m id f)) ≤ length (snapshot m) + length (spelled_change (put id f))
unfolding with_feature
with_takes m id f = set_takes m id f

pub without_takes : (m : FeatureMap) (id : ℕ) → length (snapshot (without_feature m id)) ≤ length (snapshot m)
unfolding without_feature
without_takes m id = removed_takes m id
