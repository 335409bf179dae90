-- What is written for the layers of a tile is at most sixty times as long as the texts of the map.
use Rattle.std.proofs.Common.{◌≡◌, ℕ, ◌+◌, ◌*◌, ◌<◌, ◌≤◌, Bool, true, false, cond, List, [], ◌∷◌, length, map, Option, Some, None, All, refl, sym, ap, ◌∙◌}
use Rattle.std.proofs.Common.{arith, if◌then◌else◌}
use Rattle.std.specs.Option.{option_map}
use Rattle.std.specs.Str.{bytes_eq}
use Rattle.std.specs.List.{AllByRecursion, cons_option, flat_map}
use Rattle.std.specs.List.Sorted.{IsStrictlySortedBy}
use Rattle.std.specs.Ordering.{nat_cmp, is_eq}
use Rattle.std.specs.declared.cmp.Ordering.TheVariants.{Less}
use Rattle.std.specs.Cmp.Lexicographic.{slice_cmp}
use Rattle.std.proofs.lemmas.List.{length-append}
use Rattle.std.proofs.lemmas.List.Elements.{All-head, All-tail}
use Rattle.std.proofs.lemmas.Map.Text.{is_eq-slice_cmp}
use Rattle.std.proofs.lemmas.Slice.Eq.{bytes_eq-Decides}
use Rattle.feature_model.specs.Data.{FeatureData, TagData, ValueData, text_value, natural_value, negative_value, truth_value}
use Rattle.feature_model.specs.Spelled.{spelled_value, spelled_tag}
use Rattle.feature_model.proofs.TextLengths.{length-text, length-natural, length-negative, length-truth, length-spelled_tag, length-spelled_tags}
use Rattle.feature_model.proofs.TextLengths.{length-spelled_change}
use Rattle.mvt_layer.specs.Tile.{FeatureView, LayerView}
use Rattle.mvt_write.specs.Written.{value_written, written}
use Rattle.mvt_write.proofs.Lengths.{total, tag_size, feature_size, layer_size, length_value, length_written}
use Rattle.tile_cutter.specs.Cut.{shown_value, shown_tag, feature_cut}
use Rattle.tile_cutter.proofs.Sizes.{integers_in_text}
use Rattle.feature_store.specs.Layers.{cuts_of, names_of, IsLayer, AreLayers}
use Rattle.feature_store.specs.Store.{FeatureMap, entry_text, snapshot}
use Rattle.feature_store.proofs.Shown.{tags_shown}
use Rattle.feature_store.proofs.Texts.{snapshot_on}

-- ---- a feature, by its text

value_size : (v : ValueData) → length (value_written (shown_value v)) ≤ 20 * length (spelled_value v)
value_size (text_value bytes) = omega (arith, length_value (shown_value (text_value bytes)), length-text bytes)
value_size (natural_value n) = omega (arith, length_value (shown_value (natural_value n)), length-natural n)
value_size (negative_value z) = omega (arith, length_value (shown_value (negative_value z)), length-negative z)
value_size (truth_value b) = omega (arith, length_value (shown_value (truth_value b)), length-truth b)

tags_size : (tags : List TagData) → total tag_size (map shown_tag tags) ≤ 60 * length (flat_map spelled_tag tags)
tags_size [] = omega arith
tags_size (t ∷ tags) = omega (arith, length-append (spelled_tag t) (flat_map spelled_tag tags), length-spelled_tag t, value_size t.value, tags_size tags)

-- a feature, and the layer that it may be alone in
abbrev with_layer : List ℕ → FeatureView → ℕ
with_layer name f = 80 + length name + feature_size f

module _ (z x y : ℕ) where
  entry_size : (e : ℕ × FeatureData) (v : FeatureView) → feature_cut e.1 z x y ≡ Some v
      → with_layer e.1.layer (record v { id = Some e.0 }) ≤ 60 * length (entry_text e)
  entry_size e v cut =
      let f = e.1 in
      let shown = ap (λ tags. total tag_size tags) (tags_shown f z x y v cut) in
      omega (arith, integers_in_text z x y f v cut, shown, tags_size f.tags, length-spelled_change e.0 f, length-spelled_tags f.tags)

-- ---- a layer, by the entries that have its name

-- what an entry weighs in a layer
abbrev weight : List ℕ → ℕ × FeatureData → ℕ
weight name e = cond (bytes_eq e.1.layer name) (60 * length (entry_text e)) 0

-- the first of features carries their layer
features_size : (name : List ℕ) (fs : List FeatureView) → total feature_size fs ≤ total (with_layer name) fs
features_size name [] = omega arith
features_size name (f ∷ fs) = omega (arith, features_size name fs)

carried : (name : List ℕ) (fs : List FeatureView) → 0 < length fs → 80 + length name + total feature_size fs ≤ total (with_layer name) fs
carried name [] some = absurd (omega arith)
carried name (f ∷ fs) some = omega (arith, features_size name fs)

module _ (z x y : ℕ) where
  cuts_weigh : (name : List ℕ) (m : FeatureMap) → total (with_layer name) (cuts_of m name z x y) ≤ total (weight name) m
  cuts_weigh name [] = omega arith
  cuts_weigh name (e ∷ m) = by (bytes_eq e.1.layer name) refl (feature_cut e.1 z x y) refl (cuts_weigh name m)
    where
      by : (b : Bool) → bytes_eq e.1.layer name ≡ b → (o : Option FeatureView) → feature_cut e.1 z x y ≡ o
          → total (with_layer name) (cuts_of m name z x y) ≤ total (weight name) m
          → total (with_layer name) (cons_option (if b then option_map (λ (f : FeatureView). record f { id = Some e.0 }) o else None) (cuts_of m name z x y))
          ≤ cond b (60 * length (entry_text e)) 0 + total (weight name) m
      by false differs o is rest = omega arith
      by true same None is rest = omega arith
      by true same (Some v) is rest = omega (arith, entry_size z x y e v is, ap length ((bytes_eq-Decides e.1.layer name).0 same))

  layer_weighs : (m : FeatureMap) (l : LayerView) → IsLayer m z x y l → layer_size l ≤ total (weight l.name) m
  layer_weighs m l is =
      omega (arith, carried l.name l.features is.some, ap (λ fs. total (with_layer l.name) fs) is.cuts, cuts_weigh l.name m)

  layers_weigh : (m : FeatureMap) (ls : List LayerView) → All (IsLayer m z x y) ls → total layer_size ls ≤ total (λ n. total (weight n) m) (names_of ls)
  layers_weigh m [] all = omega arith
  layers_weigh m (l ∷ ls) all =
      omega (arith, layer_weighs m l (All-head (IsLayer m z x y) l ls all), layers_weigh m ls (All-tail (IsLayer m z x y) l ls all))

-- ---- an entry weighs in one layer at most

module _ (e : ℕ × FeatureData) where
  weighs_no_more : (n : List ℕ) (ns : List (List ℕ)) → n ≡ e.1.layer → AllByRecursion (λ k. slice_cmp nat_cmp n k ≡ Less) ns → total (λ k. weight k e) ns ≡ 0
  weighs_no_more n [] is above = refl
  weighs_no_more n (k ∷ ns) is above =
      let differs : bytes_eq n k ≡ false = sym (is_eq-slice_cmp n k) ∙ ap is_eq above.0 in
      let none : weight k e ≡ 0 = rw (← is, differs) refl in
      omega (arith, none, weighs_no_more n ns is above.1)

  weighs_once : (ns : List (List ℕ)) → IsStrictlySortedBy (slice_cmp nat_cmp) ns → total (λ n. weight n e) ns ≤ 60 * length (entry_text e)
  unfolding IsStrictlySortedBy
  weighs_once [] s = omega arith
  weighs_once (n ∷ ns) s = by (bytes_eq e.1.layer n) refl (weighs_once ns s.1)
    where
      by : (b : Bool) → bytes_eq e.1.layer n ≡ b → total (λ k. weight k e) ns ≤ 60 * length (entry_text e)
          → cond b (60 * length (entry_text e)) 0 + total (λ k. weight k e) ns ≤ 60 * length (entry_text e)
      by true same rest = omega (arith, weighs_no_more n ns (sym ((bytes_eq-Decides e.1.layer n).0 same)) s.0)
      by false differs rest = omega arith

total_both : {X : Type 0} (f g : X → ℕ) (xs : List X) → total (λ x. f x + g x) xs ≡ total f xs + total g xs
total_both f g [] = omega arith
total_both f g (x ∷ xs) = omega (arith, total_both f g xs)

total_none : {X : Type 0} (xs : List X) → total (λ (x : X). 0) xs ≡ 0
total_none [] = refl
total_none (x ∷ xs) = omega (arith, total_none xs)

map_weighs : (m : FeatureMap) (ns : List (List ℕ)) → IsStrictlySortedBy (slice_cmp nat_cmp) ns → total (λ n. total (weight n) m) ns ≤ 60 * length (snapshot m)
map_weighs [] ns s = omega (arith, total_none ns)
map_weighs (e ∷ m) ns s =
    omega (arith, total_both (λ n. weight n e) (λ n. total (weight n) m) ns, weighs_once e ns s, map_weighs m ns s, snapshot_on e m)

pub written_in_snapshot : (m : FeatureMap) (z x y : ℕ) (ls : List LayerView) → AreLayers m z x y ls → length (written ls) ≤ 60 * length (snapshot m)
written_in_snapshot m z x y ls are =
    omega (arith, length_written ls, layers_weigh z x y m ls are.layers, map_weighs m (names_of ls) are.ascending)
