-- An edit of a feature of which a tile shows nothing, before and after it, leaves the layers of the tile.
use Rattle.std.proofs.Common.{◌≡◌, ◌≢◌, ℕ, ◌≤◌, ◌^◌, ◌&&◌, Bool, true, false, cond, min, max, List, [], ◌∷◌, map, fold, All}
use Rattle.std.proofs.Common.{Option, Some, None, IsSome, refl, sym, ap, subst, ◌∙◌, arith}
use Rattle.std.specs.Prelude.{Contains, filter_map}
use Rattle.std.specs.List.{cons_option}
use mathlib.Core.Bool.{false≢true}
use Rattle.std.specs.Map.{remove_entry}
use Rattle.std.specs.BTreeMap.{insert_entry, is_at}
use Rattle.std.specs.Ordering.{nat_cmp}
use Rattle.std.specs.declared.cmp.Ordering.TheVariants.{Less, Equal, Greater}
use Rattle.std.proofs.lemmas.Bool.{ltb-true}
use Rattle.std.proofs.lemmas.List.Elements.{All-weaker}
use Rattle.number_map.proofs.Numbers.{less, equal, greater, by_order}
use Rattle.number_map.proofs.Entries.{lookup_here, lookup_on, removed_here, removed_on, set_step}
use Rattle.feature_model.specs.Data.{FeatureData}
use Rattle.feature_model.specs.Types.{LiesInWorld}
use Rattle.tile_cutter.specs.Covered.{all_points, least_of, greatest_of}
use Rattle.tile_cutter.specs.Cut.{feature_cut}
use Rattle.tile_cutter.specs.WorldBox.{bounding_box, tile_box}
use Rattle.tile_cutter.proofs.WorldBox.{apart}
use Rattle.tile_cache.specs.Touched.{Reaches}
use Rattle.feature_store.specs.Layers.{cut_for, cuts_of, is_tile, layers, names_of, IsLayer, AreLayers}
use Rattle.feature_store.specs.Store.{FeatureMap, feature_at, with_feature, without_feature}
use Rattle.feature_store.proofs.Laws.{layers_are, layers_outside}
use Rattle.feature_store.proofs.Maps.{All-set_entry, All-removed_entry}
use Rattle.cached_map.specs.Cached.{box_of}

-- ---- what is cut of a map

module _ {V : Type 0} (g : ℕ × FeatureData → Option V) where
  skips : (e : ℕ × FeatureData) (m : FeatureMap) → g e ≡ None → filter_map g (e ∷ m) ≡ filter_map g m
  skips e m none = ap (λ o. cons_option o (filter_map g m)) none

  behind : (e : ℕ × FeatureData) (m n : FeatureMap) → filter_map g m ≡ filter_map g n → filter_map g (e ∷ m) ≡ filter_map g (e ∷ n)
  behind e m n same = ap (cons_option (g e)) same

  -- what the number's feature gives, if it has one
  abbrev GivesNothing : FeatureMap → ℕ → Type 0
  GivesNothing m id = (f : FeatureData) → feature_at m id ≡ Some f → g (id, f) ≡ None

  nothing_here : (e : ℕ × FeatureData) (m : FeatureMap) (id : ℕ) → id ≡ e.0 → GivesNothing (e ∷ m) id → g e ≡ None
  unfolding feature_at
  nothing_here e m id same before = subst (λ n. g (n, e.1) ≡ None) same (before e.1 (lookup_here id e m same))

  nothing_on : (e : ℕ × FeatureData) (m : FeatureMap) (id : ℕ) → id ≢ e.0 → GivesNothing (e ∷ m) id → GivesNothing m id
  unfolding feature_at
  nothing_on e m id other before f is = before f (lookup_on id e m other ∙ is)

  set_hidden : (m : FeatureMap) (id : ℕ) (f : FeatureData) → g (id, f) ≡ None → GivesNothing m id
      → filter_map g (insert_entry nat_cmp m id f) ≡ filter_map g m
  set_hidden [] id f none before = skips (id, f) [] none
  set_hidden (e ∷ m) id f none before =
      let Q : FeatureMap → Type 0 = λ n. filter_map g n ≡ filter_map g (e ∷ m) in
      by_order id e.0
      (λ h. subst Q (sym (set_step id f e m Less (less id e.0 h))) (skips (id, f) (e ∷ m) none))
      (λ h. subst Q (sym (set_step id f e m Equal (equal id e.0 h)))
      (skips (e.0, f) m (subst (λ n. g (n, f) ≡ None) h none) ∙ sym (skips e m (nothing_here e m id h before))))
      (λ h. subst Q (sym (set_step id f e m Greater (greater id e.0 h)))
      (behind e (insert_entry nat_cmp m id f) m (set_hidden m id f none (nothing_on e m id (λ s. omega (arith, h, s)) before))))

  removed_hidden : (m : FeatureMap) (id : ℕ) → GivesNothing m id → filter_map g (remove_entry (is_at (nat_cmp id)) m) ≡ filter_map g m
  removed_hidden [] id before = refl
  removed_hidden (e ∷ m) id before =
      let Q : FeatureMap → Type 0 = λ n. filter_map g n ≡ filter_map g (e ∷ m) in
      let on : (id ≢ e.0) → Q (remove_entry (is_at (nat_cmp id)) (e ∷ m)) =
      λ h. subst Q (sym (removed_on id e m h)) (behind e (remove_entry (is_at (nat_cmp id)) m) m (removed_hidden m id (nothing_on e m id h before))) in
      by_order id e.0 (λ h. on (λ s. omega (arith, h, s)))
      (λ h. subst Q (sym (removed_here id e m h)) (sym (skips e m (nothing_here e m id h before))))
      (λ h. on (λ s. omega (arith, h, s)))

-- ---- the layers of a tile

module _ (z x y : ℕ) where
  -- nothing of the feature is shown
  abbrev pub IsHidden : FeatureData → Type 0
  IsHidden f = feature_cut f z x y ≡ None

  -- nothing of the number's feature, if it has one
  abbrev pub IsHiddenAt : FeatureMap → ℕ → Type 0
  IsHiddenAt m id = (f : FeatureData) → feature_at m id ≡ Some f → IsHidden f

  no_cut : (name : List ℕ) (id : ℕ) (f : FeatureData) → IsHidden f → cut_for name z x y (id, f) ≡ None
  no_cut name id f none = rw none (none_either _)
    where
      none_either : {V : Type 0} (b : Bool) → ◌≡◌ {A = Option V} (cond b None None) None
      none_either true = refl
      none_either false = refl

  abbrev IsNamed : List (List ℕ) → ℕ × FeatureData → Type 0
  IsNamed names e = IsSome (feature_cut e.1 z x y) → Contains names e.1.layer

  not_named : (names : List (List ℕ)) (id : ℕ) (f : FeatureData) → IsHidden f → IsNamed names (id, f)
  not_named names id f none some = absurd (false≢true (subst IsSome none some))

  same_layers : (m n : FeatureMap) → ((name : List ℕ) → cuts_of n name z x y ≡ cuts_of m name z x y)
      → ((names : List (List ℕ)) → All (IsNamed names) m → All (IsNamed names) n) → layers n z x y ≡ layers m z x y
  same_layers m n cuts named = go (is_tile z x y) refl
    where
      go : (b : Bool) → is_tile z x y ≡ b → layers n z x y ≡ layers m z x y
      go false is = layers_outside n z x y is ∙ sym (layers_outside m z x y is)
      go true is =
          let ls = layers m z x y in
          let was : AreLayers m z x y ls = (layers_are m z x y is ls).1 refl in
          sym ((layers_are n z x y is ls).0 (record {
            ascending = was.ascending;
            layers = All-weaker (IsLayer m z x y) (IsLayer n z x y)
                (λ l h. record { version = h.version; extent = h.extent; some = h.some; cuts = h.cuts ∙ sym (cuts l.name) }) ls was.layers;
            every = named (names_of ls) was.every;
          }))

  pub layers_put : (m : FeatureMap) (id : ℕ) (f : FeatureData) → IsHidden f → IsHiddenAt m id → layers (with_feature m id f) z x y ≡ layers m z x y
  unfolding with_feature
  layers_put m id f none before = same_layers m (insert_entry nat_cmp m id f)
      (λ name. set_hidden (cut_for name z x y) m id f (no_cut name id f none) (λ old is. no_cut name id old (before old is)))
      (λ names all. All-set_entry (IsNamed names) m id f (not_named names id f none) all)

  pub layers_removed : (m : FeatureMap) (id : ℕ) → IsHiddenAt m id → layers (without_feature m id) z x y ≡ layers m z x y
  unfolding without_feature
  layers_removed m id before = same_layers m (remove_entry (is_at (nat_cmp id)) m)
      (λ name. removed_hidden (cut_for name z x y) m id (λ old is. no_cut name id old (before old is)))
      (λ names all. All-removed_entry (IsNamed names) m id all)

-- ---- what a box doesn't reach

between : (m n : ℕ) (ns : List ℕ) → m ≤ n → fold min m ns ≤ fold max n ns
between m n [] le = le
between m n (k ∷ ks) le = between (min m k) (max n k) ks (omega (arith, le))

least_first : (ns : List ℕ) → least_of ns ≤ greatest_of ns
least_first [] = omega arith
least_first (n ∷ ns) = between n n ns (omega arith)

both_true : (a b : Bool) → (a && b) ≡ true → (a ≡ true) × (b ≡ true)
both_true true b h = (refl, h)
both_true false b h = cc

-- a tile shows nothing of a feature whose box doesn't reach it
pub unreached : (f : FeatureData) (z x y : ℕ) → is_tile z x y ≡ true → LiesInWorld f.geometry → ¬ Reaches (box_of f) z x y → feature_cut f z x y ≡ None
unfolding bounding_box
unreached f z x y is lies none =
    let column_row = (both_true _ _ ((both_true _ _ is).1)) in
    apart f z x y (tile_box z x y) refl (ltb-true x (2 ^ z) column_row.0) (ltb-true y (2 ^ z) column_row.1) lies
    (λ meets. none (record {
      ordered = record { across = least_first (map (λ p. p.x) (all_points f.geometry)); down = least_first (map (λ p. p.y) (all_points f.geometry)) };
      meets = meets;
    }))
