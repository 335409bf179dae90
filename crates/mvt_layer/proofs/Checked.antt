-- Tiles that are checked part by part.
use Rattle.std.proofs.Common.{◌≡◌, ℕ, true, false, List, [], ◌∷◌, ◌++◌, Result, Ok, Err, ◌⊎◌, inl, inr, length, refl, sym, subst, ◌∙◌, arith}
use Rattle.std.specs.Prelude.{◌≢◌, IsOk, IfOk, IfErr}
use Rattle.std.specs.Option.{option_map}
use Rattle.std.specs.Borrow.{Bor}
use Rattle.reader.proofs.Steps.{not_both, then_is, then_stop, folded_on, folded_stop, folded_done}
use Rattle.geometry_commands.proofs.Past.{ok_is}
use Rattle.mvt_layer.specs.declared.fault.TileFault.{TileFault}
use Rattle.mvt_layer.specs.declared.fault.TileFault.TheVariants as faults
use Rattle.mvt_layer.specs.declared.layer_fields.LayerFields.{LayerFields}
use Rattle.mvt_layer.specs.Tile.{bytes_of, TagView, FeatureView, LayerView}
use Rattle.mvt_layer.specs.Fields.{featured, layer_from}
use Rattle.mvt_layer.specs.Faulty.{TileHas}
use Rattle.mvt_layer.specs.Reads.{ReadsAs}
use Rattle.mvt_layer.specs.Reading.{onward, feature_at, text_at, tag_value_at, each_in, name_at, version_at, extent_at, layer_made, layer_at, has_name}
use Rattle.mvt_layer.specs.Reading.{layer_added, layer_more, layers_in, tile_at}
use Rattle.mvt_layer.proofs.Folds.{part_at}
use Rattle.mvt_layer.proofs.FieldLaws.{FieldsOf, layer_gives}
use Rattle.mvt_layer.proofs.TileFaulty.{tile_has}
use Rattle.mvt_layer.proofs.TileLaws.{tile_reads}

-- ---- layers

module _ (name : List ℕ) (version extent : ℕ) (fields : LayerFields) where
  pools_made : (keys : List (List ℕ)) (values : List TagView) (features : List FeatureView)
      → onward (λ v. bytes_of v.items) fields.keys (each_in text_at) ≡ Ok keys
      → onward (λ v. bytes_of v.items) fields.values (each_in tag_value_at) ≡ Ok values
      → onward (λ v. bytes_of v.items) fields.features (each_in (feature_at keys values)) ≡ Ok features
      → featured name version extent fields ≡ layer_made name version extent features
  pools_made keys values features e1 e2 e3 = rw (e1, e2, e3) refl

  pub pools_checked : (keys : List (List ℕ)) (values : List TagView) → onward (λ v. bytes_of v.items) fields.keys (each_in text_at) ≡ Ok keys
      → onward (λ v. bytes_of v.items) fields.values (each_in tag_value_at) ≡ Ok values
      → IsOk (onward (λ v. bytes_of v.items) fields.features (each_in (feature_at keys values)))
      → (features : List FeatureView) × (featured name version extent fields ≡ layer_made name version extent features)
  pools_checked keys values e1 e2 ok =
      let f = ok_is (onward (λ v. bytes_of v.items) fields.features (each_in (feature_at keys values))) ok in
      (f.0, pools_made keys values f.0 e1 e2 f.1)

  module _ (e1 : onward (option_map (λ b. b.now)) fields.name name_at ≡ Ok name) (e2 : onward (λ n. n) fields.version version_at ≡ Ok version)
      (e3 : onward (λ n. n) fields.extent extent_at ≡ Ok extent) where
    said_from : layer_from fields ≡ featured name version extent fields
    said_from = rw (e1, e2, e3) refl

    pub said_checked : (features : List FeatureView) × (featured name version extent fields ≡ layer_made name version extent features)
        → (l : LayerView) × (layer_from fields ≡ Ok l) × (l.name ≡ name)
    said_checked made =
        (record { name = name; version = version; extent = extent; features = made.0 }, said_from ∙ made.1, refl)

    pub said_fault : (d : TileFault) → featured name version extent fields ≡ Err d → layer_from fields ≡ Err d
    said_fault d e = said_from ∙ e

-- what the fields of a layer say is what its bytes do
module _ (bytes : List ℕ) (fields : LayerFields) (says : FieldsOf bytes fields) where
  pub found_layer : {X : Type 0} (view : X → List ℕ) (r : Result X TileFault)
      → IfOk r (λ x. (l : LayerView) × (layer_from fields ≡ Ok l) × (l.name ≡ view x))
      → IfOk r (λ x. (l : LayerView) × (layer_at bytes ≡ Ok l) × (l.name ≡ view x))
  found_layer view (Ok x) h = (h.0, layer_gives (λ (l : LayerView). l) (Ok h.0) bytes fields says h.1, h.2)
  found_layer view (Err d) h = tt

  pub fault_layer : {X : Type 0} (r : Result X TileFault) → IfErr r (λ d. d ≢ faults.Memory → layer_from fields ≡ Err d)
      → IfErr r (λ d. d ≢ faults.Memory → layer_at bytes ≡ Err d)
  fault_layer (Ok x) h = tt
  fault_layer (Err d) h = layer_gives (λ (l : LayerView). l) (Err d) bytes fields says h

-- ---- layers with names

module _ (before : List LayerView) (part name : List ℕ) (l : LayerView) (e : layer_at part ≡ Ok l) (is : l.name ≡ name) where
  pub layer_new : has_name before name ≡ false → layer_more before part ≡ Ok (before ++ l ∷ [])
  layer_new none =
      let other : has_name before l.name ≡ false = subst (λ (n : List ℕ). has_name before n ≡ false) (sym is) none in
      then_is (layer_at part) (layer_added before) l (Ok (before ++ l ∷ [])) e (rw other refl)

  pub layer_twice : has_name before name ≡ true → layer_more before part ≡ Err faults.LayerTwice
  layer_twice there =
      let same : has_name before l.name ≡ true = subst (λ (n : List ℕ). has_name before n ≡ true) (sym is) there in
      then_is (layer_at part) (layer_added before) l (Err faults.LayerTwice) e (rw same refl)

-- ---- tiles of one layer

pub only_part : (raw : List (Bor (List ℕ))) → length raw ≡ 1 → bytes_of raw ≡ part_at raw 0 ∷ []
only_part [] one = absurd (omega arith)
only_part (p ∷ []) one = refl
only_part (p ∷ q ∷ ps) one = absurd (omega arith)

pub only_layer : (part : List ℕ) (l : LayerView) → layer_at part ≡ Ok l → layers_in (part ∷ []) ≡ Ok (l ∷ [])
only_layer part l e =
    folded_done layer_more (l ∷ []) [] (layers_in (part ∷ [])) refl
    (folded_on layer_more [] (l ∷ []) part (part ∷ []) [] (layers_in (part ∷ [])) refl refl (layer_new [] part l.name l e refl refl))

pub only_fault : (part : List ℕ) (d : TileFault) → layer_at part ≡ Err d → layers_in (part ∷ []) ≡ Err d
only_fault part d e =
    folded_stop layer_more [] part (part ∷ []) [] d (layers_in (part ∷ [])) refl refl (then_stop (layer_at part) (layer_added []) d e)

-- ---- tiles

module _ (bytes : List ℕ) where
  is_memory : (d : TileFault) → (d ≡ faults.Memory) ⊎ (d ≢ faults.Memory)
  is_memory faults.Memory = inl refl
  is_memory _ = inr (λ e. cc)

  pub tile_passes : {X : Type 0} (r : Result X TileFault) → IfErr r (λ d. d ≢ faults.Memory → tile_at bytes ≡ Err d)
      → (ls : List LayerView) → ReadsAs bytes ls → IfErr r (λ d. d ≡ faults.Memory)
  tile_passes (Ok x) h ls is = tt
  tile_passes (Err d) h ls is =
      elim (is_memory d) [ inl same ↦ same | inr other ↦ absurd (not_both ls d (sym (tile_reads bytes ls is) ∙ h other)) ]

  pub tile_has_fault : {X : Type 0} (r : Result X TileFault) → IfErr r (λ d. d ≢ faults.Memory → tile_at bytes ≡ Err d)
      → IfErr r (λ d. d ≢ faults.Memory → TileHas bytes d)
  tile_has_fault (Ok x) h = tt
  tile_has_fault (Err d) h = λ other. tile_has bytes d (h other)
