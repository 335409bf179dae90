-- A layer from its fields, where each of them was read or met a fault.
use Rattle.std.proofs.Common.{◌≡◌, ◌≢◌, ℕ, List, Result, Ok, Err, refl, sym, ap, ◌∙◌}
use Rattle.std.specs.Option.{option_map}
use Rattle.reader.specs.Reading.{Read, ◌>>=◌, Gives}
use Rattle.reader.proofs.Steps.{failed, same_fault, not_both, then_on, then_stop}
use Rattle.mvt_layer.specs.declared.fault.TileFault.{TileFault}
use Rattle.mvt_layer.specs.declared.fault.TileFault.TheVariants.{Memory}
use Rattle.mvt_layer.specs.declared.layer_fields.LayerFields.{LayerFields}
use Rattle.mvt_layer.specs.declared.field_numbers.TheConstants.{LAYER_NAME, LAYER_FEATURES, LAYER_KEYS, LAYER_VALUES, LAYER_EXTENT, LAYER_VERSION}
use Rattle.mvt_layer.specs.Tile.{bytes_of, LayerView}
use Rattle.mvt_layer.specs.Reading.{onward, last_number_in, last_bytes_in, parts_in, each_in, layer_at}
use Rattle.mvt_layer.specs.Reading.{name_at, version_at, extent_at, text_at, tag_value_at, feature_at}
use Rattle.mvt_layer.specs.Fields.{layer_from}

-- the second reads as the first does, unless an allocation failed before the first
abbrev Agrees : {A : Type 0} → Read TileFault A → Read TileFault A → Type 0
Agrees a b = a ≢ Err Memory → a ≡ b

agrees_then : {A B : Type 0} (read : Read TileFault A) (f g : A → Read TileFault B) → ((x : A) → Agrees (f x) (g x)) → Agrees (read >>= f) (read >>= g)
agrees_then (Ok x) f g each other = each x other
agrees_then (Err d) f g each other = refl

-- what a field said leads on as what its bytes read as does
agrees_on : {X S A B : Type 0} (view : X → S) (said : Result X TileFault) (read : Read TileFault S) (step : S → Read TileFault A)
    → (f g : A → Read TileFault B) → Gives Memory view said read → ((x : A) → Agrees (f x) (g x))
    → Agrees (onward view said step >>= f) (read >>= λ s. step s >>= g)
agrees_on view (Ok x) read step f g e each other =
    agrees_then (step (view x)) f g each other ∙ sym (then_on read (λ s. step s >>= g) (view x) e)
agrees_on {B} view (Err d) read step f g e each other =
    sym (then_stop read (λ s. step s >>= g) d (e (λ m. other (ap (failed {A = B}) m))))

gives_agreed : {X A : Type 0} (view : X → A) (result : Result X TileFault) (a b : Read TileFault A)
    → Agrees a b → Gives Memory view result a → Gives Memory view result b
gives_agreed view (Ok x) a b same e = sym (same (λ m. not_both (view x) Memory (sym e ∙ m))) ∙ e
gives_agreed {A} view (Err d) a b same e = λ other.
    sym (same (λ m. other (same_fault {A = A} d Memory (sym (e other) ∙ m)))) ∙ e other

-- each of the fields says what the bytes of the layer read as
pub record FieldsOf (bytes : List ℕ) (fields : LayerFields) : Type 0 where
  pub name : Gives Memory (option_map (λ b. b.now)) fields.name (last_bytes_in LAYER_NAME bytes)
  pub features : Gives Memory (λ v. bytes_of v.items) fields.features (parts_in LAYER_FEATURES bytes)
  pub keys : Gives Memory (λ v. bytes_of v.items) fields.keys (parts_in LAYER_KEYS bytes)
  pub values : Gives Memory (λ v. bytes_of v.items) fields.values (parts_in LAYER_VALUES bytes)
  pub extent : Gives Memory (λ n. n) fields.extent (last_number_in LAYER_EXTENT bytes)
  pub version : Gives Memory (λ n. n) fields.version (last_number_in LAYER_VERSION bytes)

layer_agrees : (bytes : List ℕ) (fields : LayerFields) → FieldsOf bytes fields → Agrees (layer_from fields) (layer_at bytes)
unfolding layer_at
layer_agrees bytes fields says =
    agrees_on (option_map (λ b. b.now)) fields.name (last_bytes_in LAYER_NAME bytes) name_at _ _ says.name (λ name.
    agrees_on (λ n. n) fields.version (last_number_in LAYER_VERSION bytes) version_at _ _ says.version (λ version.
    agrees_on (λ n. n) fields.extent (last_number_in LAYER_EXTENT bytes) extent_at _ _ says.extent (λ extent.
    agrees_on (λ v. bytes_of v.items) fields.keys (parts_in LAYER_KEYS bytes) (each_in text_at) _ _ says.keys (λ keys.
    agrees_on (λ v. bytes_of v.items) fields.values (parts_in LAYER_VALUES bytes) (each_in tag_value_at) _ _ says.values (λ values.
    agrees_on (λ v. bytes_of v.items) fields.features (parts_in LAYER_FEATURES bytes) (each_in (feature_at keys values)) _ _ says.features (λ features.
    λ _. refl))))))

-- what the fields make is what the bytes read as
pub layer_gives : {X : Type 0} (view : X → LayerView) (result : Result X TileFault) (bytes : List ℕ) (fields : LayerFields)
    → FieldsOf bytes fields → Gives Memory view result (layer_from fields) → Gives Memory view result (layer_at bytes)
layer_gives view result bytes fields says = gives_agreed view result (layer_from fields) (layer_at bytes) (layer_agrees bytes fields says)
