-- The parts of a feature, one after the other.
use Rattle.std.proofs.Common.{◌≡◌, ℕ, List, [], ◌∷◌, ◌++◌, Result, Ok, Err, OnOk, All, ap, ◌∙◌, append_assoc}
use Rattle.std.specs.Str.{IsUtf8}
use Rattle.feature_model.specs.Data.{FeatureData}
use Rattle.feature_model.specs.Spelled.{spelled_name, spelled_geometry, spelled_tags, spelled_feature}
use Rattle.feature_model.specs.Types.{LiesInWorld, TagFitsTypes, FeatureFitsTypes}

pub feature_put : (f : FeatureData) (front named zoomed shaped out : List ℕ)
    → named ≡ front ++ spelled_name f.layer → zoomed ≡ named ++ (f.minzoom ∷ f.maxzoom ∷ []) → shaped ≡ zoomed ++ spelled_geometry f.geometry
    → out ≡ shaped ++ spelled_tags f.tags
    → out ≡ front ++ spelled_feature f
unfolding spelled_feature
feature_put f front named zoomed shaped out n z s o =
    o ∙ ap (λ r. r ++ spelled_tags f.tags) (s ∙ ap (λ r. r ++ spelled_geometry f.geometry) (z ∙ ap (λ r. r ++ (f.minzoom ∷ f.maxzoom ∷ [])) n))
    ∙ simp append_assoc

pub ruleset features = (feature_put)

pub feature_types : {E : Type 0} (r : Result (Unit {0}) E) (f : FeatureData) → IsUtf8 f.layer → LiesInWorld f.geometry → OnOk r (All TagFitsTypes f.tags)
    → OnOk r (FeatureFitsTypes f)
feature_types (Ok x) f layer geometry tags = record { layer = layer; geometry = geometry; tags = tags }
feature_types (Err e) f layer geometry tags = tt
