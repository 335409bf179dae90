-- The text of a feature shows that feature.
use Rattle.std.proofs.Common.{◌≡◌, ℕ, List, ◌++◌, drop, refl, ap, ◌∙◌}
use Rattle.feature_model.specs.Data.{FeatureData, put}
use Rattle.feature_model.specs.Limits.{FeatureFits}
use Rattle.feature_model.specs.Types.{FeatureFitsTypes}
use Rattle.feature_model.specs.Spelled.{eight_bytes, spelled_feature, spelled_change}
use Rattle.edit_text.specs.Decoding.{BeginsWithChange}
use Rattle.edit_text.proofs.ChangeCodecs.{codec_feature}
use Rattle.edit_text.proofs.EditCodecs.{is_feature}
use Rattle.edit_text.specs.Trusted.{feature_in, feature_of_text}
use Rattle.edit_text.proofs.TrustedShapes.{trust_feature}

pub feature_shown : (f : FeatureData) (rest : List ℕ) → FeatureFits f → FeatureFitsTypes f → feature_in (spelled_feature f ++ rest) ≡ (f, rest)
feature_shown f rest fits types = trust_feature (spelled_feature f ++ rest) (f, rest) (codec_feature.reads f rest (is_feature f fits types))

behind_head : (id : ℕ) (f : FeatureData) (rest : List ℕ) → drop 9 (spelled_change (put id f) ++ rest) ≡ spelled_feature f ++ rest
unfolding spelled_change eight_bytes
behind_head id f rest = refl

pub text_shows : (text : List ℕ) (id : ℕ) (f : FeatureData) → BeginsWithChange (put id f) text → feature_of_text text ≡ f
unfolding feature_of_text
text_shows text id f begins =
    ap (λ b. (feature_in (drop 9 b)).0) begins.1.1 ∙ ap (λ b. (feature_in b).0) (behind_head id f begins.1.0)
    ∙ ap (λ r. r.0) (feature_shown f begins.1.0 begins.0.0.feature begins.0.1)
