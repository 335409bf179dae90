-- Edits, tied to what is read.
use Rattle.std.proofs.Common.{◌≡◌, ℕ, ◌<◌, ◌≤◌, true, ◌&&◌, List, [], ◌∷◌, ◌++◌, length, nat_le, refl, sym, ap, subst, arith}
use Rattle.std.specs.List.{flat_map}
use Rattle.std.proofs.lemmas.Bool.Decides.{nat_tests}
use Rattle.std.proofs.lemmas.List.Elements.{All-nil, All-push}
use Rattle.feature_model.specs.declared.limits.TheConstants.{MAX_CHANGES}
use Rattle.feature_model.specs.Data.{FeatureData, ChangeData, put, delete, EditData, number_of}
use Rattle.feature_model.specs.Limits.{AreEnough, IsNew, ChangeFits, FeatureFits}
use Rattle.feature_model.specs.Spelled.{spelled_change, spelled}
use Rattle.feature_model.specs.Types.{FeatureFitsTypes, ChangeFitsTypes}
use Rattle.feature_model.proofs.Changes.{distinct_none, distinct_front, distinct_last, distinct_push}
use Rattle.edit_text.specs.Reading.{many_at, byte_at, change_at, change_count_at, edit_at}
use Rattle.edit_text.specs.Cut.{EndsWithin, EndsAmong, one_byte, EndsInChange, AreChanges, EndsInEdit}
use Rattle.edit_text.proofs.Codecs.{Codec, codec_same, codec_then, codec_if}
use Rattle.edit_text.proofs.FieldCodecs.{codec_byte}
use Rattle.edit_text.proofs.ManyCodec.{Steps, codec_many, all_last, all_front}
use Rattle.edit_text.proofs.ChangeCodecs.{IsFeature, IsOfTable, codec_change}

-- ---- the table and the limits

pub feature_fits : (f : FeatureData) → IsFeature f → FeatureFits f × FeatureFitsTypes f
feature_fits f is = (
  record { layer = is.0.0; zooms = is.1; geometry = is.2.0; tags = is.3.0; values = is.3.1 },
  record { layer = is.0.1; geometry = is.2.1; tags = is.3.2 },
)

pub is_feature : (f : FeatureData) → FeatureFits f → FeatureFitsTypes f → IsFeature f
is_feature f fits types =
    ((fits.layer, types.layer), fits.zooms, (fits.geometry, types.geometry), (fits.tags, fits.values, types.tags))

abbrev pub IsOne : ChangeData → Type 0
IsOne c = ChangeFits c × ChangeFitsTypes c

pub one_from : (done : List ChangeData) (c : ChangeData) → IsOfTable done c → IsOne c × IsNew done (number_of c)
one_from done (put id f) is = let both = feature_fits f is.1 in (((is.0.0, both.0), both.1), is.0.1)
one_from done (delete id) is = ((is.0, tt), is.1)

pub one_to : (done : List ChangeData) (c : ChangeData) → IsOne c → IsNew done (number_of c) → IsOfTable done c
one_to done (put id f) is new = ((is.0.0, new), is_feature f is.0.1 is.1)
one_to done (delete id) is new = (is.0, new)

-- ---- changes in a row

next_to : (done : List ChangeData) → AreChanges done → (c : ChangeData) → IsOfTable done c → AreChanges (done ++ c ∷ [])
next_to done are c is =
    let one = one_from done c is in
    (All-push IsOne done c are.0 one.0, distinct_push done c are.1 one.1)

next_from : (done : List ChangeData) (c : ChangeData) → AreChanges (done ++ c ∷ []) → IsOfTable done c
next_from done c are = one_to done c (all_last IsOne done c are.0) (distinct_last done c are.1)

change_steps : Steps change_at spelled_change AreChanges EndsInChange
change_steps = record {
  next = λ done are. codec_same (change_at done) spelled_change (IsOfTable done) (λ c. AreChanges (done ++ c ∷ [])) (EndsInChange done) (EndsInChange done)
      (codec_change done) (next_to done are) (next_from done) (λ b e. e) (λ b e. e);
  fewer = λ done more are. (all_front IsOne done more are.0, distinct_front done more are.1);
}

-- ---- edits

enough_pass : (count : ℕ) → AreEnough count → nat_le 1 count && nat_le count MAX_CHANGES ≡ true
enough_pass count is = enough_by count is.0 is.1
  where
    enough_by : (count : ℕ) → 1 ≤ count → count ≤ MAX_CHANGES → nat_le 1 count && nat_le count MAX_CHANGES ≡ true
    enough_by count low high = grind (arith, nat_tests)

enough_fit : (count : ℕ) → nat_le 1 count && nat_le count MAX_CHANGES ≡ true → AreEnough count
enough_fit count t = grind (arith, nat_tests)

-- what the table allows, of any length
abbrev pub IsEditOfTable : EditData → Type 0
IsEditOfTable cs = AreEnough (length cs) × AreChanges cs

pub codec_count : Codec change_count_at one_byte AreEnough (EndsWithin 1)
codec_count = codec_if byte_at one_byte (λ b. b < 256) (EndsWithin 1) (λ count. nat_le 1 count && nat_le count MAX_CHANGES) AreEnough codec_byte
    (λ n l t. enough_fit n t) (λ n is. (omega (arith, is.1), enough_pass n is))

pub codec_edit : Codec edit_at spelled IsEditOfTable EndsInEdit
unfolding edit_at spelled
codec_edit = codec_then change_count_at one_byte AreEnough (EndsWithin 1)
    (λ count. many_at change_at count []) (λ count cs. flat_map spelled_change cs) (λ count cs. (length cs ≡ count) × AreChanges cs)
    (EndsAmong spelled_change AreChanges EndsInChange)
    spelled IsEditOfTable
    codec_count
    (λ count fits. codec_many change_at spelled_change AreChanges EndsInChange change_steps (All-nil IsOne, distinct_none) count)
    (λ count cs fits is. ((subst AreEnough (sym is.0) fits, is.1), ap (λ n. n ∷ flat_map spelled_change cs) is.0))
    (λ cs is. (length cs, is.0, (refl, is.1)))
