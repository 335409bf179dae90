-- Tags, tied to what is read.
use Rattle.std.proofs.Common.{◌≡◌, ◌<◌, ◌≤◌, List, [], ◌∷◌, ◌++◌, length, nat_le, refl, sym, ap, subst, All, arith}
use Rattle.std.specs.List.{flat_map}
use Rattle.std.specs.Str.{IsUtf8}
use Rattle.std.proofs.lemmas.Bool.{le-leb, leb-true}
use Rattle.std.proofs.lemmas.List.{map-append}
use Rattle.std.proofs.lemmas.List.Elements.{All-nil, All-push, All-map}
use Rattle.feature_model.specs.declared.limits.TheConstants.{MAX_TAGS}
use Rattle.feature_model.specs.Data.{TagData}
use Rattle.feature_model.specs.Limits.{IsName, ValueFits, ValuesFit, TagsFit, HasAscendingKeys, keys_of}
use Rattle.feature_model.specs.Spelled.{spelled_name, spelled_value, spelled_tag, spelled_tags}
use Rattle.feature_model.proofs.Mapped.{All-from_map}
use Rattle.feature_model.specs.Types.{TagFitsTypes}
use Rattle.edit_text.specs.Reading.{read_as, read_if, many_at, byte_at, name_at, value_at, is_next_key, tag_at, tags_at}
use Rattle.edit_text.specs.Cut.{EndsWithin, EndsAmong, one_byte, EndsInName, EndsInValue, IsNextKey, EndsInTag, AreTags, EndsInTags}
use Rattle.edit_text.proofs.Codecs.{Codec, codec_same, codec_then, codec_as, codec_if}
use Rattle.edit_text.proofs.FieldCodecs.{codec_byte, codec_name}
use Rattle.edit_text.proofs.ManyCodec.{Steps, codec_many, all_last, all_front}
use Rattle.edit_text.proofs.KeyOrder.{Sorted, sorted_none, sorted_push, sorted_last, sorted_front}
use Rattle.edit_text.proofs.ValueCodecs.{IsValue, codec_value}

-- ---- one tag

abbrev IsNextTag : List TagData → TagData → Type 0
IsNextTag tags t = IsNextKey tags t.key × IsValue t.value

codec_tag : (tags : List TagData) → HasAscendingKeys tags → Codec (tag_at tags) spelled_tag (IsNextTag tags) (EndsInTag tags)
unfolding tag_at spelled_tag
codec_tag tags h = codec_then (λ bytes. read_if (is_next_key tags) (name_at bytes)) spelled_name (IsNextKey tags) EndsInName
    (λ key rest. read_as (λ value. record { key = key; value = value }) (value_at rest)) (λ key t. spelled_value t.value)
    (λ key t. (t.key ≡ key) × IsValue t.value) (λ key. EndsInValue)
    spelled_tag (IsNextTag tags)
    (codec_if name_at spelled_name (λ k. IsName k × IsUtf8 k) EndsInName (is_next_key tags) (IsNextKey tags) codec_name
    (λ key is t. (is.0, is.1, sorted_push tags key h t))
    (λ key is. ((is.0, is.1), sorted_last tags key is.2)))
    (λ key fits. codec_as value_at spelled_value IsValue EndsInValue (λ value. record { key = key; value = value }) (λ t. spelled_value t.value)
    (λ t. (t.key ≡ key) × IsValue t.value) codec_value
    (λ v b is. ((refl, is), refl))
    (λ t is. (t.value, is.1, ap (λ k. record { key = k; value = t.value }) is.0, refl)))
    (λ key t fits is. ((subst (IsNextKey tags) (sym is.0) fits, is.1), ap (λ k. spelled_name k ++ spelled_value t.value) is.0))
    (λ t is. (t.key, is.0, (refl, is.1)))

-- ---- tags

abbrev IsOneTag : TagData → Type 0
IsOneTag t = IsName t.key × ValueFits t.value × TagFitsTypes t

keys_more : (done more : List TagData) → keys_of (done ++ more) ≡ keys_of done ++ keys_of more
keys_more done more = map-append (λ t. t.key) done more

next_to : (done : List TagData) → AreTags done → (t : TagData) → IsNextTag done t → AreTags (done ++ t ∷ [])
next_to done are t is =
    (All-push IsOneTag done t are.0 (is.0.0, is.1.0, record { key = is.0.1; value = is.1.1 }), subst Sorted (sym (keys_more done (t ∷ []))) is.0.2)

next_from : (done : List TagData) (t : TagData) → AreTags (done ++ t ∷ []) → IsNextTag done t
next_from done t are =
    let one = all_last IsOneTag done t are.0 in
    ((one.0, one.2.key, subst Sorted (keys_more done (t ∷ [])) are.1), (one.1, one.2.value))

tag_steps : Steps tag_at spelled_tag AreTags EndsInTag
tag_steps = record {
  next = λ done are. codec_same (tag_at done) spelled_tag (IsNextTag done) (λ t. AreTags (done ++ t ∷ [])) (EndsInTag done) (EndsInTag done)
      (codec_tag done are.1)
      (next_to done are) (next_from done) (λ b e. e) (λ b e. e);
  fewer = λ done more are. (all_front IsOneTag done more are.0, sorted_front (keys_of done) (keys_of more) (subst Sorted (keys_more done more) are.1));
}

abbrev pub IsTags : List TagData → Type 0
IsTags tags = TagsFit tags × ValuesFit tags × All TagFitsTypes tags

tags_to : (tags : List TagData) → (length tags ≤ MAX_TAGS) × AreTags tags → IsTags tags
tags_to tags is = (
  record { few = is.0; names = All-map IsName (λ t. t.key) tags (λ k d l. (is.1.0 k d l).0); ascending = is.1.1 },
  λ k d l. (is.1.0 k d l).1,
  λ k d l. (is.1.0 k d l).2,
)

tags_from : (tags : List TagData) → IsTags tags → (length tags ≤ MAX_TAGS) × AreTags tags
tags_from tags is =
    (is.0.few, (λ k d l. (All-from_map IsName (λ t. t.key) tags is.0.names k d l, is.1 k d l, is.2 k d l), is.0.ascending))

codec_all_tags : Codec tags_at spelled_tags (λ tags. (length tags ≤ MAX_TAGS) × AreTags tags) EndsInTags
unfolding tags_at spelled_tags
codec_all_tags = codec_then (λ bytes. read_if (λ count. nat_le count MAX_TAGS) (byte_at bytes)) one_byte (λ count. count ≤ MAX_TAGS) (EndsWithin 1)
    (λ count. many_at tag_at count []) (λ count tags. flat_map spelled_tag tags) (λ count tags. (length tags ≡ count) × AreTags tags)
    (EndsAmong spelled_tag AreTags EndsInTag)
    spelled_tags (λ tags. (length tags ≤ MAX_TAGS) × AreTags tags)
    (codec_if byte_at one_byte (λ b. b < 256) (EndsWithin 1) (λ count. nat_le count MAX_TAGS) (λ count. count ≤ MAX_TAGS) codec_byte
    (λ n l t. leb-true n MAX_TAGS t) (λ n l. (omega arith, le-leb n MAX_TAGS l)))
    (λ count fits. codec_many tag_at spelled_tag AreTags EndsInTag tag_steps (All-nil IsOneTag, sorted_none) count)
    (λ count tags fits is. ((subst (λ n. n ≤ MAX_TAGS) (sym is.0) fits, is.1), ap (λ n. n ∷ flat_map spelled_tag tags) is.0))
    (λ tags is. (length tags, is.0, (refl, is.1)))

pub codec_tags : Codec tags_at spelled_tags IsTags EndsInTags
codec_tags = codec_same tags_at spelled_tags (λ tags. (length tags ≤ MAX_TAGS) × AreTags tags) IsTags EndsInTags EndsInTags codec_all_tags tags_to tags_from
    (λ b e. e) (λ b e. e)
