-- The texts of tags that fit their types are UTF-8, and so are those of the first tag and of the others.
use Rattle.std.proofs.Common.{◌≡◌, ℕ, ◌-◌, ◌<◌, List, [], ◌∷◌, All, refl, sym, subst}
use Rattle.std.specs.Prelude.{IsTrue}
use Rattle.std.specs.Str.{IsUtf8, is_utf8}
use Rattle.std.proofs.lemmas.Bool.{and_from, and_parts}
use Rattle.std.proofs.lemmas.List.Elements.{All-head, All-tail}
use Rattle.std.proofs.lemmas.Str.{IsUtf8-from_is_utf8, is_utf8-from_IsUtf8}
use Rattle.feature_model.specs.Data.{ValueData, text_value, natural_value, negative_value, truth_value, TagData}
use Rattle.feature_model.specs.Types.{ValueFitsTypes, TagFitsTypes}
use Rattle.edit_text.specs.Trusted.{each_in, long_text_in, value_of, tag_in, has_text, has_texts, have_texts}
use Rattle.edit_text.proofs.EachSteps.{each_first}

value_fits : (v : ValueData) → ValueFitsTypes v → IsTrue (has_text v)
unfolding has_text
value_fits (text_value bytes) h = is_utf8-from_IsUtf8 bytes h
value_fits (natural_value n) h = refl
value_fits (negative_value z) h = refl
value_fits (truth_value b) h = refl

tag_fits : (t : TagData) → TagFitsTypes t → IsTrue (has_texts t)
unfolding has_texts
tag_fits t h = and_from (is_utf8 t.key) (has_text t.value) (is_utf8-from_IsUtf8 t.key h.key) (value_fits t.value h.value)

pub tags_fit : (tags : List TagData) → All TagFitsTypes tags → IsTrue (have_texts tags)
unfolding have_texts
tags_fit [] h = refl
tags_fit (t ∷ ts) h = and_from (has_texts t) (have_texts ts) (tag_fits t (All-head TagFitsTypes t ts h)) (tags_fit ts (All-tail TagFitsTypes t ts h))

pub key_is_text : (t : TagData) → IsTrue (has_texts t) → IsUtf8 t.key
unfolding has_texts
key_is_text t h = IsUtf8-from_is_utf8 t.key (and_parts (is_utf8 t.key) (has_text t.value) h).0

pub value_is_text : (t : TagData) → IsTrue (has_texts t) → IsTrue (has_text t.value)
unfolding has_texts
value_is_text t h = (and_parts (is_utf8 t.key) (has_text t.value) h).1

-- the text of a value of this kind
pub long_text_is : (kind : ℕ) (bytes : List ℕ) → kind ≡ 1 → IsTrue (has_text (value_of kind bytes).0) → IsUtf8 (long_text_in bytes).0
unfolding has_text value_of
long_text_is kind bytes is h = IsUtf8-from_is_utf8 (long_text_in bytes).0 (subst (λ k. IsTrue (has_text (value_of k bytes).0)) is h)

-- the first of some tags, and the others
module _ (count : ℕ) (bytes : List ℕ) (some : 0 < count) (texts : IsTrue (have_texts (each_in tag_in count bytes).0)) where
  both : IsTrue (has_texts (tag_in bytes).0) × IsTrue (have_texts (each_in tag_in (count - 1) (tag_in bytes).1).0)
  unfolding have_texts
  both =
      and_parts (has_texts (tag_in bytes).0) (have_texts (each_in tag_in (count - 1) (tag_in bytes).1).0)
      (subst (λ ts. IsTrue (have_texts ts)) (each_first tag_in count bytes some) texts)

  pub first_texts : IsTrue (has_texts (tag_in bytes).0)
  first_texts = both.0

  pub other_texts : (rest : List ℕ) → rest ≡ (tag_in bytes).1 → IsTrue (have_texts (each_in tag_in (count - 1) rest).0)
  other_texts rest behind = subst (λ r. IsTrue (have_texts (each_in tag_in (count - 1) r).0)) (sym behind) both.1
