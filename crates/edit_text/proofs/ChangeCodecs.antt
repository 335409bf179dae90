-- Features and changes, tied to what is read.
use Rattle.std.proofs.Common.{◌≡◌, ℕ, ◌<◌, ◌≤◌, ◌⊎◌, inl, inr, true, ◌&&◌, List, [], ◌∷◌, ◌++◌, Err, nat_le, refl, sym, ap, subst, ◌∙◌, arith}
use Rattle.std.specs.Str.{IsUtf8}
use Rattle.std.proofs.lemmas.Bool.{le-leb, leb-true}
use Rattle.std.proofs.lemmas.Bool.Decides.{nat_tests}
use Rattle.feature_model.specs.declared.limits.TheConstants.{MAX_ZOOM}
use Rattle.feature_model.specs.Data.{GeometryData, TagData, FeatureData, ChangeData, put, delete}
use Rattle.feature_model.specs.Limits.{IsName, NumberFits}
use Rattle.feature_model.specs.Spelled.{eight_bytes, spelled_name, spelled_geometry, spelled_tags, spelled_feature, spelled_change}
use Rattle.edit_text.specs.declared.fault.TextFault.TheVariants.{Bad}
use Rattle.edit_text.specs.Reading.{Part, then_read, read_as, read_if, byte_at, name_at, zooms_at}
use Rattle.edit_text.specs.Reading.{geometry_at, tags_at, feature_at, number_at, is_new, next_number_at, put_at, change_behind, change_at}
use Rattle.edit_text.specs.Cut.{EndsWithin, EndsBehindKind, one_byte, EndsInName, EndsInGeometry, EndsInTags}
use Rattle.edit_text.specs.Cut.{EndsInZooms, EndsInShape, EndsInBody, EndsInFeature, IsNextNumber, EndsInPut, EndsInChange}
use Rattle.edit_text.proofs.Codecs.{Codec, codec_same, codec_then, codec_as, codec_if}
use Rattle.edit_text.proofs.FieldCodecs.{codec_byte, codec_name, codec_number}
use Rattle.edit_text.proofs.NewNumbers.{new_from, is_new_from}
use Rattle.edit_text.proofs.KindCodecs.{KindCodec, pick, kind_none, kind_or, codec_kinds}
use Rattle.edit_text.proofs.ShapeCodecs.{IsGeometry, codec_geometry}
use Rattle.edit_text.proofs.TagCodecs.{IsTags, codec_tags}

-- ---- zooms

zooms_pass : (first last : ℕ) → first ≤ last → last ≤ MAX_ZOOM → nat_le first last && nat_le last MAX_ZOOM ≡ true
zooms_pass first last low high = grind (arith, nat_tests)

zooms_fit : (first last : ℕ) → nat_le first last && nat_le last MAX_ZOOM ≡ true → (first ≤ last) × (last ≤ MAX_ZOOM)
zooms_fit first last t = grind (arith, nat_tests)

abbrev IsZooms : ℕ × ℕ → Type 0
IsZooms zooms = (zooms.0 ≤ zooms.1) × (zooms.1 ≤ MAX_ZOOM)

abbrev zooms_text : ℕ × ℕ → List ℕ
zooms_text zooms = zooms.0 ∷ zooms.1 ∷ []

codec_last_zoom : (first : ℕ) → Codec (λ bytes. read_if (λ last. nat_le first last && nat_le last MAX_ZOOM) (byte_at bytes)) one_byte
    (λ last. (first ≤ last) × (last ≤ MAX_ZOOM)) (EndsWithin 1)
codec_last_zoom first = codec_if byte_at one_byte (λ b. b < 256) (EndsWithin 1) (λ last. nat_le first last && nat_le last MAX_ZOOM)
    (λ last. (first ≤ last) × (last ≤ MAX_ZOOM)) codec_byte
    (λ last l t. zooms_fit first last t) (λ last is. (omega (arith, is.1), zooms_pass first last is.0 is.1))

codec_zooms : Codec zooms_at zooms_text IsZooms EndsInZooms
unfolding zooms_at
codec_zooms = codec_then (λ bytes. read_if (λ zoom. nat_le zoom MAX_ZOOM) (byte_at bytes)) one_byte (λ zoom. zoom ≤ MAX_ZOOM) (EndsWithin 1)
    (λ first rest. read_as (λ last. (first, last)) (read_if (λ last. nat_le first last && nat_le last MAX_ZOOM) (byte_at rest)))
    (λ first zooms. one_byte zooms.1) (λ first zooms. (zooms.0 ≡ first) × ((first ≤ zooms.1) × (zooms.1 ≤ MAX_ZOOM))) (λ first. EndsWithin 1)
    zooms_text IsZooms
    (codec_if byte_at one_byte (λ b. b < 256) (EndsWithin 1) (λ zoom. nat_le zoom MAX_ZOOM) (λ zoom. zoom ≤ MAX_ZOOM) codec_byte
    (λ n l t. leb-true n MAX_ZOOM t) (λ n l. (omega arith, le-leb n MAX_ZOOM l)))
    (λ first fits. codec_as (λ bytes. read_if (λ last. nat_le first last && nat_le last MAX_ZOOM) (byte_at bytes)) one_byte
    (λ last. (first ≤ last) × (last ≤ MAX_ZOOM)) (EndsWithin 1) (λ last. (first, last))
    (λ zooms. one_byte zooms.1) (λ zooms. (zooms.0 ≡ first) × ((first ≤ zooms.1) × (zooms.1 ≤ MAX_ZOOM))) (codec_last_zoom first)
    (λ last h is. ((refl, is), refl))
    (λ zooms is. (zooms.1, is.1, ap (λ z. (z, zooms.1)) is.0, refl)))
    (λ first zooms fits is. ((subst (λ z. z ≤ zooms.1) (sym is.0) is.1.0, is.1.1), ap (λ z. z ∷ zooms.1 ∷ []) is.0))
    (λ zooms is. (zooms.0, omega (arith, is.0, is.1), (refl, is)))

-- ---- features

abbrev made : List ℕ → ℕ × ℕ → GeometryData → List TagData → FeatureData
made layer zooms geometry tags = record { layer = layer; minzoom = zooms.0; maxzoom = zooms.1; geometry = geometry; tags = tags }

abbrev IsLayer : List ℕ → Type 0
IsLayer layer = IsName layer × IsUtf8 layer

abbrev HasTags : List ℕ → ℕ × ℕ → GeometryData → FeatureData → Type 0
HasTags layer zooms geometry f = (f ≡ made layer zooms geometry f.tags) × IsTags f.tags

abbrev HasShape : List ℕ → ℕ × ℕ → FeatureData → Type 0
HasShape layer zooms f = (f ≡ made layer zooms f.geometry f.tags) × IsGeometry f.geometry × IsTags f.tags

abbrev HasBody : List ℕ → FeatureData → Type 0
HasBody layer f = (f.layer ≡ layer) × IsZooms (f.minzoom, f.maxzoom) × IsGeometry f.geometry × IsTags f.tags

abbrev pub IsFeature : FeatureData → Type 0
IsFeature f = IsLayer f.layer × IsZooms (f.minzoom, f.maxzoom) × IsGeometry f.geometry × IsTags f.tags

abbrev shape_text : FeatureData → List ℕ
shape_text f = spelled_geometry f.geometry ++ spelled_tags f.tags

abbrev body_text : FeatureData → List ℕ
body_text f = f.minzoom ∷ f.maxzoom ∷ (spelled_geometry f.geometry ++ spelled_tags f.tags)

abbrev read_tags : List ℕ → ℕ × ℕ → GeometryData → List ℕ → Part FeatureData
read_tags layer zooms geometry bytes = read_as (λ tags. made layer zooms geometry tags) (tags_at bytes)

abbrev read_shape : List ℕ → ℕ × ℕ → List ℕ → Part FeatureData
read_shape layer zooms bytes = then_read (geometry_at bytes) (read_tags layer zooms)

abbrev read_body : List ℕ → List ℕ → Part FeatureData
read_body layer bytes = then_read (zooms_at bytes) (read_shape layer)

codec_made : (layer : List ℕ) (zooms : ℕ × ℕ) (geometry : GeometryData)
    → Codec (read_tags layer zooms geometry) (λ f. spelled_tags f.tags) (HasTags layer zooms geometry) EndsInTags
codec_made layer zooms geometry = codec_as tags_at spelled_tags IsTags EndsInTags (λ tags. made layer zooms geometry tags) (λ f. spelled_tags f.tags)
    (HasTags layer zooms geometry) codec_tags
    (λ tags h is. ((refl, is), refl))
    (λ f is. (f.tags, is.1, is.0, refl))

codec_shape : (layer : List ℕ) (zooms : ℕ × ℕ) → Codec (read_shape layer zooms) shape_text (HasShape layer zooms) EndsInShape
codec_shape layer zooms = codec_then geometry_at spelled_geometry IsGeometry EndsInGeometry (read_tags layer zooms) (λ geometry f. spelled_tags f.tags)
    (HasTags layer zooms) (λ geometry. EndsInTags)
    shape_text (HasShape layer zooms) codec_geometry (λ geometry fits. codec_made layer zooms geometry)
    (λ geometry f fits is.
    let same : f.geometry ≡ geometry = ap (λ x. x.geometry) is.0 in
    ((is.0 ∙ ap (λ g. made layer zooms g f.tags) (sym same), subst IsGeometry (sym same) fits, is.1), ap (λ g. spelled_geometry g ++ spelled_tags f.tags) same))
    (λ f is. (f.geometry, is.1, (is.0, is.2)))

codec_body : (layer : List ℕ) → Codec (read_body layer) body_text (HasBody layer) EndsInBody
codec_body layer = codec_then zooms_at zooms_text IsZooms EndsInZooms (read_shape layer) (λ zooms f. shape_text f) (HasShape layer)
    (λ (zooms : ℕ × ℕ). EndsInShape)
    body_text (HasBody layer) codec_zooms (λ zooms fits. codec_shape layer zooms)
    (λ zooms f fits is.
    let first : f.minzoom ≡ zooms.0 = ap (λ x. x.minzoom) is.0 in
    let last : f.maxzoom ≡ zooms.1 = ap (λ x. x.maxzoom) is.0 in (
      (ap (λ x. x.layer) is.0, (omega (arith, first, last, fits.0), omega (arith, last, fits.1)), is.1, is.2),
      ap (λ z. z ∷ f.maxzoom ∷ shape_text f) first ∙ ap (λ z. zooms.0 ∷ z ∷ shape_text f) last,
    ))
    (λ f is. ((f.minzoom, f.maxzoom), is.1, (ap (λ l. made l (f.minzoom, f.maxzoom) f.geometry f.tags) is.0, is.2, is.3)))

pub codec_feature : Codec feature_at spelled_feature IsFeature EndsInFeature
unfolding feature_at spelled_feature
codec_feature = codec_then name_at spelled_name IsLayer EndsInName read_body (λ layer f. body_text f) HasBody (λ layer. EndsInBody)
    spelled_feature IsFeature codec_name (λ layer fits. codec_body layer)
    (λ layer f fits is. ((subst IsLayer (sym is.0) fits, is.1, is.2, is.3), ap (λ l. spelled_name l ++ body_text f) is.0))
    (λ f is. (f.layer, is.0, (refl, is.1, is.2, is.3)))

-- ---- changes

pub codec_next_number : (done : List ChangeData) → Codec (next_number_at done) eight_bytes (IsNextNumber done) (EndsWithin 8)
unfolding next_number_at
codec_next_number done = codec_if number_at eight_bytes NumberFits (EndsWithin 8) (is_new done) (IsNextNumber done) codec_number
    (λ id is t. (is, new_from done id t))
    (λ id is. (is.0, is_new_from done id is.1))

-- the text after the kind
abbrev change_body : ChangeData → List ℕ
change_body (put id f) = eight_bytes id ++ spelled_feature f
change_body (delete id) = eight_bytes id

abbrev feature_text : ChangeData → List ℕ
feature_text (put id f) = spelled_feature f
feature_text (delete id) = []

-- what the table allows, of any length, after these changes
abbrev pub IsOfTable : List ChangeData → ChangeData → Type 0
IsOfTable done (put id f) = IsNextNumber done id × IsFeature f
IsOfTable done (delete id) = IsNextNumber done id

abbrev IsPutOf : ℕ → ChangeData → Type 0
IsPutOf id (put j f) = (j ≡ id) × IsFeature f
IsPutOf id (delete j) = ⊥

split_put_of : (id : ℕ) (e : ChangeData) → IsPutOf id e → (f : FeatureData) × IsFeature f × (e ≡ put id f) × (feature_text e ≡ spelled_feature f)
split_put_of id (put j f) is = (f, is.1, ap (λ n. put n f) is.0, refl)
split_put_of id (delete j) is = absurd is

put_text : (id : ℕ) (f : FeatureData) → spelled_change (put id f) ≡ 1 ∷ change_body (put id f)
unfolding spelled_change
put_text id f = refl

delete_text : (id : ℕ) → spelled_change (delete id) ≡ 2 ∷ change_body (delete id)
unfolding spelled_change
delete_text id = refl

abbrev no_kind : ℕ → List ℕ → Part ChangeData
no_kind k bytes = Err Bad

module _ (done : List ChangeData) where
  abbrev IsPut : ChangeData → Type 0
  IsPut (put id f) = IsNextNumber done id × IsFeature f
  IsPut (delete id) = ⊥

  abbrev IsDelete : ChangeData → Type 0
  IsDelete (put id f) = ⊥
  IsDelete (delete id) = IsNextNumber done id

  join_put : (id : ℕ) (e : ChangeData) → IsNextNumber done id → IsPutOf id e → IsPut e × (change_body e ≡ eight_bytes id ++ feature_text e)
  join_put id (put j f) fits is = ((subst (IsNextNumber done) (sym is.0) fits, is.1), ap (λ n. eight_bytes n ++ spelled_feature f) is.0)
  join_put id (delete j) fits is = absurd is

  split_put : (e : ChangeData) → IsPut e → (id : ℕ) × IsNextNumber done id × IsPutOf id e
  split_put (put id f) is = (id, is.0, (refl, is.1))
  split_put (delete id) is = absurd is

  split_delete : (e : ChangeData) → IsDelete e → (id : ℕ) × IsNextNumber done id × (e ≡ delete id) × (change_body e ≡ eight_bytes id)
  split_delete (put id f) is = absurd is
  split_delete (delete id) is = (id, is, refl, refl)

  text_of_put : (e : ChangeData) → IsPut e → spelled_change e ≡ 1 ∷ change_body e
  text_of_put (put id f) is = put_text id f
  text_of_put (delete id) is = absurd is

  text_of_delete : (e : ChangeData) → IsDelete e → spelled_change e ≡ 2 ∷ change_body e
  text_of_delete (put id f) is = absurd is
  text_of_delete (delete id) is = delete_text id

  codec_put : Codec (put_at done) change_body IsPut (EndsInPut done)
  unfolding put_at
  codec_put = codec_then (next_number_at done) eight_bytes (IsNextNumber done) (EndsWithin 8) (λ id rest. read_as (put id) (feature_at rest))
      (λ id e. feature_text e) IsPutOf (λ id. EndsInFeature)
      change_body IsPut (codec_next_number done)
      (λ id fits. codec_as feature_at spelled_feature IsFeature EndsInFeature (put id) feature_text (IsPutOf id) codec_feature
      (λ f h is. ((refl, is), refl)) (split_put_of id))
      join_put split_put

  abbrev read_delete : List ℕ → Part ChangeData
  read_delete bytes = read_as delete (next_number_at done bytes)

  codec_delete : Codec read_delete change_body IsDelete (EndsWithin 8)
  codec_delete = codec_as (next_number_at done) eight_bytes (IsNextNumber done) (EndsWithin 8) delete change_body IsDelete (codec_next_number done)
      (λ id h is. (is, refl)) split_delete

  kinds_two : KindCodec 2 (pick 2 read_delete no_kind) spelled_change (λ e. IsDelete e ⊎ ⊥) (λ b. EndsBehindKind 2 (EndsWithin 8) b ⊎ ⊥)
  kinds_two = kind_or 2 read_delete change_body IsDelete (EndsWithin 8) no_kind spelled_change (λ e. ⊥) (λ b. ⊥) codec_delete
      (kind_none 3 spelled_change) text_of_delete

  kinds_one : KindCodec 1 (pick 1 (put_at done) (pick 2 read_delete no_kind)) spelled_change (λ e. IsPut e ⊎ (IsDelete e ⊎ ⊥))
      (λ b. EndsBehindKind 1 (EndsInPut done) b ⊎ (EndsBehindKind 2 (EndsWithin 8) b ⊎ ⊥))
  kinds_one = kind_or 1 (put_at done) change_body IsPut (EndsInPut done) (pick 2 read_delete no_kind) spelled_change (λ e. IsDelete e ⊎ ⊥)
      (λ b. EndsBehindKind 2 (EndsWithin 8) b ⊎ ⊥) codec_put kinds_two text_of_put

  change_to : (e : ChangeData) → IsPut e ⊎ (IsDelete e ⊎ ⊥) → IsOfTable done e
  change_to (put id f) (inl is) = is
  change_to (put id f) (inr (inl is)) = absurd is
  change_to (put id f) (inr (inr is)) = absurd is
  change_to (delete id) (inl is) = absurd is
  change_to (delete id) (inr (inl is)) = is
  change_to (delete id) (inr (inr is)) = absurd is

  change_from : (e : ChangeData) → IsOfTable done e → IsPut e ⊎ (IsDelete e ⊎ ⊥)
  change_from (put id f) is = inl is
  change_from (delete id) is = inr (inl is)

two_to : {P Q R : Type 0} → P ⊎ (Q ⊎ (R ⊎ ⊥)) → P ⊎ (Q ⊎ R)
two_to (inl p) = inl p
two_to (inr (inl q)) = inr (inl q)
two_to (inr (inr (inl r))) = inr (inr r)
two_to (inr (inr (inr e))) = absurd e

two_from : {P Q R : Type 0} → P ⊎ (Q ⊎ R) → P ⊎ (Q ⊎ (R ⊎ ⊥))
two_from (inl p) = inl p
two_from (inr (inl q)) = inr (inl q)
two_from (inr (inr r)) = inr (inr (inl r))

pub codec_change : (done : List ChangeData) → Codec (change_at done) spelled_change (IsOfTable done) (EndsInChange done)
unfolding change_at change_behind
codec_change done = codec_same (change_at done) spelled_change (λ e. IsPut done e ⊎ (IsDelete done e ⊎ ⊥)) (IsOfTable done)
    (λ b. EndsWithin 1 b ⊎ (EndsBehindKind 1 (EndsInPut done) b ⊎ (EndsBehindKind 2 (EndsWithin 8) b ⊎ ⊥))) (EndsInChange done)
    (codec_kinds (pick 1 (put_at done) (pick 2 (read_delete done) no_kind)) spelled_change (λ e. IsPut done e ⊎ (IsDelete done e ⊎ ⊥))
    (λ b. EndsBehindKind 1 (EndsInPut done) b ⊎ (EndsBehindKind 2 (EndsWithin 8) b ⊎ ⊥)) 1 (kinds_one done))
    (change_to done) (change_from done) (λ b e. two_to e) (λ b e. two_from e)
