-- The text of a number's feature is that of the number and the feature that it shows.
use Rattle.std.proofs.Common.{◌≡◌, ℕ, ◌^◌, ◌<◌, List, [], ◌++◌, length, get_or, take, drop, refl, sym, ap, subst, ◌∙◌, ◌≤◌, append-nil, length-append, arith}
use Rattle.std.proofs.Math.Seq.{take-append_seam}
use Rattle.std.proofs.lemmas.Nat.{from_le_bytes-to_le_bytes_8}
use Rattle.feature_model.specs.Data.{FeatureData, ChangeData, put, delete}
use Rattle.feature_model.specs.Limits.{IsAllowed}
use Rattle.feature_model.specs.Types.{FeatureFitsTypes, IsChange}
use Rattle.feature_model.specs.Spelled.{eight_bytes, spelled_feature, spelled_change}
use Rattle.edit_text.specs.Decoding.{BeginsWithChange, BeginsAsPut}
use Rattle.edit_text.proofs.Laws.{one_change}
use Rattle.edit_text.specs.Stored.{stored_in, IsStored}
use Rattle.edit_text.specs.Trusted.{number_in, feature_of_text}
use Rattle.edit_text.proofs.Spelled.{text_shows}

number_shown : (id : ℕ) (f : FeatureData) → id < 2 ^ 64 → (number_in (drop 1 (spelled_change (put id f)))).0 ≡ id
unfolding spelled_change eight_bytes number_in
number_shown id f fits = from_le_bytes-to_le_bytes_8 id fits

pub stored_is : (id : ℕ) (f : FeatureData) → IsChange (put id f) → stored_in (spelled_change (put id f)) ≡ (id, f)
stored_is id f is =
    let number = number_shown id f (omega (arith, is.0.number)) in
    let begins : BeginsWithChange (put id f) (spelled_change (put id f)) = (is, ([], sym (append-nil (spelled_change (put id f))))) in
    let shown = text_shows (spelled_change (put id f)) id f begins in
    ap (λ n. (n, feature_of_text (spelled_change (put id f)))) number ∙ ap (λ g. (id, g)) shown

pub stored : (text : List ℕ) (id : ℕ) (f : FeatureData) → IsAllowed id f → FeatureFitsTypes f → text ≡ spelled_change (put id f)
    → IsStored text × (stored_in text ≡ (id, f))
stored text id f allowed types e =
    let same : stored_in text ≡ (id, f) = ap stored_in e ∙ stored_is id f (allowed, types) in (
      record {
        edit = subst (λ (p : ℕ × FeatureData). IsChange (put p.0 p.1)) (sym same) (allowed, types);
        text_is = e ∙ ap (λ (p : ℕ × FeatureData). spelled_change (put p.0 p.1)) (sym same);
      },
      same,
    )

-- ---- the text at the start of bytes

put_in_front : (c : ChangeData) (text : List ℕ) → BeginsWithChange c text → BeginsAsPut text → (id : ℕ) × (f : FeatureData) × (c ≡ put id f)
unfolding spelled_change
put_in_front (put id f) text begins sets = (id, f, refl)
put_in_front (delete id) text begins sets =
    let first : 2 ≡ 1 = ap (λ (xs : List ℕ). get_or xs 0 0) (sym begins.1.1 ∙ sets.1) in
    absurd (omega (arith, first))

pub begins_as : (id : ℕ) (f : FeatureData) (text : List ℕ) → BeginsWithChange (put id f) text → BeginsAsPut text
unfolding spelled_change
begins_as id f text begins = ((eight_bytes id ++ spelled_feature f) ++ begins.1.0, begins.1.1)

-- a change is at the start, whose text has this length
abbrev HasLength : List ℕ → ℕ → Type 0
HasLength text len = (c : ChangeData) × BeginsWithChange c text × (len ≡ length (spelled_change c))

-- the bytes have at least this length
pub length_within : (text : List ℕ) (len : ℕ) → HasLength text len → len ≤ length text
length_within text len found = omega (arith, found.2, ap length found.1.1.1 ∙ length-append (spelled_change found.0) found.1.1.0)

-- where bytes begin as a change does that sets a feature, they begin with one that does
pub put_found : (text : List ℕ) (len : ℕ) → HasLength text len → BeginsAsPut text
    → (id : ℕ) × (f : FeatureData) × BeginsWithChange (put id f) text × (len ≡ length (spelled_change (put id f)))
put_found text len found sets =
    let put_is = put_in_front found.0 text found.1 sets in
    (put_is.0, put_is.1, subst (λ c. BeginsWithChange c text) put_is.2 found.1, found.2 ∙ ap (λ c. length (spelled_change c)) put_is.2)

module _ (text front : List ℕ) (len : ℕ) (found : HasLength text len) (sets : BeginsAsPut text) (front_is : front ≡ take len text) where
  -- the number, the feature and what is known of them
  of_text : (id : ℕ) × (f : FeatureData) × BeginsWithChange (put id f) text × (len ≡ length (spelled_change (put id f)))
  of_text = put_found text len found sets

  whole : front ≡ spelled_change (put of_text.0 of_text.1)
  whole =
      let spelled = spelled_change (put of_text.0 of_text.1) in
      front_is ∙ ap (λ n. take n text) of_text.3 ∙ ap (take (length spelled)) of_text.2.1.1 ∙ take-append_seam spelled of_text.2.1.0

  both : IsStored front × (stored_in front ≡ (of_text.0, of_text.1))
  both = stored front of_text.0 of_text.1 of_text.2.0.0 of_text.2.0.1 whole

  pub read_stored : IsStored front
  read_stored = both.0

  pub read_found : BeginsWithChange (put (stored_in front).0 (stored_in front).1) text
  read_found = subst (λ (p : ℕ × FeatureData). BeginsWithChange (put p.0 p.1) text) (sym both.1) of_text.2

  pub read_len : len ≡ length (spelled_change (put (stored_in front).0 (stored_in front).1))
  read_len = of_text.3 ∙ ap (λ (p : ℕ × FeatureData). length (spelled_change (put p.0 p.1))) (sym both.1)

  pub read_only : (id : ℕ) (f : FeatureData) → BeginsWithChange (put id f) text → stored_in front ≡ (id, f)
  read_only id f begins =
      let same = (one_change (put of_text.0 of_text.1) (put id f) of_text.2.1.0 begins.1.0 of_text.2.0 begins.0 (sym of_text.2.1.1 ∙ begins.1.1)).0 in
      both.1 ∙ ap set_by same
    where
      set_by : ChangeData → ℕ × FeatureData
      set_by (put i g) = (i, g)
      set_by (delete i) = (i, of_text.1)
