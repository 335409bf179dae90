-- What is trusted is what is read: changes.
use Rattle.std.proofs.Common.{◌≡◌, ◌≢◌, ℕ, ◌==◌, cond, List, [], ◌∷◌, Ok, refl, sym, ap, subst, ◌∙◌, nat_lt}
use Rattle.std.specs.Prelude.{IsOk}
use Rattle.std.proofs.lemmas.Bool.{ne_eqb}
use Rattle.feature_model.specs.declared.limits.TheConstants.{NUMBER_END}
use Rattle.feature_model.specs.Data.{ChangeData, put, delete}
use Rattle.feature_model.specs.Types.{FeatureFitsTypes, ChangeFitsTypes, IsChange}
use Rattle.edit_text.specs.Decoding.{BeginsWithChange, BeginsAsPut}
use Rattle.edit_text.specs.Reading.{read_as, byte_at, eight_at, number_at, is_new, next_number_at, feature_at, put_at, change_behind, change_at}
use Rattle.edit_text.specs.Trusted.{byte_in, number_in, feature_in, put_in, delete_in, change_of, change_in}
use Rattle.edit_text.proofs.ChangeCodecs.{codec_change}
use Rattle.edit_text.proofs.Codecs.{AreBytes}
use Rattle.edit_text.proofs.EditCodecs.{one_from}
use Rattle.edit_text.proofs.Laws.{table_from}
use Rattle.edit_text.proofs.Trust.{Trusts, trust_if, trust_as, trust_then, trust_cond, trust_last}
use Rattle.edit_text.proofs.TrustedShapes.{trust_feature}
use Rattle.edit_text.proofs.TrustedTexts.{trust_byte, trust_eight}

trust_number : (done : List ChangeData) → Trusts (next_number_at done) number_in
unfolding next_number_at number_at
trust_number done =
    trust_if (is_new done) number_at number_in (trust_if (λ id. nat_lt id NUMBER_END) eight_at number_in trust_eight)

trust_put : (done : List ChangeData) → Trusts (put_at done) put_in
unfolding put_at put_in
trust_put done = trust_then (next_number_at done) number_in _ (λ id bytes. (put id (feature_in bytes).0, (feature_in bytes).1)) (trust_number done)
    (λ id. trust_as (put id) feature_at feature_in trust_feature)

trust_delete : (done : List ChangeData) → Trusts (λ bytes. read_as delete (next_number_at done bytes)) delete_in
unfolding delete_in
trust_delete done = trust_as delete (next_number_at done) number_in (trust_number done)

trust_kind : (done : List ChangeData) (kind : ℕ) → Trusts (change_behind done kind) (change_of kind)
unfolding change_behind change_of
trust_kind done kind = trust_cond (kind == 1) _ _ _ _ (trust_put done) (trust_last (kind == 2) _ _ (trust_delete done))

pub trust_change : (done : List ChangeData) → Trusts (change_at done) change_in
unfolding change_at change_in
trust_change done = trust_then byte_at byte_in (change_behind done) change_of trust_byte (trust_kind done)

-- a change that is checked is read
pub read_trusted : (done : List ChangeData) (bytes rest : List ℕ) (c : ChangeData)
    → (d : ChangeData) × (change_at done bytes ≡ Ok (d, rest)) → c ≡ (change_in bytes).0 → change_at done bytes ≡ Ok (c, rest)
read_trusted done bytes rest c read is =
    read.1 ∙ ap (λ d. Ok (d, rest)) (sym (is ∙ ap (λ r. r.0) (trust_change done bytes (read.0, rest) read.1)))

pub checked_whole : (done : List ChangeData) (bytes rest : List ℕ) → (d : ChangeData) × (change_at done bytes ≡ Ok (d, rest)) → IsOk (change_at done bytes)
checked_whole done bytes rest read = subst IsOk (sym read.1) refl

-- the change at the start is trusted
pub change_shown : (bytes : List ℕ) (c : ChangeData) → BeginsWithChange c bytes → (change_in bytes).0 ≡ c
change_shown bytes c begins =
    let rest = begins.1.0 in
    ap (λ r. r.0) (trust_change [] bytes (c, rest) (ap (change_at []) begins.1.1 ∙ (codec_change []).reads c rest (table_from c begins.0)))

-- ---- what the types promise of the change at the start

pub types_of : (c : ChangeData) → IsChange c → ChangeFitsTypes c
types_of (put id f) is = is.1
types_of (delete id) is = tt

pub begins_types : (bytes : List ℕ) (c : ChangeData) → BeginsWithChange c bytes → ChangeFitsTypes (change_in bytes).0
begins_types bytes c begins = subst ChangeFitsTypes (sym (change_shown bytes c begins)) (types_of c begins.0)

-- of one that is read after others
pub read_types : (done : List ChangeData) (bytes rest : List ℕ) → AreBytes bytes → (d : ChangeData) × (change_at done bytes ≡ Ok (d, rest))
    → ChangeFitsTypes (change_in bytes).0
read_types done bytes rest are read =
    let is = ((codec_change done).found bytes read.0 rest are read.1).0 in
    let shown = ap (λ r. r.0) (trust_change done bytes (read.0, rest) read.1) in
    subst ChangeFitsTypes (sym shown) (one_from done read.0 is).0.1

-- ---- a change by its kind

pub in_put : (bytes : List ℕ) → (byte_in bytes).0 ≡ 1
    → (change_in bytes).0 ≡ put (number_in (byte_in bytes).1).0 (feature_in (number_in (byte_in bytes).1).1).0
unfolding change_in change_of put_in
in_put bytes is = let rest = (byte_in bytes).1 in ap (λ k. (cond (k == 1) (put_in rest) (delete_in rest)).0) is

-- what the types promise of its feature
pub put_types : (bytes : List ℕ) → (byte_in bytes).0 ≡ 1 → ChangeFitsTypes (change_in bytes).0
    → FeatureFitsTypes (feature_in (number_in (byte_in bytes).1).1).0
put_types bytes is types = subst ChangeFitsTypes (in_put bytes is) types

pub in_delete : (bytes : List ℕ) → (byte_in bytes).0 ≢ 1 → (change_in bytes).0 ≡ delete (number_in (byte_in bytes).1).0
unfolding change_in change_of delete_in
in_delete bytes other =
    let rest = (byte_in bytes).1 in
    ap (λ b. (cond b (put_in rest) (delete_in rest)).0) (ne_eqb (byte_in bytes).0 1 other)

pub begins_put : (bytes : List ℕ) → (byte_in bytes).0 ≡ 1 → BeginsAsPut bytes
unfolding byte_in
begins_put [] is = absurd (cc)
begins_put (b ∷ bytes) is = (bytes, ap (λ k. k ∷ bytes) is)
