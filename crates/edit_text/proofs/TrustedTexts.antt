-- What is trusted is what is read: numbers, texts, tags and features.
use Rattle.std.proofs.Common.{◌≡◌, ℕ, ◌^◌, ◌≤◌, ◌==◌, ◌&&◌, true, false, List, [], ◌∷◌, length, take, drop, Ok, nat_le}
use Rattle.std.proofs.Common.{ap, ◌∙◌, arith}
use Rattle.std.specs.Int.{w16, w64, from_le_bytes, cast_signed}
use Rattle.feature_model.specs.declared.limits.TheConstants.{MAX_NAME_BYTES, MAX_TEXT_BYTES, MAX_TAGS}
use Rattle.feature_model.specs.Data.{text_value, natural_value, negative_value, truth_value, TagData}
use Rattle.reader.proofs.Steps.{then_ok, same_value}
use Rattle.edit_text.specs.Reading.{read_as, read_if, byte_at, front_at, two_at, eight_at, text_at, name_at, long_text_at, negative_at}
use Rattle.edit_text.specs.Reading.{value_behind, value_at, is_next_key, tag_at, tags_at}
use Rattle.edit_text.specs.Trusted.{byte_in, count_in, number_in, name_in, long_text_in, value_of, value_in, tag_in, tags_in, each_in}
use Rattle.edit_text.proofs.Trust.{Trusts, trust_if, trust_as, trust_then, trust_cond, trust_last, trust_many, front_found, trust_text}

pub trust_byte : Trusts byte_at byte_in
unfolding byte_at byte_in
trust_byte [] x e = absurd (cc)
trust_byte (b ∷ bs) x e = same_value (b, bs) x e

-- `n` bytes are there if they are read as a number
pub front_as : (make : List ℕ → ℕ) (n : ℕ) (bytes : List ℕ) (x : ℕ × List ℕ) → read_as make (front_at n bytes) ≡ Ok x
    → (n ≤ length bytes) × ((make (take n bytes), drop n bytes) ≡ x)
front_as make n bytes x e =
    let t = then_ok (front_at n bytes) (λ y. Ok (make y.0, y.1)) x e in
    let f = front_found n bytes t.0 t.1 in
    (f.0, ap (λ y. (make y.0, y.1)) f.1 ∙ same_value (make t.0.0, t.0.1) x t.2)

pub trust_two : Trusts two_at count_in
unfolding two_at count_in
trust_two (a ∷ b ∷ rest) x e = (front_as (from_le_bytes w16) 2 (a ∷ b ∷ rest) x e).1
trust_two [] x e = absurd (omega (arith, (front_as (from_le_bytes w16) 2 [] x e).0))
trust_two (a ∷ []) x e = absurd (omega (arith, (front_as (from_le_bytes w16) 2 (a ∷ []) x e).0))

pub trust_eight : Trusts eight_at number_in
unfolding eight_at number_in
trust_eight (a ∷ b ∷ c ∷ d ∷ e ∷ f ∷ g ∷ h ∷ rest) x is = (front_as (from_le_bytes w64) 8 (a ∷ b ∷ c ∷ d ∷ e ∷ f ∷ g ∷ h ∷ rest) x is).1
trust_eight [] x is = absurd (omega (arith, (front_as (from_le_bytes w64) 8 [] x is).0))
trust_eight (a ∷ []) x is = absurd (omega (arith, (front_as (from_le_bytes w64) 8 (a ∷ []) x is).0))
trust_eight (a ∷ b ∷ []) x is = absurd (omega (arith, (front_as (from_le_bytes w64) 8 (a ∷ b ∷ []) x is).0))
trust_eight (a ∷ b ∷ c ∷ []) x is = absurd (omega (arith, (front_as (from_le_bytes w64) 8 (a ∷ b ∷ c ∷ []) x is).0))
trust_eight (a ∷ b ∷ c ∷ d ∷ []) x is = absurd (omega (arith, (front_as (from_le_bytes w64) 8 (a ∷ b ∷ c ∷ d ∷ []) x is).0))
trust_eight (a ∷ b ∷ c ∷ d ∷ e ∷ []) x is = absurd (omega (arith, (front_as (from_le_bytes w64) 8 (a ∷ b ∷ c ∷ d ∷ e ∷ []) x is).0))
trust_eight (a ∷ b ∷ c ∷ d ∷ e ∷ f ∷ []) x is = absurd (omega (arith, (front_as (from_le_bytes w64) 8 (a ∷ b ∷ c ∷ d ∷ e ∷ f ∷ []) x is).0))
trust_eight (a ∷ b ∷ c ∷ d ∷ e ∷ f ∷ g ∷ []) x is = absurd (omega (arith, (front_as (from_le_bytes w64) 8 (a ∷ b ∷ c ∷ d ∷ e ∷ f ∷ g ∷ []) x is).0))

pub trust_name : Trusts name_at name_in
unfolding name_at name_in
trust_name =
    trust_then (λ bytes. read_if (λ len. nat_le 1 len && nat_le len MAX_NAME_BYTES) (byte_at bytes)) byte_in text_at
    (λ len bytes. (take len bytes, drop len bytes))
    (trust_if (λ len. nat_le 1 len && nat_le len MAX_NAME_BYTES) byte_at byte_in trust_byte) trust_text

trust_long_text : Trusts long_text_at long_text_in
unfolding long_text_at long_text_in
trust_long_text =
    trust_then (λ bytes. read_if (λ len. nat_le len MAX_TEXT_BYTES) (two_at bytes)) count_in text_at
    (λ len bytes. (take len bytes, drop len bytes))
    (trust_if (λ len. nat_le len MAX_TEXT_BYTES) two_at count_in trust_two) trust_text

-- ---- tags

trust_same : {A : Type 0} (y : A) → Trusts (λ bytes. Ok (y, bytes)) (λ bytes. (y, bytes))
trust_same y bytes x e = same_value (y, bytes) x e

trust_negative : Trusts negative_at number_in
unfolding negative_at
trust_negative = trust_if (λ n. nat_le (2 ^ 63) n) eight_at number_in trust_eight

trust_value_of : (kind : ℕ) → Trusts (value_behind kind) (value_of kind)
unfolding value_behind value_of
trust_value_of kind =
    trust_cond (kind == 1) _ _ _ _ (trust_as text_value long_text_at long_text_in trust_long_text)
    (trust_cond (kind == 2) _ _ _ _ (trust_as natural_value eight_at number_in trust_eight)
    (trust_cond (kind == 3) _ _ _ _ (trust_as (λ n. negative_value (cast_signed w64 n)) negative_at number_in trust_negative)
    (trust_cond (kind == 4) _ _ _ _ (trust_same (truth_value false)) (trust_last (kind == 5) _ _ (trust_same (truth_value true))))))

trust_value : Trusts value_at value_in
unfolding value_at value_in
trust_value = trust_then byte_at byte_in value_behind value_of trust_byte trust_value_of

trust_tag : (tags : List TagData) → Trusts (tag_at tags) tag_in
unfolding tag_at tag_in
trust_tag tags =
    trust_then (λ bytes. read_if (is_next_key tags) (name_at bytes)) name_in _
    (λ key bytes. (record { key = key; value = (value_in bytes).0 }, (value_in bytes).1))
    (trust_if (is_next_key tags) name_at name_in trust_name)
    (λ key. trust_as (λ value. record { key = key; value = value }) value_at value_in trust_value)

pub trust_tags : Trusts tags_at tags_in
unfolding tags_at tags_in
trust_tags =
    trust_then (λ bytes. read_if (λ count. nat_le count MAX_TAGS) (byte_at bytes)) byte_in _ (each_in tag_in)
    (trust_if (λ count. nat_le count MAX_TAGS) byte_at byte_in trust_byte)
    (λ count. trust_many tag_at tag_in trust_tag count)
