-- Values of tags, tied to what is read.
use Rattle.std.proofs.Common.{◌≡◌, ℕ, ℤ, pos, negsuc, suc, ◌-◌, ◌^◌, ◌<◌, ◌≤◌, ◌<ℤ◌, FitsSigned, ◌⊎◌, inl, inr, Bool}
use Rattle.std.proofs.Common.{true, false, List, [], ◌∷◌, ◌++◌, length, Ok, Err, nat_le, refl, sym, ap, subst, arith}
use mir.Val.{sel}
use Rattle.std.specs.Int.{w64, cast_signed, cast_unsigned}
use Rattle.std.specs.Str.{IsUtf8}
use Rattle.std.proofs.lemmas.Bool.{le-ltb, le-leb, leb-true}
use Rattle.std.proofs.lemmas.Int.{to_z-of_z, of_z-to_z, ints}
use Rattle.feature_model.specs.declared.limits.TheConstants.{MAX_TEXT_BYTES}
use Rattle.feature_model.specs.Data.{ValueData, text_value, natural_value, negative_value, truth_value}
use Rattle.feature_model.specs.Limits.{ValueFits}
use Rattle.feature_model.specs.Spelled.{two_bytes, eight_bytes, spelled_value}
use Rattle.edit_text.specs.declared.fault.TextFault.TheVariants.{Bad}
use Rattle.feature_model.specs.Types.{ValueFitsTypes}
use Rattle.edit_text.specs.Reading.{Part, read_as, eight_at, long_text_at, negative_at, value_behind, value_at}
use Rattle.edit_text.specs.Cut.{EndsWithin, EndsBehindKind, EndsInText, EndsInValue}
use Rattle.edit_text.proofs.Codecs.{Codec, codec_same, codec_as, codec_if}
use Rattle.edit_text.proofs.FieldCodecs.{codec_eight, codec_long_text}
use Rattle.edit_text.proofs.KindCodecs.{KindCodec, pick, kind_none, kind_or, codec_kinds}

-- ---- numbers below 0

below_zero : (n : ℕ) → 2 ^ 63 ≤ n → n < 2 ^ 64 → cast_signed w64 n ≡ negsuc (2 ^ 64 - suc n)
below_zero n low high = ap (λ b. sel b (pos n) (negsuc (2 ^ 64 - suc n))) (le-ltb n (2 ^ 63) low)

signed_is : (n : ℕ) → 2 ^ 63 ≤ n → n < 2 ^ 64 → (cast_signed w64 n <ℤ pos 0) × FitsSigned w64 (cast_signed w64 n)
signed_is n low high =
    let e = below_zero n low high in
    let fits : FitsSigned w64 (negsuc (2 ^ 64 - suc n)) = record { sfits = omega arith } in
    let below : negsuc (2 ^ 64 - suc n) <ℤ pos 0 = omega (arith, ints) in
    (subst (λ z. z <ℤ pos 0) (sym e) below, subst (FitsSigned w64) (sym e) fits)

unsigned_is : (z : ℤ) → z <ℤ pos 0 → FitsSigned w64 z → (2 ^ 63 ≤ cast_unsigned w64 z) × (cast_unsigned w64 z < 2 ^ 64)
unsigned_is (pos m) below fits = absurd (omega (arith, ints, below))
unsigned_is (negsuc m) below fits = let small : m < 2 ^ 63 = fits.sfits in (omega arith, omega arith)

codec_bits : Codec negative_at eight_bytes (λ n. (2 ^ 63 ≤ n) × (n < 2 ^ 64)) (EndsWithin 8)
unfolding negative_at
codec_bits = codec_if eight_at eight_bytes (λ n. n < 2 ^ 64) (EndsWithin 8) (λ n. nat_le (2 ^ 63) n) (λ n. (2 ^ 63 ≤ n) × (n < 2 ^ 64)) codec_eight
    (λ n l t. (leb-true (2 ^ 63) n t, l))
    (λ n is. (is.1, le-leb (2 ^ 63) n is.0))

-- ---- values

-- the text after the kind
abbrev value_text : ValueData → List ℕ
value_text (text_value bytes) = two_bytes (length bytes) ++ bytes
value_text (natural_value n) = eight_bytes n
value_text (negative_value z) = eight_bytes (cast_unsigned w64 z)
value_text (truth_value b) = []

abbrev IsText : ValueData → Type 0
IsText (text_value bytes) = (length bytes ≤ MAX_TEXT_BYTES) × IsUtf8 bytes
IsText (natural_value n) = ⊥
IsText (negative_value z) = ⊥
IsText (truth_value b) = ⊥

abbrev IsNatural : ValueData → Type 0
IsNatural (text_value bytes) = ⊥
IsNatural (natural_value n) = n < 2 ^ 64
IsNatural (negative_value z) = ⊥
IsNatural (truth_value b) = ⊥

abbrev IsNegative : ValueData → Type 0
IsNegative (text_value bytes) = ⊥
IsNegative (natural_value n) = ⊥
IsNegative (negative_value z) = (z <ℤ pos 0) × FitsSigned w64 z
IsNegative (truth_value b) = ⊥

split_text : (v : ValueData) → IsText v → (bytes : List ℕ) × ((length bytes ≤ MAX_TEXT_BYTES) × IsUtf8 bytes) × (v ≡ text_value bytes)
    × (value_text v ≡ two_bytes (length bytes) ++ bytes)
split_text (text_value bytes) is = (bytes, is, refl, refl)
split_text (natural_value n) is = absurd is
split_text (negative_value z) is = absurd is
split_text (truth_value b) is = absurd is

split_natural : (v : ValueData) → IsNatural v → (n : ℕ) × (n < 2 ^ 64) × (v ≡ natural_value n) × (value_text v ≡ eight_bytes n)
split_natural (text_value bytes) is = absurd is
split_natural (natural_value n) is = (n, is, refl, refl)
split_natural (negative_value z) is = absurd is
split_natural (truth_value b) is = absurd is

split_negative : (v : ValueData) → IsNegative v → (n : ℕ) × ((2 ^ 63 ≤ n) × (n < 2 ^ 64)) × (v ≡ negative_value (cast_signed w64 n))
    × (value_text v ≡ eight_bytes n)
split_negative (text_value bytes) is = absurd is
split_negative (natural_value n) is = absurd is
split_negative (negative_value z) is = (cast_unsigned w64 z, unsigned_is z is.0 is.1, ap negative_value (sym (to_z-of_z w64 z is.1)), refl)
split_negative (truth_value b) is = absurd is

text_text : (v : ValueData) → IsText v → spelled_value v ≡ 1 ∷ value_text v
unfolding spelled_value
text_text (text_value bytes) is = refl
text_text (natural_value n) is = absurd is
text_text (negative_value z) is = absurd is
text_text (truth_value b) is = absurd is

natural_text : (v : ValueData) → IsNatural v → spelled_value v ≡ 2 ∷ value_text v
unfolding spelled_value
natural_text (text_value bytes) is = absurd is
natural_text (natural_value n) is = refl
natural_text (negative_value z) is = absurd is
natural_text (truth_value b) is = absurd is

negative_text : (v : ValueData) → IsNegative v → spelled_value v ≡ 3 ∷ value_text v
unfolding spelled_value
negative_text (text_value bytes) is = absurd is
negative_text (natural_value n) is = absurd is
negative_text (negative_value z) is = refl
negative_text (truth_value b) is = absurd is

false_text : (v : ValueData) → v ≡ truth_value false → spelled_value v ≡ 4 ∷ []
unfolding spelled_value
false_text v e = ap spelled_value e

true_text : (v : ValueData) → v ≡ truth_value true → spelled_value v ≡ 5 ∷ []
unfolding spelled_value
true_text v e = ap spelled_value e

-- a value of no bytes
codec_only : (v : ValueData) → Codec (λ bytes. Ok (v, bytes)) (λ x. []) (λ x. x ≡ v) (λ b. ⊥)
codec_only v = record {
  found = λ bytes x rest h e. let pair : ◌≡◌ {A = ValueData × List ℕ} (v, bytes) (x, rest) = cc in (sym (ap (λ q. q.0) pair), ap (λ q. q.1) pair);
  reads = λ x rest is. ap (λ y. Ok (y, rest)) (sym is);
  cut = λ bytes h e. absurd (cc);
  ends = λ b e. absurd e;
}

abbrev read_text : List ℕ → Part ValueData
read_text bytes = read_as text_value (long_text_at bytes)

abbrev read_natural : List ℕ → Part ValueData
read_natural bytes = read_as natural_value (eight_at bytes)

abbrev read_negative : List ℕ → Part ValueData
read_negative bytes = read_as (λ n. negative_value (cast_signed w64 n)) (negative_at bytes)

abbrev read_truth : Bool → List ℕ → Part ValueData
read_truth b bytes = Ok (truth_value b, bytes)

abbrev no_kind : ℕ → List ℕ → Part ValueData
no_kind k bytes = Err Bad

text_here : Codec read_text value_text IsText EndsInText
text_here = codec_as long_text_at (λ t. two_bytes (length t) ++ t)
    (λ t. (length t ≤ MAX_TEXT_BYTES) × IsUtf8 t) EndsInText text_value value_text IsText codec_long_text (λ t h is. (is, refl)) split_text

natural_here : Codec read_natural value_text IsNatural (EndsWithin 8)
natural_here = codec_as eight_at eight_bytes (λ n. n < 2 ^ 64) (EndsWithin 8) natural_value value_text IsNatural codec_eight
    (λ n h is. (is, refl)) split_natural

negative_here : Codec read_negative value_text IsNegative (EndsWithin 8)
negative_here = codec_as negative_at eight_bytes (λ n. (2 ^ 63 ≤ n) × (n < 2 ^ 64)) (EndsWithin 8)
    (λ n. negative_value (cast_signed w64 n)) value_text IsNegative codec_bits
    (λ n h is. (signed_is n is.0 is.1, ap eight_bytes (of_z-to_z w64 n is.1))) split_negative

abbrev from_five : ℕ → List ℕ → Part ValueData
from_five = pick 5 (read_truth true) no_kind

abbrev from_four : ℕ → List ℕ → Part ValueData
from_four = pick 4 (read_truth false) from_five

abbrev from_three : ℕ → List ℕ → Part ValueData
from_three = pick 3 read_negative from_four

abbrev from_two : ℕ → List ℕ → Part ValueData
from_two = pick 2 read_natural from_three

abbrev FiveIs : ValueData → Type 0
FiveIs v = (v ≡ truth_value true) ⊎ ⊥

abbrev FourIs : ValueData → Type 0
FourIs v = (v ≡ truth_value false) ⊎ FiveIs v

abbrev ThreeIs : ValueData → Type 0
ThreeIs v = IsNegative v ⊎ FourIs v

abbrev TwoIs : ValueData → Type 0
TwoIs v = IsNatural v ⊎ ThreeIs v

abbrev OneIs : ValueData → Type 0
OneIs v = IsText v ⊎ TwoIs v

abbrev FiveEnds : List ℕ → Type 0
FiveEnds b = EndsBehindKind 5 (λ r. ⊥) b ⊎ ⊥

abbrev FourEnds : List ℕ → Type 0
FourEnds b = EndsBehindKind 4 (λ r. ⊥) b ⊎ FiveEnds b

abbrev ThreeEnds : List ℕ → Type 0
ThreeEnds b = EndsBehindKind 3 (EndsWithin 8) b ⊎ FourEnds b

abbrev TwoEnds : List ℕ → Type 0
TwoEnds b = EndsBehindKind 2 (EndsWithin 8) b ⊎ ThreeEnds b

abbrev OneEnds : List ℕ → Type 0
OneEnds b = EndsBehindKind 1 EndsInText b ⊎ TwoEnds b

kinds_five : KindCodec 5 from_five spelled_value FiveIs FiveEnds
kinds_five = kind_or 5 (read_truth true) (λ v. []) (λ v. v ≡ truth_value true) (λ r. ⊥) no_kind spelled_value (λ v. ⊥) (λ b. ⊥)
    (codec_only (truth_value true)) (kind_none 6 spelled_value) true_text

kinds_four : KindCodec 4 from_four spelled_value FourIs FourEnds
kinds_four = kind_or 4 (read_truth false) (λ v. []) (λ v. v ≡ truth_value false) (λ r. ⊥) from_five spelled_value FiveIs FiveEnds
    (codec_only (truth_value false)) kinds_five false_text

kinds_three : KindCodec 3 from_three spelled_value ThreeIs ThreeEnds
kinds_three = kind_or 3 read_negative value_text IsNegative (EndsWithin 8) from_four spelled_value FourIs FourEnds negative_here kinds_four negative_text

kinds_two : KindCodec 2 from_two spelled_value TwoIs TwoEnds
kinds_two = kind_or 2 read_natural value_text IsNatural (EndsWithin 8) from_three spelled_value ThreeIs ThreeEnds natural_here kinds_three natural_text

kinds_one : KindCodec 1 (pick 1 read_text from_two) spelled_value OneIs OneEnds
kinds_one = kind_or 1 read_text value_text IsText EndsInText from_two spelled_value TwoIs TwoEnds text_here kinds_two text_text

abbrev pub IsValue : ValueData → Type 0
IsValue v = ValueFits v × ValueFitsTypes v

fits_truth : (v : ValueData) (b : Bool) → v ≡ truth_value b → IsValue v
fits_truth v b e = let there : IsValue (truth_value b) = (tt, tt) in subst IsValue (sym e) there

value_to : (v : ValueData) → OneIs v → IsValue v
value_to v (inr (inr (inr (inl e)))) = fits_truth v false e
value_to v (inr (inr (inr (inr (inl e))))) = fits_truth v true e
value_to v (inr (inr (inr (inr (inr e))))) = absurd e
value_to (text_value bytes) (inl is) = is
value_to (natural_value n) (inl is) = absurd is
value_to (negative_value z) (inl is) = absurd is
value_to (truth_value b) (inl is) = absurd is
value_to (text_value bytes) (inr (inl is)) = absurd is
value_to (natural_value n) (inr (inl is)) = (tt, is)
value_to (negative_value z) (inr (inl is)) = absurd is
value_to (truth_value b) (inr (inl is)) = absurd is
value_to (text_value bytes) (inr (inr (inl is))) = absurd is
value_to (natural_value n) (inr (inr (inl is))) = absurd is
value_to (negative_value z) (inr (inr (inl is))) = is
value_to (truth_value b) (inr (inr (inl is))) = absurd is

value_from : (v : ValueData) → IsValue v → OneIs v
value_from (text_value bytes) is = inl is
value_from (natural_value n) is = inr (inl is.1)
value_from (negative_value z) is = inr (inr (inl is))
value_from (truth_value false) is = inr (inr (inr (inl refl)))
value_from (truth_value true) is = inr (inr (inr (inr (inl refl))))

ends_to : (b : List ℕ) → EndsWithin 1 b ⊎ OneEnds b → EndsInValue b
ends_to b (inl l) = inl l
ends_to b (inr (inl e)) = inr (inl e)
ends_to b (inr (inr (inl e))) = inr (inr (inl e))
ends_to b (inr (inr (inr (inl e)))) = inr (inr (inr e))
ends_to b (inr (inr (inr (inr (inl e))))) = absurd e.2
ends_to b (inr (inr (inr (inr (inr (inl e)))))) = absurd e.2
ends_to b (inr (inr (inr (inr (inr (inr e)))))) = absurd e

ends_from : (b : List ℕ) → EndsInValue b → EndsWithin 1 b ⊎ OneEnds b
ends_from b (inl l) = inl l
ends_from b (inr (inl e)) = inr (inl e)
ends_from b (inr (inr (inl e))) = inr (inr (inl e))
ends_from b (inr (inr (inr e))) = inr (inr (inr (inl e)))

pub codec_value : Codec value_at spelled_value IsValue EndsInValue
unfolding value_at value_behind
codec_value = codec_same value_at spelled_value OneIs IsValue (λ b. EndsWithin 1 b ⊎ OneEnds b) EndsInValue
    (codec_kinds (pick 1 read_text from_two) spelled_value OneIs OneEnds 1 kinds_one) value_to value_from ends_to ends_from
