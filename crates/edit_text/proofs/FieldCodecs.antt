-- Numbers, names and texts, tied to what is read.
use Rattle.std.proofs.Common.{◌≡◌, ℕ, ◌^◌, ◌<◌, ◌≤◌, ◌⊎◌, inl, inr, true, ◌&&◌, List, [], ◌∷◌, ◌++◌, length}
use Rattle.std.proofs.Common.{take, drop, Ok, Err, nat_le, nat_lt, refl, sym, ap, subst, ◌∙◌, cond, length-append, arith}
use Rattle.std.specs.Int.{w16, w32, w64, from_le_bytes}
use Rattle.std.specs.Str.{IsUtf8, is_utf8}
use Rattle.std.proofs.lemmas.Bool.{cases_lt, le-ltb, lt-ltb, ltb-true, le-leb, leb-true}
use Rattle.std.proofs.lemmas.Bool.Decides.{nat_tests}
use Rattle.std.proofs.lemmas.List.{take-append-drop, length-take}
use Rattle.std.proofs.lemmas.Nat.{le_bytes_2, le_bytes_4, le_bytes_8, from_le_bytes-to_le_bytes_2, from_le_bytes-to_le_bytes_4, from_le_bytes-to_le_bytes_8}
use Rattle.std.proofs.lemmas.Str.{IsUtf8-from_is_utf8, is_utf8-from_IsUtf8}
use Rattle.std.proofs.Math.Seq.{take-append_seam, drop-append_seam}
use Rattle.feature_model.specs.declared.limits.TheConstants.{NUMBER_END, MAX_NAME_BYTES, MAX_TEXT_BYTES}
use Rattle.feature_model.specs.Limits.{IsName, NumberFits}
use Rattle.feature_model.specs.Spelled.{two_bytes, four_bytes, eight_bytes, spelled_name}
use Rattle.feature_model.proofs.TextLengths.{length-two_bytes, length-four_bytes, length-eight_bytes}
use Rattle.edit_text.specs.declared.fault.TextFault.TheVariants.{Cut}
use Rattle.edit_text.specs.Reading.{byte_at, front_at, two_at, four_at, eight_at, read_if, text_at, name_at, long_text_at, number_at}
use Rattle.edit_text.specs.Cut.{EndsWithin, one_byte, EndsInName, EndsInText}
use Rattle.edit_text.proofs.Codecs.{AreBytes, Codec, codec_then, codec_as, codec_if}

-- ---- a byte

byte_found : (bytes : List ℕ) (x : ℕ) (rest : List ℕ) → AreBytes bytes → byte_at bytes ≡ Ok (x, rest) → (x < 256) × (bytes ≡ one_byte x ++ rest)
unfolding byte_at
byte_found [] x rest h e = absurd (cc)
byte_found (b ∷ bs) x rest h e =
    let pair : ◌≡◌ {A = ℕ × List ℕ} (b, bs) (x, rest) = cc in
    (subst (λ n. n < 256) (ap (λ q. q.0) pair) (h 0), ap (λ q. q.0 ∷ q.1) pair)

byte_cut : (bytes : List ℕ) → byte_at bytes ≡ Err Cut → EndsWithin 1 bytes
unfolding byte_at
byte_cut [] e = omega arith
byte_cut (b ∷ bs) e = absurd (cc)

byte_ends : (bytes : List ℕ) → EndsWithin 1 bytes → byte_at bytes ≡ Err Cut
unfolding byte_at
byte_ends [] l = refl
byte_ends (b ∷ bs) l = absurd (omega arith)

pub codec_byte : Codec byte_at one_byte (λ b. b < 256) (EndsWithin 1)
unfolding byte_at
codec_byte = record {
  found = byte_found;
  reads = λ x rest is. refl;
  cut = λ bytes h e. byte_cut bytes e;
  ends = byte_ends;
}

-- ---- a given number of bytes

front_short : (n : ℕ) (bytes : List ℕ) → length bytes < n → front_at n bytes ≡ Err Cut
unfolding front_at
front_short n bytes l = ap (λ b. cond b (Err Cut) (Ok (take n bytes, drop n bytes))) (lt-ltb (length bytes) n l)

pub front_long : (n : ℕ) (bytes : List ℕ) → n ≤ length bytes → front_at n bytes ≡ Ok (take n bytes, drop n bytes)
unfolding front_at
front_long n bytes l = ap (λ b. cond b (Err Cut) (Ok (take n bytes, drop n bytes))) (le-ltb (length bytes) n l)

pub front_found : (n : ℕ) (bytes xs rest : List ℕ) → (length bytes < n) ⊎ (n ≤ length bytes) → front_at n bytes ≡ Ok (xs, rest)
    → (length xs ≡ n) × (bytes ≡ xs ++ rest)
front_found n bytes xs rest (inl l) e = let short = front_short n bytes l in absurd (cc)
front_found n bytes xs rest (inr l) e =
    let long = front_long n bytes l in
    let pair : ◌≡◌ {A = List ℕ × List ℕ} (take n bytes, drop n bytes) (xs, rest) = cc in
    let len : length (take n bytes) ≡ n = omega (arith, length-take n bytes) in
    (subst (λ ys. length ys ≡ n) (ap (λ q. q.0) pair) len, sym (take-append-drop n bytes) ∙ ap (λ q. q.0 ++ q.1) pair)

front_cut : (n : ℕ) (bytes : List ℕ) → (length bytes < n) ⊎ (n ≤ length bytes) → front_at n bytes ≡ Err Cut → EndsWithin n bytes
front_cut n bytes (inl l) e = l
front_cut n bytes (inr l) e = let long = front_long n bytes l in absurd (cc)

front_reads : (n : ℕ) (xs rest : List ℕ) → length xs ≡ n → front_at n (xs ++ rest) ≡ Ok (xs, rest)
front_reads n xs rest e =
    subst (λ k. front_at k (xs ++ rest) ≡ Ok (xs, rest)) e
    (front_long (length xs) (xs ++ rest) (omega (arith, length-append xs rest))
    ∙ ap (λ ys. Ok (ys, drop (length xs) (xs ++ rest))) (take-append_seam xs rest) ∙ ap (λ ys. Ok (xs, ys)) (drop-append_seam xs rest))

pub codec_front : (n : ℕ) → Codec (front_at n) (λ xs. xs) (λ xs. length xs ≡ n) (EndsWithin n)
codec_front n = record {
  found = λ bytes xs rest h e. front_found n bytes xs rest (cases_lt (length bytes) n) e;
  reads = λ xs rest is. front_reads n xs rest is;
  cut = λ bytes h e. front_cut n bytes (cases_lt (length bytes) n) e;
  ends = λ bytes l. front_short n bytes l;
}

-- ---- numbers

two_bound : (xs : List ℕ) → AreBytes xs → from_le_bytes w16 xs < 2 ^ 16
two_bound xs h = omega (arith, h 0, h 1)

four_bound : (xs : List ℕ) → AreBytes xs → from_le_bytes w32 xs < 2 ^ 32
four_bound xs h = omega (arith, h 0, h 1, h 2, h 3)

eight_bound : (xs : List ℕ) → AreBytes xs → from_le_bytes w64 xs < 2 ^ 64
eight_bound xs h = omega (arith, h 0, h 1, h 2, h 3, h 4, h 5, h 6, h 7)

pub codec_two : Codec two_at two_bytes (λ n. n < 2 ^ 16) (EndsWithin 2)
unfolding two_at two_bytes
codec_two = codec_as (front_at 2) (λ xs. xs) (λ xs. length xs ≡ 2) (EndsWithin 2) (from_le_bytes w16) two_bytes (λ n. n < 2 ^ 16) (codec_front 2)
    (λ xs h len. (two_bound xs h, le_bytes_2 xs (from_le_bytes w16 xs) len h refl))
    (λ n l. (two_bytes n, length-two_bytes n, sym (from_le_bytes-to_le_bytes_2 n l), refl))

pub codec_four : Codec four_at four_bytes (λ n. n < 2 ^ 32) (EndsWithin 4)
unfolding four_at four_bytes
codec_four = codec_as (front_at 4) (λ xs. xs) (λ xs. length xs ≡ 4) (EndsWithin 4) (from_le_bytes w32) four_bytes (λ n. n < 2 ^ 32) (codec_front 4)
    (λ xs h len. (four_bound xs h, le_bytes_4 xs (from_le_bytes w32 xs) len h refl))
    (λ n l. (four_bytes n, length-four_bytes n, sym (from_le_bytes-to_le_bytes_4 n l), refl))

pub codec_eight : Codec eight_at eight_bytes (λ n. n < 2 ^ 64) (EndsWithin 8)
unfolding eight_at eight_bytes
codec_eight = codec_as (front_at 8) (λ xs. xs) (λ xs. length xs ≡ 8) (EndsWithin 8) (from_le_bytes w64) eight_bytes (λ n. n < 2 ^ 64) (codec_front 8)
    (λ xs h len. (eight_bound xs h, le_bytes_8 xs (from_le_bytes w64 xs) len h refl))
    (λ n l. (eight_bytes n, length-eight_bytes n, sym (from_le_bytes-to_le_bytes_8 n l), refl))

pub codec_number : Codec number_at eight_bytes NumberFits (EndsWithin 8)
unfolding number_at
codec_number = codec_if eight_at eight_bytes (λ n. n < 2 ^ 64) (EndsWithin 8) (λ id. nat_lt id NUMBER_END) NumberFits codec_eight
    (λ n l t. ltb-true n NUMBER_END t)
    (λ n l. (omega arith, lt-ltb n NUMBER_END l))

-- ---- names and texts

pub codec_text : (n : ℕ) → Codec (text_at n) (λ xs. xs) (λ xs. (length xs ≡ n) × IsUtf8 xs) (EndsWithin n)
unfolding text_at
codec_text n = codec_if (front_at n) (λ xs. xs) (λ xs. length xs ≡ n) (EndsWithin n) is_utf8 (λ xs. (length xs ≡ n) × IsUtf8 xs) (codec_front n)
    (λ xs len t. (len, IsUtf8-from_is_utf8 xs t))
    (λ xs is. (is.0, is_utf8-from_IsUtf8 xs is.1))

name_len_passes : (len : ℕ) → 1 ≤ len → len ≤ MAX_NAME_BYTES → nat_le 1 len && nat_le len MAX_NAME_BYTES ≡ true
name_len_passes len low high = grind (arith, nat_tests)

pub name_len_fits : (len : ℕ) → nat_le 1 len && nat_le len MAX_NAME_BYTES ≡ true → (1 ≤ len) × (len ≤ MAX_NAME_BYTES)
name_len_fits len t = grind (arith, nat_tests)

pub codec_name : Codec name_at spelled_name (λ xs. IsName xs × IsUtf8 xs) EndsInName
unfolding name_at spelled_name
codec_name = codec_then (λ bytes. read_if (λ len. nat_le 1 len && nat_le len MAX_NAME_BYTES) (byte_at bytes)) one_byte
    (λ len. (1 ≤ len) × (len ≤ MAX_NAME_BYTES)) (EndsWithin 1)
    text_at (λ len xs. xs) (λ len xs. (length xs ≡ len) × IsUtf8 xs) EndsWithin
    spelled_name (λ xs. IsName xs × IsUtf8 xs)
    (codec_if byte_at one_byte (λ b. b < 256) (EndsWithin 1) (λ len. nat_le 1 len && nat_le len MAX_NAME_BYTES)
    (λ len. (1 ≤ len) × (len ≤ MAX_NAME_BYTES)) codec_byte
    (λ len l t. name_len_fits len t) (λ len fits. (omega arith, name_len_passes len fits.0 fits.1)))
    (λ len fits. codec_text len)
    (λ len xs fits is. ((subst (λ n. (1 ≤ n) × (n ≤ MAX_NAME_BYTES)) (sym is.0) fits, is.1), ap (λ n. n ∷ xs) is.0))
    (λ xs is. (length xs, is.0, (refl, is.1)))

pub codec_long_text : Codec long_text_at (λ xs. two_bytes (length xs) ++ xs) (λ xs. (length xs ≤ MAX_TEXT_BYTES) × IsUtf8 xs) EndsInText
unfolding long_text_at
codec_long_text = codec_then (λ bytes. read_if (λ len. nat_le len MAX_TEXT_BYTES) (two_at bytes)) two_bytes (λ len. len ≤ MAX_TEXT_BYTES) (EndsWithin 2)
    text_at (λ len xs. xs) (λ len xs. (length xs ≡ len) × IsUtf8 xs) EndsWithin
    (λ xs. two_bytes (length xs) ++ xs) (λ xs. (length xs ≤ MAX_TEXT_BYTES) × IsUtf8 xs)
    (codec_if two_at two_bytes (λ n. n < 2 ^ 16) (EndsWithin 2) (λ len. nat_le len MAX_TEXT_BYTES) (λ len. len ≤ MAX_TEXT_BYTES) codec_two
    (λ len l t. leb-true len MAX_TEXT_BYTES t) (λ len fits. (omega arith, le-leb len MAX_TEXT_BYTES fits)))
    (λ len fits. codec_text len)
    (λ len xs fits is. ((subst (λ n. n ≤ MAX_TEXT_BYTES) (sym is.0) fits, is.1), ap (λ n. two_bytes n ++ xs) is.0))
    (λ xs is. (length xs, is.0, (refl, is.1)))
