-- The text of an edit with its number, and the one without it.
use Rattle.std.proofs.Common.{◌≡◌, ℕ, ◌+◌, List, [], ◌∷◌, ◌++◌, length, decimal, codes, map, false, refl, arith, length-append}
use Rattle.json.specs.Print.{escape_byte}
use Rattle.serde_json.specs.View.{items_of}
use Rattle.serde_json.specs.Written.{compact_text, items_text}
use Rattle.feature_model.specs.Data.{FeatureData, EditData, put}
use Rattle.edit_json.specs.Json.{name_bytes, json_of}
use Rattle.edit_json.specs.Batches.{asked_json, asked_of}
use Rattle.edit_json.specs.Listed.{listed_text, body_text, IsCutTo}

-- the beginning of both
abbrev begin_text : EditData → List ℕ
begin_text cs = codes "{\"changes\":[" ++ items_text false (items_of (map asked_json (map asked_of cs)))

pub cut : (number : ℕ) (cs : EditData) → IsCutTo (listed_text number cs) (body_text cs) number
unfolding name_bytes escape_byte
cut number cs = (begin_text cs, refl, refl)

both_lengths : (start number : List ℕ) → length (start ++ (codes ",\"edit\":" ++ (number ++ codes "}"))) ≡ length (start ++ codes "}") + length number + 8
both_lengths start number =
    omega (arith, length-append start (codes ",\"edit\":" ++ (number ++ codes "}")), length-append start (codes "}"), length-append number (codes "}"))

pub listed_length : (number : ℕ) (cs : EditData) → length (listed_text number cs) ≡ length (body_text cs) + length (decimal number) + 8
unfolding name_bytes escape_byte
listed_length number cs = both_lengths (begin_text cs) (decimal number)

put_lengths : (feature id : List ℕ)
    → length (codes "{\"changes\":[{\"feature\":" ++ (((feature ++ (codes ",\"put\":" ++ (id ++ codes "}"))) ++ codes "]") ++ codes "}"))
    ≡ length feature + length id + 33
put_lengths feature id =
    let inner = codes ",\"put\":" ++ (id ++ codes "}") in
    omega (
      arith,
      length-append ((feature ++ inner) ++ codes "]") (codes "}"),
      length-append (feature ++ inner) (codes "]"),
      length-append feature inner,
      length-append id (codes "}"),
    )

pub put_length : (id : ℕ) (f : FeatureData) → length (body_text (put id f ∷ [])) ≡ length (compact_text (json_of f)) + length (decimal id) + 33
unfolding name_bytes escape_byte
put_length id f = put_lengths (compact_text (json_of f)) (decimal id)
