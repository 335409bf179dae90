-- What is written for the value of a tag says it.
use Rattle.std.proofs.Common.{◌≡◌, ℤ, pos, negsuc, true, false, ◌+◌, ◌*◌, ◌/◌, ◌%◌, ◌^◌, ◌<◌, [], ◌∷◌, length, Ok, refl, ap, arith, ◌<ℤ◌}
use Rattle.std.proofs.lemmas.Int.{ints}
use Rattle.std.proofs.lemmas.Str.{is_utf8-from_IsUtf8}
use Rattle.pb_wire.specs.Zigzag.{zigzagged}
use Rattle.mvt_layer.specs.Tile.{TagView, text, natural, negative, truth}
use Rattle.mvt_layer.specs.Reading.{meaning, zigzag_tag}
use Rattle.mvt_layer.specs.Reads.{SaysValue}
use Rattle.mvt_write.specs.CanWrite.{CanWriteValue}
use Rattle.mvt_write.specs.Fits.{FitsValue}
use Rattle.mvt_write.specs.Written.{value_written}
use Rattle.mvt_write.proofs.Messages.{number_entry, bytes_entry, only_number, only_bytes, length_in_field}

zigzag_back : (z : ℤ) → z <ℤ pos 0 → zigzag_tag (zigzagged z) ≡ negative z
zigzag_back (pos n) below = absurd (omega (arith, ints, below))
zigzag_back (negsuc n) below =
    let odd : (2 * n + 1) % 2 ≡ 1 = omega arith in
    let half : (2 * n + 1) / 2 ≡ n = omega arith in
    rw (odd, half) refl

pub says_value : (v : TagView) → CanWriteValue v → FitsValue v → length (value_written v) < 2 ^ 64 → SaysValue (value_written v) v
unfolding value_written meaning
says_value (text t) can fits below = record {
  fields = bytes_entry 1 t ∷ [];
  message = only_bytes 1 t (omega arith, omega arith) (omega (arith, length_in_field 1 t));
  field = bytes_entry 1 t;
  last = (refl, refl, refl);
  means = rw (is_utf8-from_IsUtf8 t fits) refl;
}
says_value (natural n) can fits below = record {
  fields = number_entry 5 n ∷ [];
  message = only_number 5 n (omega arith, omega arith) fits;
  field = number_entry 5 n;
  last = (refl, refl, refl);
  means = refl;
}
says_value (negative z) can fits below = record {
  fields = number_entry 6 (zigzagged z) ∷ [];
  message = only_number 6 (zigzagged z) (omega arith, omega arith) fits;
  field = number_entry 6 (zigzagged z);
  last = (refl, refl, refl);
  means = ap Ok (zigzag_back z can);
}
says_value (truth true) can fits below = record {
  fields = number_entry 7 1 ∷ [];
  message = only_number 7 1 (omega arith, omega arith) (omega arith);
  field = number_entry 7 1;
  last = (refl, refl, refl);
  means = refl;
}
says_value (truth false) can fits below = record {
  fields = number_entry 7 0 ∷ [];
  message = only_number 7 0 (omega arith, omega arith) (omega arith);
  field = number_entry 7 0;
  last = (refl, refl, refl);
  means = refl;
}
says_value _ can fits below = absurd can
