-- What is written as fields is a message of these fields.
use Rattle.std.proofs.Common.{◌≡◌, ℕ, false, eqb, ◌+◌, ◌*◌, ◌^◌, ◌<◌, ◌≤◌, List, [], ◌∷◌, ◌++◌, length, map, refl, sym, ap, subst, append_assoc, append-nil}
use Rattle.std.proofs.Common.{arith, eq-eqb}
use Rattle.std.specs.List.{flat_map, AllByRecursion}
use Rattle.std.proofs.lemmas.List.{length-append}
use Rattle.pb_wire.specs.Varint.{varint}
use Rattle.pb_wire.specs.Faulty.{IsFieldNumber}
use Rattle.pb_wire.specs.Message.{Value, varint_value, some_bytes, FieldData, IsMessage}
use Rattle.pb_wire.proofs.Varints.{varint_spells}
use Rattle.mvt_layer.specs.Reads.{values_of, Each, ArePacked, AreNumbers}
use Rattle.mvt_write.specs.Written.{number_field, bytes_field}

abbrev pub number_entry : ℕ → ℕ → FieldData
number_entry number n = record { number = number; value = varint_value n }

abbrev pub bytes_entry : ℕ → List ℕ → FieldData
bytes_entry number bytes = record { number = number; value = some_bytes bytes }

-- a message that begins with a number
pub message_number : (number n : ℕ) (rest : List ℕ) (fs : List FieldData) → IsFieldNumber number → n < 2 ^ 64 → IsMessage rest fs
    → IsMessage (number_field number n ++ rest) (number_entry number n ∷ fs)
message_number number n rest fs fits below others = (
  number_field number n,
  rest,
  refl,
  record {
    key = varint (8 * number + 0);
    value = varint n;
    parts = refl;
    key_is = varint_spells (8 * number + 0) (omega arith);
    value_is = varint_spells n below;
    number = fits;
  },
  others,
)

-- a message that begins with bytes
pub message_bytes : (number : ℕ) (bytes rest : List ℕ) (fs : List FieldData) → IsFieldNumber number → length bytes < 2 ^ 64 → IsMessage rest fs
    → IsMessage (bytes_field number bytes ++ rest) (bytes_entry number bytes ∷ fs)
message_bytes number bytes rest fs fits below others = (
  bytes_field number bytes,
  rest,
  refl,
  record {
    key = varint (8 * number + 2);
    value = varint (length bytes) ++ bytes;
    parts = refl;
    key_is = varint_spells (8 * number + 2) (omega arith);
    value_is = (varint (length bytes), varint_spells (length bytes) below, refl);
    number = fits;
  },
  others,
)

-- messages of one field
pub only_number : (number n : ℕ) → IsFieldNumber number → n < 2 ^ 64 → IsMessage (number_field number n) (number_entry number n ∷ [])
only_number number n fits below =
    subst (λ (b : List ℕ). IsMessage b (number_entry number n ∷ [])) (append-nil (number_field number n)) (message_number number n [] [] fits below refl)

pub only_bytes : (number : ℕ) (bytes : List ℕ) → IsFieldNumber number → length bytes < 2 ^ 64
    → IsMessage (bytes_field number bytes) (bytes_entry number bytes ∷ [])
only_bytes number bytes fits below =
    subst (λ (b : List ℕ). IsMessage b (bytes_entry number bytes ∷ [])) (append-nil (bytes_field number bytes))
    (message_bytes number bytes [] [] fits below refl)

pub length_in_field : (number : ℕ) (bytes : List ℕ) → length bytes ≤ length (bytes_field number bytes)
length_in_field number bytes =
    omega (arith, length-append (varint (8 * number + 2)) (varint (length bytes) ++ bytes), length-append (varint (length bytes)) bytes)

-- ---- one field for each item of a list

module _ {X : Type 0} (number : ℕ) (bytes_of : X → List ℕ) where
  abbrev pub fields_written : List X → List ℕ
  fields_written xs = flat_map (λ x. bytes_field number (bytes_of x)) xs

  abbrev pub entries : List X → List FieldData
  entries xs = map (λ x. bytes_entry number (bytes_of x)) xs

  lengths_in : (x : X) (xs : List X)
      → (length (bytes_of x) ≤ length (fields_written (x ∷ xs))) × (length (fields_written xs) ≤ length (fields_written (x ∷ xs)))
  lengths_in x xs =
      let e = length-append (bytes_field number (bytes_of x)) (fields_written xs) in
      let f = length_in_field number (bytes_of x) in
      (omega (arith, e, f), omega (arith, e))

  pub message_each : (xs : List X) (rest : List ℕ) (fs : List FieldData) → IsFieldNumber number → length (fields_written xs) < 2 ^ 64 → IsMessage rest fs
      → IsMessage (fields_written xs ++ rest) (entries xs ++ fs)
  message_each [] rest fs fits below others = others
  message_each (x ∷ xs) rest fs fits below others =
      let len = lengths_in x xs in
      let next = message_each xs rest fs fits (omega (arith, len.1)) others in
      let regrouped : fields_written (x ∷ xs) ++ rest ≡ bytes_field number (bytes_of x) ++ (fields_written xs ++ rest) =
      append_assoc (bytes_field number (bytes_of x)) (fields_written xs) rest in
      subst (λ (b : List ℕ). IsMessage b (bytes_entry number (bytes_of x) ∷ (entries xs ++ fs))) (sym regrouped)
      (message_bytes number (bytes_of x) (fields_written xs ++ rest) (entries xs ++ fs) fits (omega (arith, len.0)) next)

  -- the fields of this number are the parts, and no other number has one
  pub values_same : (xs : List X) (fs : List FieldData) → values_of number (entries xs ++ fs) ≡ map (λ p. some_bytes p) (map bytes_of xs) ++ values_of number fs
  values_same [] fs = refl
  values_same (x ∷ xs) fs = rw (eq-eqb number number refl) (ap (λ (vs : List Value). some_bytes (bytes_of x) ∷ vs) (values_same xs fs))

  pub values_other : (other : ℕ) (xs : List X) (fs : List FieldData) → eqb number other ≡ false → values_of other (entries xs ++ fs) ≡ values_of other fs
  values_other other [] fs differs = refl
  values_other other (x ∷ xs) fs differs = rw differs (values_other other xs fs differs)

  -- what each is written as says what it is taken for
  pub each_says : {Y : Type 0} (Says : List ℕ → Y → Type 0) (taken : X → Y) (xs : List X)
      → AllByRecursion (λ x. length (bytes_of x) < 2 ^ 64 → Says (bytes_of x) (taken x)) xs → length (fields_written xs) < 2 ^ 64
      → Each Says (map bytes_of xs) (map taken xs)
  each_says Says taken [] says below = tt
  each_says Says taken (x ∷ xs) says below =
      let len = lengths_in x xs in
      (says.0 (omega (arith, len.0)), each_says Says taken xs says.1 (omega (arith, len.1)))

-- ---- many numbers in one field

packed_numbers : (ns : List ℕ) → AllByRecursion (λ n. n < 2 ^ 32) ns → ArePacked (flat_map varint ns) ns
packed_numbers [] all = refl
packed_numbers (n ∷ ns) all = (varint n, flat_map varint ns, refl, varint_spells n (omega (arith, all.0)), omega (arith, all.0), packed_numbers ns all.1)

pub packed_are : (ns : List ℕ) → AllByRecursion (λ n. n < 2 ^ 32) ns → AreNumbers (some_bytes (flat_map varint ns) ∷ []) ns
packed_are ns all = (ns, [], sym (append-nil ns), packed_numbers ns all, refl)
