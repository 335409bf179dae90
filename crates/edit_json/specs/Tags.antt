-- What the members of `tags` are read as.
use Rattle.std.specs.Prelude.{ℕ, nat_le, int_lt, pos, if◌then◌else◌, List, [], ◌∷◌, length, Ok, Err}
use Rattle.reader.specs.Reading.{Read, ◌>>=◌}
use Rattle.serde_json.specs.Data.{Data, null, boolean, number, string, array, object, unsigned, negative, float, Members, no_members, member}
use Rattle.feature_model.specs.declared.limits.TheConstants.{MAX_TEXT_BYTES}
use Rattle.feature_model.specs.declared.fault.EditFault.{EditFault}
use Rattle.feature_model.specs.declared.fault.EditFault.TheVariants as faults
use Rattle.feature_model.specs.Data.{ValueData, text_value, natural_value, negative_value, truth_value, TagData}

unfoldable pub value_at : Data → Read EditFault ValueData
value_at null = Err faults.Value
value_at (boolean b) = Ok (truth_value b)
value_at (number (unsigned n)) = Ok (natural_value n)
value_at (number (negative z)) = if int_lt z (pos 0) then Ok (negative_value z) else Err faults.Value
value_at (number (float x)) = Err faults.Value
value_at (string t) = if nat_le (length t) MAX_TEXT_BYTES then Ok (text_value t) else Err faults.Value
value_at (array ds) = Err faults.Value
value_at (object ms) = Err faults.Value

unfoldable pub tag_at : List ℕ → Data → Read EditFault TagData
tag_at key d = value_at d >>= (λ v. Ok (record { key = key; value = v }))

-- each of the members
unfoldable pub tags_at : Members → Read EditFault (List TagData)
tags_at no_members = Ok []
tags_at (member key d ms) = tag_at key d >>= (λ t. tags_at ms >>= (λ ts. Ok (t ∷ ts)))
