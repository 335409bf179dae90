-- Decoding a tile, with the first fault.
use Rattle.std.specs.Prelude.{ℕ, zero, suc, negsuc, ◌-◌, ◌/◌, ◌^◌, ◌==◌, ◌||◌, ◌&&◌, ◌%◌, not, nat_lt, nat_le, Bool, true, false, if◌then◌else◌, List, [], ◌∷◌}
use Rattle.std.specs.Prelude.{◌++◌, length, drop, slice_get, Option, Some, None, Result, Ok, Err}
use Rattle.std.specs.Str.{is_utf8, bytes_eq}
use Rattle.reader.specs.Reading.{Read, ◌>>=◌, folded}
use Rattle.pb_wire.specs.Varint.{varint_at}
use Rattle.pb_wire.specs.declared.fault.FaultKind.{FaultKind}
use Rattle.pb_wire.specs.Message.{Value, varint_value, eight_bytes, some_bytes, four_bytes, FieldData}
use Rattle.pb_wire.specs.Items.{Item, items_of}
use Rattle.geometry_commands.specs.declared.decoding.GeometryFault.{GeometryFault}
use Rattle.geometry_commands.specs.declared.kinds.ShapeKind.{ShapeKind}
use Rattle.geometry_commands.specs.declared.kinds.ShapeKind.TheVariants as kinds
use Rattle.geometry_commands.specs.Shapes.{ShapeView}
use Rattle.geometry_commands.specs.Decoding.{shape_at}
use Rattle.mvt_layer.specs.declared.field_numbers.TheConstants.{TILE_LAYERS, LAYER_NAME, LAYER_FEATURES, LAYER_KEYS, LAYER_VALUES, LAYER_EXTENT, LAYER_VERSION}
use Rattle.mvt_layer.specs.declared.field_numbers.TheConstants.{FEATURE_ID, FEATURE_TAGS, FEATURE_TYPE, FEATURE_GEOMETRY, STRING_VALUE, FLOAT_VALUE}
use Rattle.mvt_layer.specs.declared.field_numbers.TheConstants.{DOUBLE_VALUE, INT_VALUE, UINT_VALUE, SINT_VALUE, BOOL_VALUE, POINT_TYPE, LINESTRING_TYPE}
use Rattle.mvt_layer.specs.declared.field_numbers.TheConstants.{POLYGON_TYPE}
use Rattle.mvt_layer.specs.declared.fault.TileFault.{TileFault}
use Rattle.mvt_layer.specs.declared.fault.TileFault.TheVariants as faults
use Rattle.mvt_layer.specs.declared.layers.TheConstants.{DEFAULT_EXTENT, DEFAULT_VERSION, CURRENT_VERSION}
use Rattle.mvt_layer.specs.Tile.{TagView, text, natural, negative, truth, float, double, Tagged, FeatureView, LayerView}

-- ---- one pass over the fields of a message

-- a state after one item more, where only the fields of this number count
abbrev pub after : {S : Type 0} → ℕ → (S → Value → Read TileFault S) → S → Item → Read TileFault S
after number step s (Err fault) = Err faults.Wire
after number step s (Ok f) = if f.number == number then step s f.value else Ok s

-- a pass over all fields, for those of this number
abbrev pub pass : {S : Type 0} → ℕ → (S → Value → Read TileFault S) → S → List ℕ → Read TileFault S
pass number step s bytes = folded (after number step) s (items_of bytes)

-- the next step on what was read, or the fault
abbrev pub onward : {X S A : Type 0} → (X → S) → Result X TileFault → (S → Read TileFault A) → Read TileFault A
onward view (Ok x) next = next (view x)
onward view (Err fault) next = Err fault

-- a number in place of the one before it
abbrev pub number_after : Option ℕ → Value → Read TileFault (Option ℕ)
number_after last (varint_value n) = Ok (Some n)
number_after last (eight_bytes part) = Err faults.Kind
number_after last (some_bytes part) = Err faults.Kind
number_after last (four_bytes part) = Err faults.Kind

-- bytes in place of those before them
abbrev pub bytes_after : Option (List ℕ) → Value → Read TileFault (Option (List ℕ))
bytes_after last (some_bytes part) = Ok (Some part)
bytes_after last (varint_value n) = Err faults.Kind
bytes_after last (eight_bytes part) = Err faults.Kind
bytes_after last (four_bytes part) = Err faults.Kind

-- one part of bytes more
abbrev pub parts_after : List (List ℕ) → Value → Read TileFault (List (List ℕ))
parts_after before (some_bytes part) = Ok (before ++ part ∷ [])
parts_after before (varint_value n) = Err faults.Kind
parts_after before (eight_bytes part) = Err faults.Kind
parts_after before (four_bytes part) = Err faults.Kind

-- one number of 32 bits more
abbrev pub number_more : List ℕ → ℕ → Read TileFault (List ℕ)
number_more before n = if nat_lt 4294967295 n then Err faults.Range else Ok (before ++ n ∷ [])

-- what was read, or that it is broken
abbrev pub or_broken : {X : Type 0} → Result X FaultKind → Read TileFault X
or_broken (Ok x) = Ok x
or_broken (Err kind) = Err faults.Wire

-- the first number, and its length
abbrev pub number_at : List ℕ → Read TileFault (ℕ × ℕ)
number_at bytes = or_broken (varint_at bytes)

-- numbers one after the other, at most the given count
unfoldable pub packed_in : ℕ → List ℕ → List ℕ → Read TileFault (List ℕ)
packed_in zero before bytes = Ok before
packed_in (suc more) before [] = Ok before
packed_in (suc more) before (b ∷ bs) = number_at (b ∷ bs) >>= λ n. number_more before n.0 >>= λ ns. packed_in more ns (drop n.1 (b ∷ bs))

-- one number more, or packed ones
abbrev pub numbers_after : List ℕ → Value → Read TileFault (List ℕ)
numbers_after before (varint_value n) = number_more before n
numbers_after before (some_bytes part) = packed_in (length part) before part
numbers_after before (eight_bytes part) = Err faults.Kind
numbers_after before (four_bytes part) = Err faults.Kind

-- whether a value may hold numbers
abbrev pub may_hold : Value → Bool
may_hold (varint_value n) = true
may_hold (some_bytes part) = true
may_hold (eight_bytes part) = false
may_hold (four_bytes part) = false

-- whether an item may hold numbers
abbrev pub holds_numbers : Item → Bool
holds_numbers (Err fault) = false
holds_numbers (Ok f) = may_hold f.value

-- the last number of the fields of this number
abbrev pub last_number_in : ℕ → List ℕ → Read TileFault (Option ℕ)
last_number_in number bytes = pass number number_after None bytes

-- the last bytes of the fields of this number
abbrev pub last_bytes_in : ℕ → List ℕ → Read TileFault (Option (List ℕ))
last_bytes_in number bytes = pass number bytes_after None bytes

-- the bytes of each field of this number
abbrev pub parts_in : ℕ → List ℕ → Read TileFault (List (List ℕ))
parts_in number bytes = pass number parts_after [] bytes

-- the numbers of the fields of this number, packed or one by one
abbrev pub numbers_in : ℕ → List ℕ → Read TileFault (List ℕ)
numbers_in number bytes = pass number numbers_after [] bytes

-- ---- values

abbrev pub text_at : List ℕ → Read TileFault (List ℕ)
text_at bytes = if is_utf8 bytes then Ok bytes else Err faults.Utf8

-- the integer of 64 bits in two's complement
abbrev pub plain_tag : ℕ → TagView
plain_tag n = if nat_lt n (2 ^ 63) then natural n else negative (negsuc (18446744073709551615 - n))

-- the integer whose zigzag encoding is n
abbrev pub zigzag_tag : ℕ → TagView
zigzag_tag n = if n % 2 == 0 then natural (n / 2) else negative (negsuc (n / 2))

abbrev pub is_known : ℕ → Bool
is_known number = nat_lt 0 number && nat_le number BOOL_VALUE

-- whether a value of this number is of this wire type
abbrev pub has_kind : ℕ → Value → Bool
has_kind number (some_bytes part) = number == STRING_VALUE
has_kind number (four_bytes part) = number == FLOAT_VALUE
has_kind number (eight_bytes part) = number == DOUBLE_VALUE
has_kind number (varint_value n) = nat_lt DOUBLE_VALUE number

abbrev pub may_follow : Option FieldData → ℕ → Bool
may_follow None number = true
may_follow (Some f) number = f.number == number

-- the last field that says a value, where all that do have one number
abbrev pub value_after : Option FieldData → Item → Read TileFault (Option FieldData)
value_after last (Err fault) = Err faults.Wire
value_after last (Ok f) =
    if is_known f.number then (if has_kind f.number f.value then (if may_follow last f.number then Ok (Some f) else Err faults.Value) else Err faults.Kind)
    else Ok last

-- the meaning of a field
unfoldable pub meaning : ℕ → Value → Read TileFault TagView
meaning number (some_bytes part) = text_at part >>= λ t. Ok (text t)
meaning number (four_bytes part) = Ok (float part)
meaning number (eight_bytes part) = Ok (double part)
meaning number (varint_value n) =
    if number == INT_VALUE then Ok (plain_tag n)
    else (if number == UINT_VALUE then Ok (natural n)
    else (if number == SINT_VALUE then Ok (zigzag_tag n)
    else Ok (truth (not (n == 0)))))

abbrev pub meant : Option FieldData → Read TileFault TagView
meant None = Err faults.Value
meant (Some f) = meaning f.number f.value

abbrev pub last_value_in : List ℕ → Read TileFault (Option FieldData)
last_value_in bytes = folded value_after None (items_of bytes)

unfoldable pub tag_value_at : List ℕ → Read TileFault TagView
tag_value_at bytes = last_value_in bytes >>= meant

-- ---- lists of parts

-- what was read, and what one part more reads as
abbrev pub part_more : {X : Type 0} → (List ℕ → Read TileFault X) → List X → List ℕ → Read TileFault (List X)
part_more read before part = read part >>= λ x. Ok (before ++ x ∷ [])

abbrev pub each_in : {X : Type 0} → (List ℕ → Read TileFault X) → List (List ℕ) → Read TileFault (List X)
each_in read parts = folded (part_more read) [] parts

-- ---- features

abbrev pub kind_of : Option ℕ → ShapeKind
kind_of None = kinds.Unknown
kind_of (Some n) =
    if n == POINT_TYPE then kinds.Points
    else (if n == LINESTRING_TYPE then kinds.Lines
    else (if n == POLYGON_TYPE then kinds.Polygons
    else kinds.Unknown))

abbrev pub shape_read : Result ShapeView GeometryFault → Read TileFault ShapeView
shape_read (Ok s) = Ok s
shape_read (Err fault) = Err faults.Geometry

abbrev pub any_of : {X : Type 0} → (X → Bool) → List X → Bool
any_of p [] = false
any_of p (x ∷ xs) = if p x then true else any_of p xs

abbrev pub has_number : List ℕ → ℕ → Bool
has_number ms n = any_of (λ m. m == n) ms

abbrev pub found_tag : Option (List ℕ) → Option TagView → Read TileFault Tagged
found_tag (Some key) (Some value) = Ok (key, value)
found_tag (Some key) None = Err faults.Tag
found_tag None value = Err faults.Tag

-- the tag of a key index and a value index, after those key indices
unfoldable pub tag_at : List (List ℕ) → List TagView → List ℕ → ℕ → ℕ → Read TileFault Tagged
tag_at keys values used k v = if has_number used k then Err faults.Tag else found_tag (slice_get keys k) (slice_get values v)

unfoldable pub tags_at : List (List ℕ) → List TagView → List ℕ → List Tagged → List ℕ → Read TileFault (List Tagged)
tags_at keys values used before [] = Ok before
tags_at keys values used before (k ∷ []) = Err faults.Tag
tags_at keys values used before (k ∷ v ∷ ns) = tag_at keys values used k v >>= λ t. tags_at keys values (used ++ k ∷ []) (before ++ t ∷ []) ns

abbrev pub feature_made : Option ℕ → List Tagged → ShapeView → Read TileFault FeatureView
feature_made id tags shape = Ok (record { id = id; tags = tags; shape = shape })

-- what the raw parts of a feature make
unfoldable pub feature_of_parts : List (List ℕ) → List TagView → Option ℕ → Option ℕ → List ℕ → List ℕ → Read TileFault FeatureView
feature_of_parts keys values id kind indices ints =
    tags_at keys values [] [] indices >>= λ tags. shape_read (shape_at (kind_of kind) ints) >>= λ shape. feature_made id tags shape

unfoldable pub feature_at : List (List ℕ) → List TagView → List ℕ → Read TileFault FeatureView
feature_at keys values bytes =
    last_number_in FEATURE_ID bytes >>= λ id.
    last_number_in FEATURE_TYPE bytes >>= λ kind.
    numbers_in FEATURE_TAGS bytes >>= λ indices.
    numbers_in FEATURE_GEOMETRY bytes >>= λ ints.
    feature_of_parts keys values id kind indices ints

-- ---- layers

abbrev pub name_at : Option (List ℕ) → Read TileFault (List ℕ)
name_at None = Err faults.Name
name_at (Some part) = text_at part

-- a number of 32 bits, or the default if there is none
abbrev pub small_at : ℕ → Option ℕ → Read TileFault ℕ
small_at otherwise None = Ok otherwise
small_at otherwise (Some n) = if nat_lt 4294967295 n then Err faults.Range else Ok n

unfoldable pub version_at : Option ℕ → Read TileFault ℕ
version_at last = small_at DEFAULT_VERSION last >>= λ n. if (n == DEFAULT_VERSION) || (n == CURRENT_VERSION) then Ok n else Err faults.Version

unfoldable pub extent_at : Option ℕ → Read TileFault ℕ
extent_at last = small_at DEFAULT_EXTENT last >>= λ n. if n == 0 then Err faults.Extent else Ok n

abbrev pub layer_made : List ℕ → ℕ → ℕ → List FeatureView → Read TileFault LayerView
layer_made name version extent features = Ok (record { name = name; version = version; extent = extent; features = features })

unfoldable pub layer_at : List ℕ → Read TileFault LayerView
layer_at bytes =
    last_bytes_in LAYER_NAME bytes >>= λ raw_name. name_at raw_name >>= λ name.
    last_number_in LAYER_VERSION bytes >>= λ raw_version. version_at raw_version >>= λ version.
    last_number_in LAYER_EXTENT bytes >>= λ raw_extent. extent_at raw_extent >>= λ extent.
    parts_in LAYER_KEYS bytes >>= λ raw_keys. each_in text_at raw_keys >>= λ keys.
    parts_in LAYER_VALUES bytes >>= λ raw_values. each_in tag_value_at raw_values >>= λ values.
    parts_in LAYER_FEATURES bytes >>= λ raw_features. each_in (feature_at keys values) raw_features >>= λ features.
    layer_made name version extent features

-- ---- tiles

abbrev pub has_name : List LayerView → List ℕ → Bool
has_name ls name = any_of (λ l. bytes_eq l.name name) ls

-- the layers with one more, whose name is to be new
abbrev pub layer_added : List LayerView → LayerView → Read TileFault (List LayerView)
layer_added before l = if has_name before l.name then Err faults.LayerTwice else Ok (before ++ l ∷ [])

abbrev pub layer_more : List LayerView → List ℕ → Read TileFault (List LayerView)
layer_more before part = layer_at part >>= layer_added before

abbrev pub layers_in : List (List ℕ) → Read TileFault (List LayerView)
layers_in parts = folded layer_more [] parts

unfoldable pub tile_at : List ℕ → Read TileFault (List LayerView)
tile_at bytes = parts_in TILE_LAYERS bytes >>= λ raw. layers_in raw
