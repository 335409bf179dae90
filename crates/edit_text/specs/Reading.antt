-- Reading from left to right: what is at the start and the bytes after it, or the first fault that is met.
use Rattle.std.specs.Prelude.{ℕ, ◌+◌, ◌^◌, ◌==◌, ◌&&◌, Bool, true, false, nat_lt, nat_le, if◌then◌else◌}
use Rattle.std.specs.Prelude.{List, [], ◌∷◌, ◌++◌, length, take, drop, Ok, Err}
use Rattle.std.specs.Ordering.{nat_cmp, is_lt}
use Rattle.std.specs.Cmp.Lexicographic.{slice_cmp}
use Rattle.std.specs.Int.{w16, w32, w64, from_le_bytes, cast_signed}
use Rattle.std.specs.Str.{is_utf8}
use Rattle.feature_model.specs.declared.limits.TheConstants.{MIN_LINE, MIN_RING, MAX_TAGS, MAX_TEXT_BYTES, MAX_EDIT_BYTES}
use Rattle.feature_model.specs.declared.limits.TheConstants.{NUMBER_END, MAX_ZOOM, MAX_NAME_BYTES, MAX_CHANGES}
use Rattle.feature_model.specs.declared.feature.World.{World}
use Rattle.feature_model.specs.declared.kinds.TheConstants.{POINTS_KIND, LINES_KIND, POLYGONS_KIND, TEXT_KIND, NATURAL_KIND, NEGATIVE_KIND}
use Rattle.feature_model.specs.declared.kinds.TheConstants.{FALSE_KIND, TRUE_KIND, PUT_KIND, DELETE_KIND}
use Rattle.feature_model.specs.Data.{GeometryData, world_points, world_lines, world_polygons, ValueData, text_value, natural_value}
use Rattle.feature_model.specs.Data.{negative_value, truth_value, TagData, FeatureData, ChangeData, put, delete, EditData, number_of}
use Rattle.feature_model.specs.Limits.{is_count}
use Rattle.edit_text.specs.declared.fault.TextFault.{TextFault}
use Rattle.edit_text.specs.declared.fault.TextFault.TheVariants.{Cut, Bad}
use Rattle.reader.specs.Reading.{Read, ◌>>=◌, repeated}

-- what was read and the bytes after it, or a fault
abbrev pub Part : Type 0 → Type 0
Part A = Read TextFault (A × List ℕ)

-- ---- ways to read

-- first this, then what it leads to, from the bytes after it
abbrev pub then_read : {A B : Type 0} → Part A → (A → List ℕ → Part B) → Part B
then_read part next = part >>= (λ x. next x.0 x.1)

-- what was read, as something else
abbrev pub read_as : {A B : Type 0} → (A → B) → Part A → Part B
read_as make part = part >>= (λ x. Ok (make x.0, x.1))

-- what was read, where it passes the test
abbrev pub read_if : {A : Type 0} → (A → Bool) → Part A → Part A
read_if test part = part >>= (λ x. if test x.0 then Ok x else Err Bad)

-- one more after those that were read; how it is read may depend on them
abbrev pub next_at : {A : Type 0} → (List A → List ℕ → Part A) → List A × List ℕ → Part (List A)
next_at read so_far = then_read (read so_far.0 so_far.1) (λ x rest. Ok (so_far.0 ++ x ∷ [], rest))

-- `count` more after those that were read
abbrev pub many_at : {A : Type 0} → (List A → List ℕ → Part A) → ℕ → List A → List ℕ → Part (List A)
many_at read count done bytes = repeated (next_at read) count (done, bytes)

-- ---- numbers and texts

unfoldable pub byte_at : List ℕ → Part ℕ
byte_at [] = Err Cut
byte_at (b ∷ bs) = Ok (b, bs)

unfoldable pub front_at : ℕ → List ℕ → Part (List ℕ)
front_at len bytes = if nat_lt (length bytes) len then Err Cut else Ok (take len bytes, drop len bytes)

unfoldable pub two_at : List ℕ → Part ℕ
two_at bytes = read_as (from_le_bytes w16) (front_at 2 bytes)

unfoldable pub four_at : List ℕ → Part ℕ
four_at bytes = read_as (from_le_bytes w32) (front_at 4 bytes)

unfoldable pub eight_at : List ℕ → Part ℕ
eight_at bytes = read_as (from_le_bytes w64) (front_at 8 bytes)

unfoldable pub text_at : ℕ → List ℕ → Part (List ℕ)
text_at len bytes = read_if is_utf8 (front_at len bytes)

unfoldable pub name_at : List ℕ → Part (List ℕ)
name_at bytes = then_read (read_if (λ len. nat_le 1 len && nat_le len MAX_NAME_BYTES) (byte_at bytes)) text_at

unfoldable pub long_text_at : List ℕ → Part (List ℕ)
long_text_at bytes = then_read (read_if (λ len. nat_le len MAX_TEXT_BYTES) (two_at bytes)) text_at

-- ---- geometry

unfoldable pub point_at : List ℕ → Part World
point_at bytes = then_read (four_at bytes) (λ x rest. read_as (λ y. record { x = x; y = y }) (four_at rest))

-- a count of at least `least`, and not too great
abbrev pub count_at : ℕ → List ℕ → Part ℕ
count_at least bytes = read_if (is_count least) (two_at bytes)

-- such a count, and what is counted
abbrev pub list_at : {A : Type 0} → ℕ → (List ℕ → Part A) → List ℕ → Part (List A)
list_at least read bytes = then_read (count_at least bytes) (λ count. many_at (λ _. read) count [])

unfoldable pub line_at : ℕ → List ℕ → Part (List World)
line_at least bytes = list_at least point_at bytes

unfoldable pub lines_at : ℕ → List ℕ → Part (List (List World))
lines_at least bytes = list_at 1 (line_at least) bytes

unfoldable pub polygons_at : List ℕ → Part (List (List (List World)))
polygons_at bytes = list_at 1 (lines_at MIN_RING) bytes

unfoldable pub geometry_behind : ℕ → List ℕ → Part GeometryData
geometry_behind kind bytes =
    if kind == POINTS_KIND then read_as world_points (line_at 1 bytes)
    else (if kind == LINES_KIND then read_as world_lines (lines_at MIN_LINE bytes)
    else (if kind == POLYGONS_KIND then read_as world_polygons (polygons_at bytes)
    else Err Bad))

unfoldable pub geometry_at : List ℕ → Part GeometryData
geometry_at bytes = then_read (byte_at bytes) geometry_behind

-- ---- tags

-- an i64 of eight bytes, which is below 0
unfoldable pub negative_at : List ℕ → Part ℕ
negative_at bytes = read_if (λ n. nat_le (2 ^ 63) n) (eight_at bytes)

unfoldable pub value_behind : ℕ → List ℕ → Part ValueData
value_behind kind bytes =
    if kind == TEXT_KIND then read_as text_value (long_text_at bytes)
    else (if kind == NATURAL_KIND then read_as natural_value (eight_at bytes)
    else (if kind == NEGATIVE_KIND then read_as (λ n. negative_value (cast_signed w64 n)) (negative_at bytes)
    else (if kind == FALSE_KIND then Ok (truth_value false, bytes)
    else (if kind == TRUE_KIND then Ok (truth_value true, bytes)
    else Err Bad))))

unfoldable pub value_at : List ℕ → Part ValueData
value_at bytes = then_read (byte_at bytes) value_behind

-- the key comes after that of the last of these tags
unfoldable pub is_next_key : List TagData → List ℕ → Bool
is_next_key [] key = true
is_next_key (t ∷ []) key = is_lt (slice_cmp nat_cmp t.key key)
is_next_key (t ∷ u ∷ ts) key = is_next_key (u ∷ ts) key

-- the tag after these
unfoldable pub tag_at : List TagData → List ℕ → Part TagData
tag_at tags bytes = then_read (read_if (is_next_key tags) (name_at bytes)) (λ key rest. read_as (λ value. record { key = key; value = value }) (value_at rest))

abbrev pub tag_count_at : List ℕ → Part ℕ
tag_count_at bytes = read_if (λ count. nat_le count MAX_TAGS) (byte_at bytes)

unfoldable pub tags_at : List ℕ → Part (List TagData)
tags_at bytes = then_read (tag_count_at bytes) (λ count. many_at tag_at count [])

-- ---- features and edits

unfoldable pub zooms_at : List ℕ → Part (ℕ × ℕ)
zooms_at bytes = then_read (read_if (λ zoom. nat_le zoom MAX_ZOOM) (byte_at bytes))
    (λ first rest. read_as (λ last. (first, last)) (read_if (λ last. nat_le first last && nat_le last MAX_ZOOM) (byte_at rest)))

unfoldable pub feature_at : List ℕ → Part FeatureData
feature_at bytes = then_read (name_at bytes) (λ layer behind_layer.
    then_read (zooms_at behind_layer) (λ zooms behind_zooms.
    then_read (geometry_at behind_zooms) (λ geometry behind_geometry.
    read_as (λ tags. record { layer = layer; minzoom = zooms.0; maxzoom = zooms.1; geometry = geometry; tags = tags }) (tags_at behind_geometry))))

unfoldable pub number_at : List ℕ → Part ℕ
number_at bytes = read_if (λ id. nat_lt id NUMBER_END) (eight_at bytes)

-- none of these changes is of the number
unfoldable pub is_new : List ChangeData → ℕ → Bool
is_new [] id = true
is_new (c ∷ cs) id = if number_of c == id then false else is_new cs id

-- the number of a change after these
unfoldable pub next_number_at : List ChangeData → List ℕ → Part ℕ
next_number_at done bytes = read_if (is_new done) (number_at bytes)

unfoldable pub put_at : List ChangeData → List ℕ → Part ChangeData
put_at done bytes = then_read (next_number_at done bytes) (λ id rest. read_as (put id) (feature_at rest))

unfoldable pub change_behind : List ChangeData → ℕ → List ℕ → Part ChangeData
change_behind done kind bytes =
    if kind == PUT_KIND then put_at done bytes
    else (if kind == DELETE_KIND then read_as delete (next_number_at done bytes)
    else Err Bad)

-- the change after these
unfoldable pub change_at : List ChangeData → List ℕ → Part ChangeData
change_at done bytes = then_read (byte_at bytes) (change_behind done)

abbrev pub change_count_at : List ℕ → Part ℕ
change_count_at bytes = read_if (λ count. nat_le 1 count && nat_le count MAX_CHANGES) (byte_at bytes)

unfoldable pub edit_at : List ℕ → Part EditData
edit_at bytes = then_read (change_count_at bytes) (λ count. many_at change_at count [])

-- bytes that end too early are bad where there is no room for more
abbrev pub cut_as_bad : {A : Type 0} → Part A → Part A
cut_as_bad (Err Cut) = Err Bad
cut_as_bad part = part

-- what is at the start, in a text of at most `most` bytes
abbrev pub read_within : {A : Type 0} → ℕ → (List ℕ → Part A) → List ℕ → Part A
read_within most read bytes = if nat_lt (length bytes) most then read bytes else cut_as_bad (read (take most bytes))

-- the most bytes of the text of an edit: its count, and the longest texts
abbrev pub edit_most : ℕ
edit_most = 1 + MAX_EDIT_BYTES

-- the change at the start, and the edit at the start, whose text is no longer than the longest
unfoldable pub decode_change_at : List ℕ → Part ChangeData
decode_change_at bytes = read_within MAX_EDIT_BYTES (change_at []) bytes

unfoldable pub decode_at : List ℕ → Part EditData
decode_at bytes = read_within edit_most edit_at bytes
