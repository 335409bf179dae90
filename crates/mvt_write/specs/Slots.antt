-- Where a pool looks for an entry: by its slot, by its code, and by its bytes.
use Rattle.std.specs.Prelude.{◌≡◌, ℕ, zero, suc, ◌*◌, ◌/◌, ◌%◌, ◌^◌, false, List, [], slice_index, slice_index_or, Option, Some, None, if◌then◌else◌}
use Rattle.std.specs.BTreeMap.{BTreeMap, get, get_by}
use Rattle.std.specs.Cmp.Lexicographic.{slice_cmp}
use Rattle.std.specs.Ordering.{nat_cmp}
use Rattle.std.specs.Str.{bytes_eq}
use Rattle.std.specs.declared.vec.Vec.{Vec}
use Rattle.mvt_write.specs.Codes.{text_code}
use Rattle.mvt_write.specs.declared.codes.TheConstants.{FACTOR}
use Rattle.mvt_write.specs.declared.pool.TheConstants.{SLOTS}

-- the slot of a code
unfoldable pub place_of : ℕ → ℕ
place_of code = code * FACTOR % 2 ^ 64 / 2 ^ 57 % SLOTS

-- the index that a slot's number names
abbrev pub named : ℕ → Option ℕ
named zero = None
named (suc index) = Some index

-- the index that the entry's slot names
abbrev pub slot_index : List ℕ → List ℕ → Option ℕ
slot_index slots entry = named (slice_index slots (place_of (text_code entry)))

-- the index at the entry's code
abbrev pub code_index : BTreeMap ℕ ℕ → List ℕ → Option ℕ
code_index codes entry = get nat_cmp codes (text_code entry)

-- the index at the entry's bytes
abbrev pub bytes_index : {A : Type 0} → BTreeMap (Vec ℕ A) ℕ → List ℕ → Option ℕ
bytes_index others entry = get_by (λ key. slice_cmp nat_cmp entry key.items) others

-- where an index leads: nowhere if there is none, to its entry if that is the one, or to where the others are
abbrev pub led : List (List ℕ) → Option ℕ → List ℕ → Option ℕ → Option ℕ
led pool None entry other = None
led pool (Some index) entry other = if bytes_eq (slice_index_or pool index []) entry then Some index else other

-- there is an index, and its entry is another one
abbrev pub IsOther : List (List ℕ) → Option ℕ → List ℕ → Type 0
IsOther pool None entry = ⊥
IsOther pool (Some index) entry = bytes_eq (slice_index_or pool index []) entry ≡ false
