-- Digests of maps as texts, and what a query says of the map's digest.
use Rattle.std.specs.Prelude.{ℕ, ◌==◌, List, Bool, true, cond, length, take, drop, codes, nat_eq}
use Rattle.std.specs.Cmp.Lexicographic.{pointwise}
use Rattle.std.specs.Int.{w64, to_be_bytes}
use Rattle.std.specs.List.{slice_split, list_all}
use Rattle.hex.specs.Hex.{encode_lower}

-- the 16 lower-case hex digits of a digest
unfoldable pub digest_text : ℕ → List ℕ
digest_text digest = encode_lower (to_be_bytes w64 digest)

-- the parts of a query, between which there are ampersands
abbrev pub parts_of : List ℕ → List (List ℕ)
parts_of query = slice_split (λ byte. byte == 38) query

-- a part that says something of the map's digest begins so
unfoldable pub after_mark : List ℕ
after_mark = codes "after="

-- whether a part says nothing of it, or that it has these digits
abbrev pub part_agrees : (digits part : List ℕ) → Bool
part_agrees digits part =
    cond (pointwise nat_eq (take (length after_mark) part) after_mark) (pointwise nat_eq (drop (length after_mark) part) digits) true

-- Whether a query agrees with a map of this digest: each of its parts does. A part with anything else than the digits of a digest agrees with none.
abbrev pub agrees : (query : List ℕ) → (digest : ℕ) → Bool
agrees query digest = list_all (part_agrees (digest_text digest)) (parts_of query)
