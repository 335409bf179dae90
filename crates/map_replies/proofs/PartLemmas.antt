-- The bytes that a parsed range asks for.
use Rattle.std.proofs.Common.{◌≡◌, ℕ, List, Option, Some, None, sym, ◌∙◌, subst}
use Rattle.std.specs.Borrow.{Bor}
use Rattle.std.specs.Prelude.{◌↔◌, option_map}
use Rattle.std.proofs.lemmas.Option.{none-some}
use Rattle.http_values.specs.Ranges.{IsRange}
use Rattle.http_values.specs.declared.ranges.ByteRange.{ByteRange}
use Rattle.map_replies.specs.Parts.{Asks}

-- what `byte_range` returns for a value
abbrev pub Reads : List ℕ → Option ByteRange → Type 0
Reads value read = (range : ByteRange) → (read ≡ Some range) ↔ IsRange value range.first range.last

-- a value that parses to a range asks for that range
pub asks : (field : Option (Bor (List ℕ))) (value : Bor (List ℕ)) (read : Option ByteRange) (range : ByteRange) → field ≡ Some value → Reads value.now read
    → read ≡ Some range → Asks (option_map (λ value. value.now) field) range.first range.last
asks field value read range is reads some =
    subst (λ (o : Option (Bor (List ℕ))). Asks (option_map (λ value. value.now) o) range.first range.last) (sym is) ((reads range).0 some)

-- a value that doesn't parse asks for nothing
pub asks_nothing : (field : Option (Bor (List ℕ))) (value : Bor (List ℕ)) (read : Option ByteRange) → field ≡ Some value → Reads value.now read → read ≡ None
    → (first last : ℕ) → ¬ (Asks (option_map (λ value. value.now) field) first last)
asks_nothing field value read is reads none first last asked =
    let range : ByteRange = record { first = first; last = last } in
    none-some range (sym none ∙ (reads range).1 (subst (λ (o : Option (Bor (List ℕ))). Asks (option_map (λ value. value.now) o) first last) is asked))
