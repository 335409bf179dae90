-- What the search for a request knows about the waiting bytes.
use Rattle.std.specs.Prelude.{◌≡◌, ℕ, ◌<◌, ◌≤◌, List, ◌++◌, length, take, Option}
use Rattle.httparse.specs.Grammar.{RequestHead}
use Rattle.http_requests.specs.declared.lines.Lines.TheVariants.{Blank}
use Rattle.http_requests.specs.declared.searches.Search.{Search}
use Rattle.http_requests.specs.declared.searches.Search.TheVariants.{Head, Until}
use Rattle.http_requests.specs.declared.frames.TheConstants.{MAX_REQUEST}
use Rattle.http_requests.specs.Lines.{after_bytes}
use Rattle.http_requests.specs.Requests.{IsRefused, has_head_method}

-- The progress of the first bytes to an empty line, or the length below which no request is complete. The position decides only when a head is parsed.
abbrev pub IsKnown : List ℕ → Search → Type 0
IsKnown bytes (Head scanned lines position) =
    (scanned ≤ length bytes) × (after_bytes Blank (take scanned bytes) ≡ lines)
IsKnown bytes (Until missing) =
    (missing.until ≤ MAX_REQUEST)
    × (head : Option RequestHead)
    × (missing.rejection.bare ≡ has_head_method head)
    × ((more : List ℕ) → length (bytes ++ more) < missing.until → IsRefused (bytes ++ more) head missing.rejection.refusal)
