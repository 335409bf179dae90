use Rattle.std.proofs.Common.{◌≡◌, take, map, List, [], ◌∷◌, Option, Some, None, ℕ, length}
use Rattle.std.specs.Prelude.{IfSome}
use Rattle.httparse.specs.declared.spans.Span.{Span}
use Rattle.httparse.specs.Spans.{header_bytes, span_bytes, IsWithin}
use Rattle.http_requests.specs.Fields.{values_of}
use Rattle.http_requests.proofs.fields.find_stated.Given as goal

-- the values so far: none, or the one that is kept
abbrev pub values : List ℕ → Option Span → List (List ℕ)
values bytes None = []
values bytes (Some span) = span_bytes bytes span ∷ []

abbrev pub invariant-loop-field : goal.invariant-loop-field
invariant-loop-field l = record {
  values : values_of l.word (map (header_bytes l.bytes) (take l.field-index l.fields)) ≡ values l.bytes l.found;
  within : IfSome l.found (IsWithin (length l.bytes));
}
