-- Spans of bytes that grow at their end.
use Rattle.std.proofs.Common.{◌≡◌, ℕ, ◌-◌, ◌≤◌, List, [], ◌∷◌, ◌++◌, length, take, drop, refl, ap, ap₂, ◌∙◌, arith, take_all}
use Rattle.std.specs.Prelude.{All}
use Rattle.std.specs.List.{AllByRecursion}
use Rattle.std.proofs.Math.Seq.{drop-append_seam}
use Rattle.std.proofs.lemmas.List.{map-append, length-append, length-drop, take-append-le, drop-append-le}
use Rattle.std.proofs.lemmas.List.Elements.{recursion_from_All}
use Rattle.mvt_write.specs.declared.span.Span.{Span}
use Rattle.mvt_write.specs.Spans.{spanned, each_spanned}

-- more bytes change no span before them
spanned_more : (bytes more : List ℕ) (s : Span) → s.start ≤ s.end → s.end ≤ length bytes → spanned (bytes ++ more) s ≡ spanned bytes s
spanned_more bytes more s ordered within =
    ap (λ (b : List ℕ). take (s.end - s.start) b) (drop-append-le s.start bytes more (omega (arith, ordered, within)))
    ∙ take-append-le (s.end - s.start) (drop s.start bytes) more (omega (arith, ordered, within, length-drop s.start bytes))

each_more : (bytes more : List ℕ) (spans : List Span) → AllByRecursion (λ s. s.start ≤ s.end) spans → AllByRecursion (λ s. s.end ≤ length bytes) spans
    → each_spanned (bytes ++ more) spans ≡ each_spanned bytes spans
each_more bytes more [] ordered within = refl
each_more bytes more (s ∷ spans) ordered within =
    ap₂ (λ (entry : List ℕ) (rest : List (List ℕ)). entry ∷ rest) (spanned_more bytes more s ordered.0 within.0)
    (each_more bytes more spans ordered.1 within.1)

last_spanned : (bytes entry : List ℕ) (s : Span) → s.start ≡ length bytes → s.end ≡ length (bytes ++ entry) → spanned (bytes ++ entry) s ≡ entry
last_spanned bytes entry s starts ends =
    let rest : drop s.start (bytes ++ entry) ≡ entry = ap (λ (n : ℕ). drop n (bytes ++ entry)) starts ∙ drop-append_seam bytes entry in
    ap (λ (b : List ℕ). take (s.end - s.start) b) rest ∙ take_all (s.end - s.start) entry (omega (arith, starts, ends, length-append bytes entry))

-- one span more, of the last bytes
pub each_push : (bytes entry : List ℕ) (spans : List Span) (s : Span) → All (λ t. t.start ≤ t.end) spans → All (λ t. t.end ≤ length bytes) spans
    → s.start ≡ length bytes → s.end ≡ length (bytes ++ entry)
    → each_spanned (bytes ++ entry) (spans ++ s ∷ []) ≡ each_spanned bytes spans ++ entry ∷ []
each_push bytes entry spans s ordered within starts ends =
    map-append (spanned (bytes ++ entry)) spans (s ∷ [])
    ∙ ap₂ (λ (front last : List (List ℕ)). front ++ last)
    (each_more bytes entry spans (recursion_from_All (λ t. t.start ≤ t.end) spans ordered) (recursion_from_All (λ t. t.end ≤ length bytes) spans within))
    (ap (λ (b : List ℕ). b ∷ []) (last_spanned bytes entry s starts ends))
