use Rattle.std.proofs.Common.{◌≡◌, ℕ, ◌+◌, List, [], ◌∷◌, ◌++◌, Option, Some, None, true, false, take, map, get_or, sym, ◌∙◌, ap, refl}
use Rattle.std.specs.Prelude.{is_some}
use Rattle.std.proofs.lemmas.List.{append-nil}
use Rattle.httparse.specs.declared.spans.Span.{Span}
use Rattle.httparse.specs.declared.spans.HeaderSpan.{HeaderSpan}
use Rattle.httparse.specs.Spans.{header_bytes, span_bytes}
use Rattle.http_requests.specs.Fields.{values_of, is_word}
use Rattle.http_requests.proofs.FieldLemmas.{values_step, two_values}
use Rattle.http_requests.proofs.fields.find_stated.Invariants.{values}
use Rattle.http_requests.proofs.fields.find_stated.Goals.{then-is_word+else-is_some, else-is_word}
use Rattle.http_requests.proofs.fields.find_stated.Goals as goal

-- the header with empty spans
zero_field : HeaderSpan
zero_field = record { name = record { start = 0; end = 0 }; value = record { start = 0; end = 0 } }

no_values : (bytes : List ℕ) (o : Option Span) → is_some o ≡ false → values bytes o ≡ []
no_values bytes None h = refl
no_values bytes (Some s) h = cc

one_value : (bytes : List ℕ) (o : Option Span) → is_some o ≡ true → (v : List ℕ) × (values bytes o ≡ v ∷ [])
one_value bytes None h = cc
one_value bytes (Some s) h = (span_bytes bytes s, refl)

pub loop-field-preserved : goal.loop-field-preserved
unfolding zero_field
loop-field-preserved c =
    let word = c.args.word.now in
    let bytes = c.args.bytes.now in
    let fields = c.args.fields.now in
    let i = c.loop-field.field-index in
    let field = get_or fields i zero_field in
    elim c.if-is_word.branch [
      | then-is_word+else-is_some w ↦
          let is = ap (λ (t : List ℕ). is_word word t) (sym c.of.ensures) ∙ sym c.is_word.ensures ∙ w.if-is_word.true in
          let step = values_step word bytes fields i zero_field true c.loop-field-test.true is in
          let none = no_values bytes c.loop-field.found (sym w.is_some.ensures ∙ w.if-is_some.false) in
          rw w.found-is (record {
            values = step ∙ ap (λ (t : List (List ℕ)). t ++ span_bytes bytes field.value ∷ []) (c.loop-field.invariant.values ∙ none);
            within = (c.requires.fields i zero_field c.loop-field-test.true).1;
          })
      | else-is_word w ↦
          let is = ap (λ (t : List ℕ). is_word word t) (sym c.of.ensures) ∙ sym c.is_word.ensures ∙ w.if-is_word.false in
          let step = values_step word bytes fields i zero_field false c.loop-field-test.true is in
          rw w.found-is (record {
            values = step ∙ append-nil (values_of word (map (header_bytes bytes) (take i fields))) ∙ c.loop-field.invariant.values;
            within = c.loop-field.invariant.within;
          })
    ]

pub returns-then-is_some : goal.returns-then-is_some
unfolding zero_field
returns-then-is_some c =
    let word = c.args.word.now in
    let bytes = c.args.bytes.now in
    let fields = c.args.fields.now in
    let i = c.loop-field.field-index in
    let field = get_or fields i zero_field in
    let is = ap (λ (t : List ℕ). is_word word t) (sym c.of.ensures) ∙ sym c.is_word.ensures ∙ c.if-is_word.true in
    let step = values_step word bytes fields i zero_field true c.loop-field-test.true is in
    let one = one_value bytes c.loop-field.found (sym c.is_some.ensures ∙ c.if-is_some.true) in
    (two_values word bytes fields (i + 1) one.0 (span_bytes bytes field.value)
    (step ∙ ap (λ (t : List (List ℕ)). t ++ span_bytes bytes field.value ∷ []) (c.loop-field.invariant.values ∙ one.1)))
