use Rattle.std.proofs.Common.{sym, ap, ◌∙◌, List, ℕ}
use Rattle.httparse.specs.declared.spans.HeaderSpan.{HeaderSpan}
use Rattle.http_requests.specs.Fields.{is_word}
use Rattle.http_requests.specs.Conditions.{lists_tag, is_naming}
use Rattle.http_requests.proofs.FieldLemmas.{some_at, both_true}
use Rattle.http_requests.proofs.conditions.some_names.Goals as goal

-- the header with empty spans
zero_field : HeaderSpan
zero_field = record { name = record { start = 0; end = 0 }; value = record { start = 0; end = 0 } }

pub returns-then-lists_tag : goal.returns-then-lists_tag
unfolding zero_field
returns-then-lists_tag c =
    let weak = c.args.weak in
    let tag = c.args.tag.now in
    let word = c.args.word.now in
    sym (some_at (is_naming weak tag word) c.args.bytes.now c.args.fields.now c.loop-field.field-index zero_field c.loop-field-test.true
    (both_true _ _
    (ap (λ (t : List ℕ). is_word word t) (sym c.of.ensures) ∙ sym c.is_word.ensures ∙ c.if-is_word.true)
    (ap (lists_tag weak tag) (sym c.of-then-is_word.ensures) ∙ sym c.lists_tag.ensures ∙ c.if-lists_tag.true)))
