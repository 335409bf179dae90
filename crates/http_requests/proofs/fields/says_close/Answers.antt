use Rattle.std.proofs.Common.{sym, ap, ◌∙◌, List, ℕ, codes}
use Rattle.httparse.specs.declared.spans.HeaderSpan.{HeaderSpan}
use Rattle.http_requests.specs.Fields.{is_word, lists_close, is_close}
use Rattle.http_requests.proofs.FieldLemmas.{some_at, both_true}
use Rattle.http_requests.proofs.fields.says_close.Goals as goal

-- the header with empty spans
zero_field : HeaderSpan
zero_field = record { name = record { start = 0; end = 0 }; value = record { start = 0; end = 0 } }

pub returns-then-lists_close : goal.returns-then-lists_close
unfolding zero_field
returns-then-lists_close c =
    sym (some_at is_close c.args.bytes.now c.args.fields.now c.loop-field.field-index zero_field c.loop-field-test.true
    (both_true _ _
    (ap (λ (t : List ℕ). is_word (codes "connection") t) (sym c.of.ensures) ∙ sym c.is_connection_name.ensures ∙ c.if-is_connection_name.true)
    (ap lists_close (sym c.of-then-is_connection_name.ensures) ∙ sym c.lists_close.ensures ∙ c.if-lists_close.true)))
