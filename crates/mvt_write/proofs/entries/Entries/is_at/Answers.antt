use Rattle.std.proofs.Common.{◌≤◌, ◌<◌, [], length, sym, ◌∙◌, ap, subst, List, ℕ}
use Rattle.std.specs.Str.{bytes_eq}
use Rattle.std.proofs.lemmas.List.{length-map, get_or-map}
use Rattle.mvt_write.specs.declared.span.Span.{Span}
use Rattle.mvt_write.specs.Spans.{spanned}
use Rattle.mvt_write.proofs.entries.Entries.is_at.Goals as goal

pub returns : goal.returns
returns c =
    let entries = c.args.self.now in
    let part = spanned entries.bytes.items in
    let span = c.index.result.now in
    let within : c.args.index < length entries.spans.items = rw (length-map entries.spans.items part) at c.requires in
    c.eq.ensures ∙ ap (λ (bytes : List ℕ). bytes_eq bytes c.args.entry.now)
    (c.part.ensures ∙ ap part c.index.ensures ∙ sym (get_or-map part entries.spans.items c.args.index span [] within))

pub part-requires-clause-ordered : goal.part-requires-clause-ordered
part-requires-clause-ordered c =
    let entries = c.args.self.now in
    let within : c.args.index < length entries.spans.items = rw (length-map entries.spans.items (spanned entries.bytes.items)) at c.requires in
    subst (λ (s : Span). s.start ≤ s.end) (sym c.index.ensures) (entries.ordered c.args.index c.index.result.now within)

pub part-requires-clause-within : goal.part-requires-clause-within
part-requires-clause-within c =
    let entries = c.args.self.now in
    let within : c.args.index < length entries.spans.items = rw (length-map entries.spans.items (spanned entries.bytes.items)) at c.requires in
    subst (λ (s : Span). s.end ≤ length entries.bytes.items) (sym c.index.ensures) (entries.within c.args.index c.index.result.now within)
