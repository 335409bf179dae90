use Rattle.std.proofs.Common.{◌≡◌, ◌∷◌, ◌++◌, [], rules, length}
use Rattle.mvt_write.specs.declared.span.Span.{Span}
use Rattle.mvt_write.proofs.Spanned.{each_push}
use Rattle.mvt_write.proofs.entries.Entries.push.Goals as goal

pub returns : goal.returns
returns c =
    let before = c.args.self.now in
    let span : Span = record { start = c.len-start.result; end = c.len-end.result } in
    let bytes : c.extend_from_slice.new.self.items ≡ before.bytes.items ++ c.args.entry.now = search rules in
    let spans : c.push.new.self.items ≡ before.spans.items ++ span ∷ [] = search rules in
    let starts : span.start ≡ length before.bytes.items = search rules in
    let ends : span.end ≡ length (before.bytes.items ++ c.args.entry.now) = search rules in
    rw (bytes, spans) (each_push before.bytes.items c.args.entry.now before.spans.items span before.ordered before.within starts ends)
