use Rattle.std.proofs.Common.{◌+◌, ◌<◌, ℕ, List, length, slice_range, ap, ◌∙◌, arith}
use Rattle.pm_build.specs.Different.{content_at}
use Rattle.pm_build.specs.Storing.{ContentsView}
use Rattle.pm_build.proofs.Pieces.{lies_stored}
use Rattle.pm_build.proofs.contents.Contents.at.Goals as goal

pub overflow_add-result : goal.overflow_add-result
overflow_add-result c =
    let inside = c.self.inside in
    let within : c.args.place < length inside.index.contents = omega (arith, c.requires, ap (λ (v : ContentsView). length v.index.contents) c.self.view_is) in
    let lies = lies_stored inside.index.contents inside.bytes.items c.args.place c.stored_at-stored.result.offset c.stored_at-stored.result.len
    c.self.invariant.stored within c.stored_at-stored.ensures.offset c.stored_at-stored.ensures.len in
    omega (arith, lies.within, inside.bytes.ok)

pub slice_bounds-result-end : goal.slice_bounds-result-end
slice_bounds-result-end c =
    let inside = c.self.inside in
    let within : c.args.place < length inside.index.contents = omega (arith, c.requires, ap (λ (v : ContentsView). length v.index.contents) c.self.view_is) in
    let lies = lies_stored inside.index.contents inside.bytes.items c.args.place c.stored_at-stored.result.offset c.stored_at-stored.result.len
    c.self.invariant.stored within c.stored_at-stored.ensures.offset c.stored_at-stored.ensures.len in
    omega (arith, lies.within, inside.bytes.ok, c.deref.ensures.len)

pub returns : goal.returns
returns c =
    let inside = c.self.inside in
    let s = c.stored_at-stored.result in
    let within : c.args.place < length inside.index.contents = omega (arith, c.requires, ap (λ (v : ContentsView). length v.index.contents) c.self.view_is) in
    let lies = lies_stored inside.index.contents inside.bytes.items c.args.place s.offset s.len c.self.invariant.stored within c.stored_at-stored.ensures.offset
    c.stored_at-stored.ensures.len in
    ap (λ (bs : List ℕ). slice_range bs s.offset (s.offset + s.len)) c.deref.ensures.value ∙ lies.there
    ∙ ap (λ (v : ContentsView). content_at v.index.contents c.args.place) c.self.view_is
