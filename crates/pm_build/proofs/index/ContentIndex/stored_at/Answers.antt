use Rattle.std.proofs.Common.{◌<◌, length, take, get_or, sym, ap, ◌∙◌, arith}
use Rattle.std.specs.List.{concat}
use Rattle.std.proofs.lemmas.List.{get_or-map}
use Rattle.pm_build.specs.declared.index.Stored.{Stored}
use Rattle.pm_build.specs.Different.{content_at}
use Rattle.pm_build.specs.Indexed.{IndexView}
use Rattle.pm_build.specs.Listed.{contents_listed}
use Rattle.pm_build.proofs.Indexing.{spans_count, span_begins, span_long}
use Rattle.pm_build.proofs.index.ContentIndex.stored_at.Goals as goal

pub index-requires : goal.index-requires
index-requires c =
    let inside = c.self.inside in
    omega (
      arith,
      c.requires,
      inside.stored.ok,
      spans_count 0 (contents_listed inside.listed) inside.stored.items c.self.invariant.spans,
      ap (λ (v : IndexView). length v.contents) c.self.view_is,
    )

pub returns-clause-offset : goal.returns-clause-offset
returns-clause-offset c =
    let inside = c.self.inside in
    let cs = contents_listed inside.listed in
    let within : c.args.place < length cs = omega (arith, c.requires, ap (λ (v : IndexView). length v.contents) c.self.view_is) in
    omega (
      arith,
      ap (λ (s : Stored). s.offset) c.index.ensures,
      span_begins 0 cs inside.stored.items c.args.place c.index.result.now c.self.invariant.spans within,
      ap (λ (v : IndexView). length (concat (take c.args.place v.contents))) c.self.view_is,
    )

pub returns-clause-len : goal.returns-clause-len
returns-clause-len c =
    let inside = c.self.inside in
    let cs = contents_listed inside.listed in
    let within : c.args.place < length cs = omega (arith, c.requires, ap (λ (v : IndexView). length v.contents) c.self.view_is) in
    ap (λ (s : Stored). s.len) c.index.ensures
    ∙ span_long 0 cs inside.stored.items c.args.place c.index.result.now c.self.invariant.spans within
    ∙ ap (λ (v : IndexView). length (content_at v.contents c.args.place)) c.self.view_is

pub returns-clause-first : goal.returns-clause-first
returns-clause-first c =
    let inside = c.self.inside in
    let within : c.args.place < length inside.stored.items = omega (
      arith,
      c.requires,
      spans_count 0 (contents_listed inside.listed) inside.stored.items c.self.invariant.spans,
      ap (λ (v : IndexView). length v.contents) c.self.view_is,
    ) in
    ap (λ (s : Stored). s.first) c.index.ensures
    ∙ sym (get_or-map (λ (s : Stored). s.first) inside.stored.items c.args.place c.index.result.now 0 within)
    ∙ ap (λ (v : IndexView). get_or v.firsts c.args.place 0) c.self.view_is
