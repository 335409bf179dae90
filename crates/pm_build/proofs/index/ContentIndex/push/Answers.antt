use Rattle.std.proofs.Common.{◌≡◌, ◌-◌, ◌++◌, ◌∷◌, [], List, length, drop, refl, ap, ◌∙◌, arith}
use Rattle.std.proofs.lemmas.List.{length-drop}
use Rattle.pm_build.specs.declared.index.Stored.{Stored}
use Rattle.pm_build.specs.Indexed.{IndexView}
use Rattle.pm_build.specs.Listed.{contents_listed}
use Rattle.pm_build.proofs.Indexing.{spans_count, index_push}
use Rattle.pm_build.proofs.index.ContentIndex.push.Goals as goal

pub invariant_of-self-2 : goal.invariant_of-self-2
invariant_of-self-2 c =
    let inside = c.self.inside in
    let content = drop c.args.from c.args.bytes.now.items in
    let s : Stored = record {
      offset = inside.total;
      len = c.len.result - c.args.from;
      first = c.args.first;
      before = c.in_ok-insert.field-0;
    } in
    let size : c.len.result - c.args.from ≡ length content =
    omega (arith, c.len.ensures, c.args.bytes.now.ok, length-drop c.args.from c.args.bytes.now.items) in
    let place : c.len-place.result ≡ length inside.stored.items = omega (arith, c.len-place.ensures, inside.stored.ok) in
    index_push (contents_listed inside.listed) content _ inside.stored.items _ s inside.total _ c.args.hash inside.last c.insert.new.self c.self.invariant
    c.requires.hash c.add.ensures
    (rw (c.unwrap.ensures) at c.push.ensures.items ∙ ap (λ (ss : List Stored). ss ++ s ∷ []) c.reserve.ensures.items)
    refl size c.in_ok-insert.ensures.old (rw place at c.in_ok-insert.ensures.updates) (omega (arith, size))

pub returns-clause-place : goal.returns-clause-place
returns-clause-place c =
    let inside = c.self.inside in
    omega (
      arith,
      c.len-place.ensures,
      inside.stored.ok,
      spans_count 0 (contents_listed inside.listed) inside.stored.items c.self.invariant.spans,
      ap (λ (v : IndexView). length v.contents) c.self.view_is,
    )
