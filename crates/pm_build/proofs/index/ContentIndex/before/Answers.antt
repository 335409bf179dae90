use Rattle.std.proofs.Common.{◌<◌, length, sym, ap, subst, arith}
use Rattle.pm_build.specs.declared.index.Stored.{Stored}
use Rattle.pm_build.specs.Different.{content_at}
use Rattle.pm_build.specs.Hashing.{content_hash}
use Rattle.pm_build.specs.Indexed.{IndexView, IsLastOf}
use Rattle.pm_build.specs.Listed.{contents_listed}
use Rattle.pm_build.proofs.Indexing.{spans_count}
use Rattle.pm_build.proofs.index.ContentIndex.before.Goals as goal

pub index-requires : goal.index-requires
index-requires c =
    let inside = c.self.inside in
    omega (
      arith,
      c.requires,
      inside.stored.ok,
      spans_count 0 (contents_listed inside.listed) inside.stored.items c.self.invariant.spans,
      ap (λ (v : IndexView). length v.contents) c.self.view_is,
    )

pub returns : goal.returns
returns c =
    let inside = c.self.inside in
    let cs = contents_listed inside.listed in
    let place = c.args.place in
    let within : place < length inside.stored.items = omega (
      arith,
      c.requires,
      spans_count 0 cs inside.stored.items c.self.invariant.spans,
      ap (λ (v : IndexView). length v.contents) c.self.view_is,
    ) in
    subst (λ (v : IndexView). IsLastOf v.contents (content_hash (content_at v.contents place)) place c.index.result.now.before) c.self.view_is
    (subst (λ (s : Stored). IsLastOf cs (content_hash (content_at cs place)) place s.before) (sym c.index.ensures)
    (c.self.invariant.chained place c.index.result.now within))
