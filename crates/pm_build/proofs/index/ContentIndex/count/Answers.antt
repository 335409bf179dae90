use Rattle.std.proofs.Common.{length, ap, arith}
use Rattle.pm_build.specs.Indexed.{IndexView}
use Rattle.pm_build.specs.Listed.{contents_listed}
use Rattle.pm_build.proofs.Indexing.{spans_count}
use Rattle.pm_build.proofs.index.ContentIndex.count.Goals as goal

pub returns : goal.returns
returns c =
    let inside = c.self.inside in
    omega (
      arith,
      c.len.ensures,
      inside.stored.ok,
      spans_count 0 (contents_listed inside.listed) inside.stored.items c.self.invariant.spans,
      ap (λ (v : IndexView). length v.contents) c.self.view_is,
    )
