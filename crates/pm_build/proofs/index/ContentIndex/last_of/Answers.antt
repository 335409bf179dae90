use Rattle.std.proofs.Common.{ℕ, length, Option, sym, subst, ◌∙◌}
use Rattle.std.specs.Ordering.{nat_cmp}
use Rattle.std.specs.BTreeMap.{get}
use Rattle.pm_build.specs.Indexed.{IndexView, IsLastOf}
use Rattle.pm_build.specs.Listed.{contents_listed}
use Rattle.pm_build.proofs.Indexing.{spans_count}
use Rattle.pm_build.proofs.index.ContentIndex.last_of.Goals as goal

pub returns : goal.returns
returns c =
    let inside = c.self.inside in
    let cs = contents_listed inside.listed in
    let count = spans_count 0 cs inside.stored.items c.self.invariant.spans in
    let last = subst (λ (n : ℕ). IsLastOf cs c.args.hash n (get nat_cmp inside.last c.args.hash)) count (c.self.invariant.last_of c.args.hash) in
    subst (λ (v : IndexView). IsLastOf v.contents c.args.hash (length v.contents) c.copied.result) c.self.view_is
    (subst (λ (o : Option ℕ). IsLastOf cs c.args.hash (length cs) o) (sym (c.copied.ensures ∙ c.get.ensures.value)) last)
