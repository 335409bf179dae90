use Rattle.std.proofs.Common.{◌≡◌, ℕ, List, Option, Vec, Global, IfSome, ap, subst, ◌∙◌}
use Rattle.std.specs.List.Sorted.{IsPermutation}
use Rattle.std.proofs.lemmas.List.Sorted.{IsNonDecreasingBy-from_sort}
use Rattle.box_index.specs.Blocks.{joined}
use Rattle.box_index.specs.Index.{IndexView}
use Rattle.box_index.specs.Met.{ids_met}
use Rattle.box_index.proofs.Added.{in_order}
use Rattle.box_index.proofs.index.BoxIndex.query_box.Goals as goal

pub returns-in-Some-clause-in_order : goal.returns-in-Some-clause-in_order
returns-in-Some-clause-in_order c = λ es same up.
    let bounds = c.args.bounds.now in
    let from = c.args.from in
    let found = subst (λ (o : Option (Vec ℕ Global)). IfSome o (λ v. v.items ≡ ids_met bounds from (joined c.deref.result.now))) c.in-Some.is
    c.in_ok-found.ensures.ids in
    in_order bounds from es c.args.self.now.entries c.sort_unstable.new.self.items
    (subst (λ (ns : List ℕ). IsPermutation ns c.sort_unstable.new.self.items)
    (found ∙ ap (ids_met bounds from) (ap joined c.deref.ensures.value ∙ ap (λ (v : IndexView). v.entries) c.self.view_is))
    c.sort_unstable.ensures.permutation)
    (IsNonDecreasingBy-from_sort (λ (n : ℕ). n) c.sort_unstable.new.self.items c.sort_unstable.ensures.sorted) same up
