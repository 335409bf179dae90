use Rattle.std.proofs.Common.{◌≡◌, ℕ, List, Option, None, Vec, Global, IfSome, refl, subst}
use Rattle.std.specs.List.Sorted.{IsPermutation, IsNonDecreasingBy}
use Rattle.box_index.specs.Index.{IndexView}
use Rattle.box_index.specs.Met.{ids_met}
use Rattle.box_index.specs.declared.entry.IndexEntry.{IndexEntry}
use Rattle.feature_store.specs.InBox.{IsInBox}
use Rattle.feature_store.specs.Indexed.{IsIndexed}
use Rattle.feature_store.specs.Inside.{entries_data}
use Rattle.feature_store.specs.Store.{StoreView}
use Rattle.feature_store.specs.declared.in_box.InBox.{InBox}
use Rattle.feature_store.proofs.Looked.{all_found}
use Rattle.feature_store.proofs.store.Store.in_box.Goals as goal

-- what the index has
pub returns-in-Some-2 : goal.returns-in-Some-2
returns-in-Some-2 c =
    let m = entries_data c.self.inside.features.entries in
    let bounds = c.args.bounds.now in
    let id = c.args.id in
    let f : InBox = record { numbers = c.in-Some-2.numbers; next = None } in
    let indexed = subst (λ (o : Option IndexView). IfSome o (λ i. IsIndexed m i.entries)) c.in-Some.is c.self.invariant.indexed in
    let found = subst (λ (o : Option (Vec ℕ Global)). IfSome o (λ v. (es : List IndexEntry) → IsPermutation es c.in-Some.index.entries
    → IsNonDecreasingBy (λ e. e.id) es → v.items ≡ ids_met bounds id es)) c.in-Some-2.is c.in_ok-numbers.ensures.in_order in
    subst (λ (s : StoreView). IsInBox s.features bounds id f) c.self.view_is
    (all_found m bounds id c.in-Some.index.entries f c.self.invariant.is_map indexed found refl)
