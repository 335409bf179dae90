use Rattle.std.proofs.Common.{sym, ap, subst, arith}
use Rattle.feature_store.specs.Store.{IsMap, StoreView}
use Rattle.map_metadata.proofs.Added.{nothing_read}
use Rattle.map_metadata.proofs.draft.MetadataDraft.of.Goals as goal

pub invariant_of-result : goal.invariant_of-result
invariant_of-result c = record {
  is_map = subst (λ (s : StoreView). IsMap s.features) (sym c.of.ensures) c.len-count.ensures.map;
  sums = nothing_read c.new.result c.of.result.value.features c.new.ensures.empty;
  within = omega arith;
}
