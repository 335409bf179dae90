use Rattle.std.proofs.Common.{arith}
use Rattle.map_metadata.proofs.Added.{nothing_read}
use Rattle.map_metadata.proofs.draft.MetadataDraft.step.Goals as goal

pub invariant_of-self-in-Err : goal.invariant_of-self-in-Err
invariant_of-self-in-Err c = record {
  is_map = c.self.invariant.is_map;
  sums = nothing_read _ c.self.inside.store.value.features c.new.ensures.empty;
  within = omega arith;
}
