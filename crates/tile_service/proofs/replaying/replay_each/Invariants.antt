use Rattle.std.proofs.Common.{◌≡◌, ◌<◌, ◌+◌, ◌++◌, length}
use Rattle.std.specs.Vec.Iter.{into_iter_items, into_iter_len}
use Rattle.cached_map.specs.Cached.{AreReadRight}
use Rattle.feature_store.specs.Store.{snapshot}
use Rattle.feature_store.specs.declared.limit.TheConstants.{TEXTS_END}
use Rattle.edit_journal.specs.Records.{records_of}
use Rattle.tile_service.specs.Replayed.{AreMade, bytes_of}
use Rattle.tile_service.proofs.replaying.replay_each.Given as goal

abbrev pub invariant-loop-recorded : goal.invariant-loop-recorded
invariant-loop-recorded l = record {
  can_next : goal.iterator-loop-recorded.can_next l.recorded-iterator;
  is_finite : goal.iterator-loop-recorded.is_finite l.recorded-iterator;
  items : l.yielded ++ into_iter_items l.recorded-iterator ≡ l.fn.records.items;
  left : into_iter_len l.recorded-iterator ≡ length (into_iter_items l.recorded-iterator);
  made : AreMade (records_of l.yielded) l.fn.map l.map;
  reads : AreReadRight l.fn.map.features l.fn.map.touched l.fn.map.last l.fn.map.kept
      → AreReadRight l.map.features l.map.touched l.map.last l.map.kept;
  last : l.map.last + length (into_iter_items l.recorded-iterator) ≡ l.fn.map.last + length l.fn.records.items;
  short : length (snapshot l.map.features) + bytes_of (records_of (into_iter_items l.recorded-iterator)) < TEXTS_END;
}
