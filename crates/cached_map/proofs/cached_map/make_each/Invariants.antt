use Rattle.std.proofs.Common.{◌≡◌, ℕ, ◌<◌, ◌≤◌, ◌+◌, ◌++◌, List, length, map}
use Rattle.std.specs.Vec.Iter.{into_iter_items, into_iter_len}
use Rattle.feature_store.specs.Moments.{IsMomentOf, moment_map}
use Rattle.feature_store.specs.Prepared.{prepared_data}
use Rattle.feature_model.specs.Spelled.{spelled_changes}
use Rattle.feature_store.specs.Store.{edited, snapshot, puts_in}
use Rattle.feature_store.specs.declared.limit.TheConstants.{TEXTS_END}
use Rattle.tile_cache.specs.Touched.{Mark, Remembers, StaysElsewhere}
use Rattle.cached_map.specs.Cached.{marks_after}
use Rattle.cached_map.proofs.cached_map.make_each.Given as goal

abbrev pub invariant-loop-change : goal.invariant-loop-change
invariant-loop-change l = record {
  can_next : goal.iterator-loop-change.can_next l.change-iterator;
  is_finite : goal.iterator-loop-change.is_finite l.change-iterator;
  items : l.yielded ++ into_iter_items l.change-iterator ≡ l.fn.changes.items;
  left : into_iter_len l.change-iterator ≡ length (into_iter_items l.change-iterator);
  map_is : l.store.features ≡ edited l.fn.store.features (map prepared_data l.yielded);
  marks : (marks : List Mark) → Remembers l.fn.touched marks
      → Remembers l.touched (marks_after l.fn.store.features (map prepared_data l.yielded) l.number marks);
  stays : (marks : List Mark) (first : List ℕ) → StaysElsewhere marks first l.fn.touched
      → StaysElsewhere (marks_after l.fn.store.features (map prepared_data l.yielded) l.number marks) first l.touched;
  moment : moment_map l.moment ≡ moment_map l.fn.moment;
  as_of : IsMomentOf l.fn.moment l.fn.store.features → IsMomentOf l.moment l.store.features;
  room : puts_in (map prepared_data (into_iter_items l.change-iterator)) ≤ l.store.spare;
  short : length (snapshot l.store.features) + length (spelled_changes (map prepared_data (into_iter_items l.change-iterator))) < TEXTS_END;
}
