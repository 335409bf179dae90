use Rattle.std.proofs.Common.{◌≡◌, ◌≤◌, length}
use Rattle.tile_cache.specs.declared.cached_tiles.TheConstants.{MAX_CACHED_BYTES}
use Rattle.tile_cache.specs.Entries.{bytes_of, IsFront}
use Rattle.tile_cache.proofs.cached_tiles.drop_oldest.Given as goal

abbrev pub invariant-loop-bytes : goal.invariant-loop-bytes
invariant-loop-bytes l = record {
  front : IsFront l.initial.tiles l.tiles;
  count : l.bytes ≡ bytes_of l.tiles.entries;
  same : l.fn.bytes ≤ MAX_CACHED_BYTES → l.tiles ≡ l.initial.tiles;
}

abbrev pub decreases-loop-bytes : goal.decreases-loop-bytes
decreases-loop-bytes l = length l.tiles.entries
