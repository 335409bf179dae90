use Rattle.std.proofs.Common.{refl, ap, arith, length, ◌-◌, length-take}
use Rattle.tile_cache.specs.Entries.{bytes_of}
use Rattle.tile_cache.proofs.Places.{front_goes_on, front_of_all, bytes_without_last, some_bytes}
use Rattle.tile_cache.proofs.cached_tiles.drop_oldest.Goals as goal

pub loop-bytes-init : goal.loop-bytes-init
loop-bytes-init c = record { front = front_of_all c.args.tiles.now; count = c.requires.count; same = λ _. refl }

pub overflow_sub-bytes : goal.overflow_sub-bytes
overflow_sub-bytes c =
    let freed = rw c.pop_lru.ensures.value at c.bytes_freed-bytes.ensures in
    omega (arith, bytes_without_last c.loop-bytes.tiles.entries, freed, c.loop-bytes.invariant.count)

pub loop-bytes-preserved : goal.loop-bytes-preserved
loop-bytes-preserved c =
    let now = c.loop-bytes.tiles in
    let freed = rw c.pop_lru.ensures.value at c.bytes_freed-bytes.ensures in
    let many = rw c.loop-bytes.invariant.count at c.loop-bytes-test.true in record {
      front = front_goes_on c.args.tiles.now now c.pop_lru.new.self c.requires.first c.loop-bytes.invariant.front many c.pop_lru.ensures.entries;
      count = rw c.pop_lru.ensures.entries (omega (arith, bytes_without_last now.entries, freed, c.loop-bytes.invariant.count));
      same = λ few. let bytes = ap (λ t. bytes_of t.entries) (c.loop-bytes.invariant.same few) in
          absurd (omega (arith, few, bytes, c.requires.count, many));
    }

pub loop-bytes-smaller : goal.loop-bytes-smaller
loop-bytes-smaller c =
    let es = c.loop-bytes.tiles.entries in
    let some = some_bytes es (omega (arith, c.loop-bytes-test.true, c.loop-bytes.invariant.count)) in
    rw c.pop_lru.ensures.entries (omega (arith, some, length-take (length es - 1) es))
