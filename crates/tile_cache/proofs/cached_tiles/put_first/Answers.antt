use Rattle.std.proofs.Common.{arith}
use Rattle.tile_cache.proofs.Places.{bytes_put}
use Rattle.tile_cache.proofs.cached_tiles.put_first.Goals as goal

pub overflow_sub-result : goal.overflow_sub-result
overflow_sub-result c =
    let all = bytes_put c.args.tiles.now c.args.place c.args.tile c.requires.cap in
    let freed = rw c.in-Ok.ensures.old at c.bytes_freed.ensures in
    omega (arith, all, freed, c.requires.count, c.len-size.ensures)

pub returns-in-Ok-clause-count : goal.returns-in-Ok-clause-count
returns-in-Ok-clause-count c =
    let all = bytes_put c.args.tiles.now c.args.place c.args.tile c.requires.cap in
    let freed = rw c.in-Ok.ensures.old at c.bytes_freed.ensures in
    rw c.in-Ok.ensures.entries (omega (arith, all, freed, c.requires.count, c.len-size.ensures))
