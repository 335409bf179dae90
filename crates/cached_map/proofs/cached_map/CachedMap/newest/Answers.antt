use Rattle.tile_cache.specs.declared.cached_tiles.Origin.TheVariants.{Cut}
use Rattle.cached_map.proofs.Kept.{known_now, newest_most, same_since}
use Rattle.cached_map.proofs.cached_map.CachedMap.newest.Goals as goal

pub returns-clause-most : goal.returns-clause-most
returns-clause-most c =
    let at = c.args.at in let inside = c.self.inside in
    rw (← c.self.view_is)
    (newest_most at.z at.x at.y c.newest.result Cut inside.store.features inside.touched inside.last inside.kept c.self.invariant.cut c.newest.ensures.marked)

pub returns-clause-marked : goal.returns-clause-marked
returns-clause-marked c = rw (← c.self.view_is) c.newest.ensures.marked

pub returns-clause-since : goal.returns-clause-since
returns-clause-since c =
    let at = c.args.at in let inside = c.self.inside in
    rw (← c.self.view_is) (λ n was. same_since at.z at.x at.y c.newest.result inside.store.features inside.touched inside.last n was c.newest.ensures.marked)

pub returns-clause-of_cells : goal.returns-clause-of_cells
returns-clause-of_cells c = rw (← c.self.view_is) c.newest.ensures.of_cells

pub returns-clause-now : goal.returns-clause-now
returns-clause-now c =
    let inside = c.self.inside in
    rw (← c.self.view_is) (known_now Cut inside.store.features inside.touched inside.last inside.kept c.self.invariant.cut)
