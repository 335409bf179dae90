use Rattle.std.proofs.Common.{◌≡◌, Some, None, refl, sym, ◌∙◌, subst}
use Rattle.tile_cache.specs.Kept.{CacheView, kept_at, tile_view}
use Rattle.tile_cache.proofs.Places.{found_in, stale, not_counted, current}
use Rattle.tile_cache.proofs.cached_tiles.TileCache.peek.Goals as goal

pub returns-then-kept-newest : goal.returns-then-kept-newest
returns-then-kept-newest c =
    let found = found_in c.self.inside.tiles.entries c.place_of-place.result (Some c.in-Some.kept.now) c.in-Some.ensures in
    let kept : kept_at c.args.self.now c.args.at.z c.args.at.x c.args.at.y ≡ Some (tile_view c.in-Some.kept.now) =
    subst (λ (v : CacheView). kept_at v c.args.at.z c.args.at.x c.args.at.y ≡ Some (tile_view c.in-Some.kept.now)) c.self.view_is
    (rw c.place_of-place.ensures at found) in
    rw kept (stale c.args.newest c.args.reads c.in-Some.kept.now c.if-kept-newest.true)

pub returns-then-not-counts : goal.returns-then-not-counts
returns-then-not-counts c =
    let found = found_in c.self.inside.tiles.entries c.place_of-place.result (Some c.in-Some.kept.now) c.in-Some.ensures in
    let kept : kept_at c.args.self.now c.args.at.z c.args.at.x c.args.at.y ≡ Some (tile_view c.in-Some.kept.now) =
    subst (λ (v : CacheView). kept_at v c.args.at.z c.args.at.x c.args.at.y ≡ Some (tile_view c.in-Some.kept.now)) c.self.view_is
    (rw c.place_of-place.ensures at found) in
    rw kept (not_counted c.args.newest c.args.reads c.in-Some.kept.now (sym c.counts.ensures ∙ c.if-not-counts.true) c.if-kept-newest.false)

pub returns-else-not-counts : goal.returns-else-not-counts
returns-else-not-counts c =
    let found = found_in c.self.inside.tiles.entries c.place_of-place.result (Some c.in-Some.kept.now) c.in-Some.ensures in
    let kept : kept_at c.args.self.now c.args.at.z c.args.at.x c.args.at.y ≡ Some (tile_view c.in-Some.kept.now) =
    subst (λ (v : CacheView). kept_at v c.args.at.z c.args.at.x c.args.at.y ≡ Some (tile_view c.in-Some.kept.now)) c.self.view_is
    (rw c.place_of-place.ensures at found) in
    rw kept
    (current c.args.newest c.args.reads c.in-Some.kept.now (sym c.counts.ensures ∙ c.if-not-counts.false) c.if-kept-newest.false)

pub returns-in-None : goal.returns-in-None
returns-in-None c =
    let found = found_in c.self.inside.tiles.entries c.place_of-place.result None c.in-None.ensures in
    let kept : kept_at c.args.self.now c.args.at.z c.args.at.x c.args.at.y ≡ None =
    subst (λ (v : CacheView). kept_at v c.args.at.z c.args.at.x c.args.at.y ≡ None) c.self.view_is (rw c.place_of-place.ensures at found) in
    rw kept refl
