use Rattle.std.proofs.Common.{◌≡◌, refl, subst, sym, ◌∙◌, arith}
use Rattle.std.specs.Map.{lookup_entry}
use Rattle.tile_cache.specs.Kept.{is_place, asked_for, KeepsSame}
use Rattle.tile_cache.proofs.Latest.{asked_seen}
use Rattle.tile_cache.proofs.Places.{promoted_same, length_promoted, seen}
use Rattle.tile_cache.proofs.cached_tiles.TileCache.promote.Goals as goal

pub invariant_of-self : goal.invariant_of-self
invariant_of-self c =
    let at = c.place_of-place.result in let es = c.self.inside.tiles.entries in
    rw c.promote.ensures.entries (record {
      cap = c.self.invariant.cap;
      room = omega (arith, length_promoted (is_place at) es (lookup_entry (is_place at) es) refl, c.self.invariant.room);
      count = c.self.invariant.count ∙ sym (promoted_same at es).bytes;
      most = c.self.invariant.most;
    })

pub returns-clause-same : goal.returns-clause-same
returns-clause-same c =
    subst (λ old. KeepsSame old (seen c.promote.new.self.entries)) c.self.view_is
    (rw c.promote.ensures.entries (promoted_same c.place_of-place.result c.self.inside.tiles.entries))

pub returns-clause-order : goal.returns-clause-order
returns-clause-order c =
    let at = c.place_of-place.result in
    rw c.place_of-place.ensures at (subst (λ old. (seen c.promote.new.self.entries).kept ≡ asked_for at old.kept) c.self.view_is
    (rw c.promote.ensures.entries (asked_seen at c.self.inside.tiles.entries)))
