use Rattle.tile_cache.specs.declared.cached_tiles.TheConstants.{MAX_CACHED_TILES, MAX_CACHED_BYTES}
use Rattle.tile_cache.specs.KeptInside.{IsCache}
use Rattle.std.proofs.Common.{◌∙◌, sym, ap, subst, arith, ◌≤◌, length, refl, inl}
use Rattle.tile_cache.specs.Kept.{tile_view, with_first, KeepsOthers, KeepsFewer, KeepsLatest, bytes_in}
use Rattle.tile_cache.proofs.Latest.{latest}
use Rattle.tile_cache.proofs.Places.{seen, small_put, count_seen, bytes_seen, front_is, tile_kept}
use Rattle.tile_cache.proofs.Places.{others_kept, others_with_room, few_kept, too_large, is_small, few_seen}
use Rattle.tile_cache.proofs.cached_tiles.TileCache.keep.Goals as goal

pub drop_oldest-self-inside-requires-clause-first : goal.drop_oldest-self-inside-requires-clause-first
drop_oldest-self-inside-requires-clause-first c =
    rw c.in-Ok.ensures.entries
    (small_put c.self.inside.tiles c.place_of.result c.args.tile (omega (arith, c.if-len-gt-MAX_TILE_BYTES.false, c.len.ensures)))

pub invariant_of-self : goal.invariant_of-self
invariant_of-self c =
    let old = c.self.inside.tiles in let at = c.place_of.result in let front = c.drop_oldest-self-inside.ensures.front in
    let es = c.drop_oldest-self-inside.new.tiles.entries in
    let is = front_is old at c.args.tile c.put_first.new.tiles c.drop_oldest-self-inside.new.tiles c.in-Ok.ensures.entries front in
    let few = few_kept old at c.args.tile front.more es is in record {
      cap = front.cap ∙ ap (λ t. t.cap) c.in-Ok.ensures.entries ∙ c.self.invariant.cap;
      room = omega (arith, few (omega (arith, c.self.invariant.cap)) (omega (arith, c.self.invariant.room, c.self.invariant.cap)), c.self.invariant.cap);
      count = c.drop_oldest-self-inside.ensures.count ∙ sym (bytes_seen es);
      most = c.drop_oldest-self-inside.ensures.most;
    }

pub returns-in-Ok-clause-kept : goal.returns-in-Ok-clause-kept
returns-in-Ok-clause-kept c =
    let old = c.self.inside.tiles in let at = c.place_of.result in let front = c.drop_oldest-self-inside.ensures.front in
    let is = front_is old at c.args.tile c.put_first.new.tiles c.drop_oldest-self-inside.new.tiles c.in-Ok.ensures.entries front in
    let kept = tile_kept old at c.args.tile front.more c.drop_oldest-self-inside.new.tiles.entries is in λ small. rw c.place_of.ensures at kept

pub returns-in-Ok-clause-latest : goal.returns-in-Ok-clause-latest
returns-in-Ok-clause-latest c =
    let old = c.self.inside.tiles in let at = c.place_of.result in let new = c.drop_oldest-self-inside.new.tiles in
    let kept = latest old at c.args.tile c.self.invariant.cap (omega (arith, c.self.invariant.room, c.self.invariant.cap)) c.put_first.new.tiles new
    c.in-Ok.ensures.entries c.drop_oldest-self-inside.ensures.front in
    let seen_so = subst (λ before. KeepsLatest (with_first at (tile_view c.args.tile) before.kept) (seen new.entries).kept) c.self.view_is kept in
    λ small. rw c.place_of.ensures at seen_so

pub returns-in-Ok-clause-others : goal.returns-in-Ok-clause-others
returns-in-Ok-clause-others c =
    let old = c.self.inside.tiles in let at = c.place_of.result in let front = c.drop_oldest-self-inside.ensures.front in
    let es = c.drop_oldest-self-inside.new.tiles.entries in
    let is = front_is old at c.args.tile c.put_first.new.tiles c.drop_oldest-self-inside.new.tiles c.in-Ok.ensures.entries front in
    let others = others_kept old at c.args.tile front.more es is in
    subst (λ before. KeepsFewer c.args.at.z c.args.at.x c.args.at.y before (seen es)) c.self.view_is (rw c.place_of.ensures at others)

pub returns-in-Ok-clause-room : goal.returns-in-Ok-clause-room
returns-in-Ok-clause-room c =
    let old = c.self.inside.tiles in let at = c.place_of.result in
    rw (← c.self.view_is) (λ room few.
    let put_is = c.drop_oldest-self-inside.ensures.same (omega (arith, few, c.in-Ok.ensures.most, c.self.invariant.count)) ∙ c.in-Ok.ensures.entries in
    let put = others_with_room old at c.args.tile (omega (arith, room, count_seen old.entries, c.self.invariant.cap)) in
    let others = subst (λ t. KeepsOthers at.z at.x at.y (seen old.entries) (seen t.entries)) (sym put_is) put in rw c.place_of.ensures at others)

pub returns-in-Ok-clause-most_tiles : goal.returns-in-Ok-clause-most_tiles
returns-in-Ok-clause-most_tiles c =
    let old = c.self.inside.tiles in let at = c.place_of.result in let front = c.drop_oldest-self-inside.ensures.front in
    let es = c.drop_oldest-self-inside.new.tiles.entries in
    let is = front_is old at c.args.tile c.put_first.new.tiles c.drop_oldest-self-inside.new.tiles c.in-Ok.ensures.entries front in
    let few = few_kept old at c.args.tile front.more es is in
    omega (
      arith,
      few (omega (arith, c.self.invariant.cap)) (omega (arith, c.self.invariant.room, c.self.invariant.cap)),
      c.self.invariant.cap,
      count_seen es,
    )

pub returns-then-len-gt-MAX_TILE_BYTES-clause-kept : goal.returns-then-len-gt-MAX_TILE_BYTES-clause-kept
returns-then-len-gt-MAX_TILE_BYTES-clause-kept c = λ small. absurd (too_large _ _ c.if-len-gt-MAX_TILE_BYTES.true c.len.ensures small)

pub returns-then-len-gt-MAX_TILE_BYTES-clause-latest : goal.returns-then-len-gt-MAX_TILE_BYTES-clause-latest
returns-then-len-gt-MAX_TILE_BYTES-clause-latest c = λ small. absurd (too_large _ _ c.if-len-gt-MAX_TILE_BYTES.true c.len.ensures small)

pub returns-then-len-gt-MAX_TILE_BYTES-clause-large : goal.returns-then-len-gt-MAX_TILE_BYTES-clause-large
returns-then-len-gt-MAX_TILE_BYTES-clause-large c = λ _. refl

pub returns-then-len-gt-MAX_TILE_BYTES-clause-others : goal.returns-then-len-gt-MAX_TILE_BYTES-clause-others
returns-then-len-gt-MAX_TILE_BYTES-clause-others c = λ _ _ _ _. inl refl

pub returns-then-len-gt-MAX_TILE_BYTES-clause-room : goal.returns-then-len-gt-MAX_TILE_BYTES-clause-room
returns-then-len-gt-MAX_TILE_BYTES-clause-room c = λ _ _ _ _ _ _. refl

pub returns-then-len-gt-MAX_TILE_BYTES-clause-most_tiles : goal.returns-then-len-gt-MAX_TILE_BYTES-clause-most_tiles
returns-then-len-gt-MAX_TILE_BYTES-clause-most_tiles c =
    subst (λ before. length before.kept ≤ MAX_CACHED_TILES) c.self.view_is (few_seen c.self.inside.tiles.entries c.self.invariant.room)

pub returns-then-len-gt-MAX_TILE_BYTES-clause-most_bytes : goal.returns-then-len-gt-MAX_TILE_BYTES-clause-most_bytes
returns-then-len-gt-MAX_TILE_BYTES-clause-most_bytes c =
    subst (λ before. bytes_in before ≤ MAX_CACHED_BYTES) c.self.view_is (subst (λ n. n ≤ MAX_CACHED_BYTES) c.self.invariant.count c.self.invariant.most)

pub put_first-requires-clause-count : goal.put_first-requires-clause-count
put_first-requires-clause-count c = c.self.invariant.count ∙ bytes_seen c.self.inside.tiles.entries

pub put_first-requires-clause-cap : goal.put_first-requires-clause-cap
put_first-requires-clause-cap c = subst (λ n. length c.self.inside.tiles.entries ≤ n) (sym c.self.invariant.cap) c.self.invariant.room

pub put_first-requires-clause-most : goal.put_first-requires-clause-most
put_first-requires-clause-most c = c.self.invariant.most

pub put_first-requires-clause-small : goal.put_first-requires-clause-small
put_first-requires-clause-small c = is_small _ _ c.if-len-gt-MAX_TILE_BYTES.false c.len.ensures

pub drop_oldest-self-inside-requires-clause-count : goal.drop_oldest-self-inside-requires-clause-count
drop_oldest-self-inside-requires-clause-count c = c.in-Ok.ensures.count

pub invariant_of-self-in-Err : goal.invariant_of-self-in-Err
invariant_of-self-in-Err c = subst (λ t. IsCache (record { tiles = t; bytes = c.self.inside.bytes })) (sym c.in-Err.ensures.refused) c.self.invariant

pub returns-in-Ok-clause-large : goal.returns-in-Ok-clause-large
returns-in-Ok-clause-large c = λ large. absurd (large (is_small _ _ c.if-len-gt-MAX_TILE_BYTES.false c.len.ensures))

pub returns-in-Ok-clause-most_bytes : goal.returns-in-Ok-clause-most_bytes
returns-in-Ok-clause-most_bytes c =
    let is = c.drop_oldest-self-inside.ensures.count ∙ sym (bytes_seen c.drop_oldest-self-inside.new.tiles.entries) in
    subst (λ n. n ≤ MAX_CACHED_BYTES) is c.drop_oldest-self-inside.ensures.most

pub returns-in-Err-clause-large : goal.returns-in-Err-clause-large
returns-in-Err-clause-large c = λ _. ap (λ t. seen t.entries) c.in-Err.ensures.refused ∙ c.self.view_is

pub returns-in-Err-clause-most_tiles : goal.returns-in-Err-clause-most_tiles
returns-in-Err-clause-most_tiles c =
    subst (λ t. length (seen t.entries).kept ≤ MAX_CACHED_TILES) (sym c.in-Err.ensures.refused) (few_seen c.self.inside.tiles.entries c.self.invariant.room)

pub returns-in-Err-clause-most_bytes : goal.returns-in-Err-clause-most_bytes
returns-in-Err-clause-most_bytes c =
    subst (λ t. bytes_in (seen t.entries) ≤ MAX_CACHED_BYTES) (sym c.in-Err.ensures.refused)
    (subst (λ n. n ≤ MAX_CACHED_BYTES) c.self.invariant.count c.self.invariant.most)

pub returns-in-Err-clause-refused : goal.returns-in-Err-clause-refused
returns-in-Err-clause-refused c = ap (λ t. seen t.entries) c.in-Err.ensures.refused ∙ c.self.view_is
