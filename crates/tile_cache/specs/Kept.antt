-- What a cache of tiles keeps.
use Rattle.std.specs.Prelude.{◌≡◌, ℕ, Bool, true, false, cond, ◌&&◌, ◌⊎◌, ◌+◌, ◌<◌, ◌≤◌, List, ◌∷◌, ◌++◌, length, sum_by, Option, Some, None, nat_le, nat_eq}
use Rattle.std.specs.Map.{lookup, lookup_entry, remove_entry}
use Rattle.std.specs.Option.{option_map_or}
use Rattle.std.specs.Rc.{rc_slice_items}
use Rattle.tile_cache.specs.declared.cached_tiles.TheConstants.{MAX_CACHED_TILES, MAX_CACHED_BYTES, MAX_TILE_BYTES}
use Rattle.tile_cache.specs.declared.cached_tiles.CachedTile.{CachedTile}
use Rattle.tile_cache.specs.declared.cached_tiles.Origin.{Origin}
use Rattle.tile_cache.specs.declared.cached_tiles.Origin.TheVariants.{Cut, Read}
use Rattle.tile_cache.specs.declared.cached_tiles.TileKey.{TileKey}

-- what is kept of a tile: where its bytes are from, the number of the edit as of which they are right, and the bytes
pub record TileView : Type 0 where
  pub origin : Origin
  pub number : ℕ
  pub bytes : List ℕ

abbrev pub tile_view : CachedTile → TileView
tile_view k = record { origin = k.origin; number = k.number; bytes = rc_slice_items k.bytes }

-- a place, and what is kept of its tile
abbrev pub KeptTile : Type 0
KeptTile = TileKey × TileView

-- what contracts see of a cache: the tiles that it keeps, the one that was asked for last first
pub record CacheView : Type 0 where
  pub kept : List KeptTile

-- whether a place is this one
abbrev pub is_place : TileKey → TileKey → Bool
is_place p q = nat_eq p.z q.z && (nat_eq p.x q.x && nat_eq p.y q.y)

-- what is kept for a place
abbrev pub kept_at : CacheView → ℕ → ℕ → ℕ → Option TileView
kept_at c z x y = lookup (is_place (record { z = z; x = x; y = y })) c.kept

-- whether bytes of this origin count, if those that were read may not
abbrev pub counts : (reads : Bool) → Origin → Bool
counts reads Cut = true
counts reads Read = reads

-- the bytes, if they count and are right as of this edit or a later one
abbrev pub fresh : (newest : ℕ) → (reads : Bool) → Option TileView → Option (List ℕ)
fresh newest reads None = None
fresh newest reads (Some t) = cond (nat_le newest t.number && counts reads t.origin) (Some t.bytes) None

-- the bytes of all these tiles
abbrev pub total_bytes : List KeptTile → ℕ
total_bytes es = sum_by (λ e. length e.1.bytes) es

-- the bytes of all tiles that are kept
abbrev pub bytes_in : CacheView → ℕ
bytes_in c = total_bytes c.kept

-- few enough bytes for a tile to be kept
abbrev pub IsSmall : List ℕ → Type 0
IsSmall bytes = length bytes ≤ MAX_TILE_BYTES

-- the same is kept at each place
pub record KeepsSame (old new : CacheView) : Type 0 where
  pub tiles : (z x y : ℕ) → kept_at new z x y ≡ kept_at old z x y
  pub count : length new.kept ≡ length old.kept
  pub bytes : bytes_in new ≡ bytes_in old

-- another place
abbrev pub IsOtherPlace : ℕ → ℕ → ℕ → ℕ → ℕ → ℕ → Type 0
IsOtherPlace z x y z' x' y' = is_place (record { z = z; x = x; y = y }) (record { z = z'; x = x'; y = y' }) ≡ false

-- each place but one keeps what it had
abbrev pub KeepsOthers : ℕ → ℕ → ℕ → CacheView → CacheView → Type 0
KeepsOthers z x y old new = (z' x' y' : ℕ) → IsOtherPlace z x y z' x' y' → kept_at new z' x' y' ≡ kept_at old z' x' y'

-- each place but one keeps what it had, or nothing
abbrev pub KeepsFewer : ℕ → ℕ → ℕ → CacheView → CacheView → Type 0
KeepsFewer z x y old new = (z' x' y' : ℕ) → IsOtherPlace z x y z' x' y' → (kept_at new z' x' y' ≡ kept_at old z' x' y') ⊎ (kept_at new z' x' y' ≡ None)

-- ---- the order of asking

-- the tiles after that of this place was asked for: it is the first, and the others keep their order
abbrev pub asked_for : TileKey → List KeptTile → List KeptTile
asked_for at es = option_map_or (λ e. e ∷ remove_entry (is_place at) es) (lookup_entry (is_place at) es) es

-- this tile first, in the place of the one that was kept for its place, and the others in their order
abbrev pub with_first : TileKey → TileView → List KeptTile → List KeptTile
with_first at t es = (at, t) ∷ remove_entry (is_place at) es

-- Of all these tiles those that were asked for last are kept, in their order. No more are dropped than the bounds need: with the next
-- one, those that are kept would be too many, or would have too many bytes.
pub record KeepsLatest (all new : List KeptTile) : Type 0 where
  pub dropped : List KeptTile
  pub order : all ≡ new ++ dropped
  pub needed : (next : KeptTile) (rest : List KeptTile) → dropped ≡ next ∷ rest
      → (MAX_CACHED_TILES ≤ length new) ⊎ (MAX_CACHED_BYTES < total_bytes new + length next.1.bytes)
