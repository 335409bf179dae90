-- Tags of tiles: the number of the newest edit that can have touched a tile, and what a service knows of the maps that it had.
use Rattle.std.specs.Prelude.{◌≡◌, ◌≤◌, ℕ}
use Rattle.cached_map.specs.Cached.{WasMap}
use Rattle.feature_store.specs.Layers.{layers}
use Rattle.feature_store.specs.Store.{FeatureMap}
use Rattle.tile_cache.specs.Touched.{IsNewestOf}
use Rattle.tile_service.specs.Machine.{Happening, tile_number}
use Rattle.tile_service.specs.Service.{ServiceView}

module _ {D : Type 0} where
  -- the number of a tile: that of the newest edit that can have touched it
  abbrev pub HasNumber : ServiceView D → (z x y number : ℕ) → Type 0
  HasNumber service = IsNewestOf service.touched

  -- The map was `was` after the edit of number n, as far as the tiles show that no later edit can have touched.
  abbrev pub Knows : ServiceView D → (n : ℕ) → (was : FeatureMap) → Type 0
  Knows service = WasMap service.features service.touched service.journal.last

  -- each map that it knew is still known
  abbrev pub StillKnows : (old new : ServiceView D) → Type 0
  StillKnows old new = (n : ℕ) (was : FeatureMap) → Knows old n was → Knows new n was

  -- A service tells the number of a tile: the map of this moment is known, and no edit after it has that number.
  pub record TellsNumber (service : ServiceView D) (z x y number : ℕ) : Type 0 where
    pub is : HasNumber service z x y number
    pub most : number ≤ service.journal.last
    pub knows : Knows service service.journal.last service.features

  -- the same of what happens
  abbrev pub IsNumbered : ServiceView D → Happening → Type 0
  IsNumbered service (tile_number z x y number) = TellsNumber service z x y number
  IsNumbered service happening = Unit {0}

  -- where a tile has this number, its layers are those that it had then
  abbrev pub KeepsLayers : (z x y number : ℕ) → (then now : ServiceView D) → Type 0
  KeepsLayers z x y number then now = HasNumber now z x y number → layers now.features z x y ≡ layers then.features z x y
