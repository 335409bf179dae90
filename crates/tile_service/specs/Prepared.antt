-- A service that has a publication in the making, as it was when its map was fixed.
use Rattle.std.specs.Prelude.{◌≡◌, ◌<◌, ◌-◌, ◌^◌, false, None, Some}
use Rattle.edit_journal.specs.Appends.{ring_of}
use Rattle.feature_store.specs.Store.{IsMap}
use Rattle.tile_service.specs.Service.{ServiceView, drafted_now}
use Rattle.tile_service.specs.Stored.{journal_ring}

-- nothing but the tiles, the space and memory prevents a publication of its map, which is a map, and its journal is in its disk's ring
pub record CanPrepare {D : Type 0} (service : ServiceView D) : Type 0 where
  pub unbroken : service.broken ≡ false
  pub none : service.publication ≡ None
  pub generation : service.generation < 2 ^ 64 - 1
  pub ring : ring_of service.journal ≡ journal_ring service.size
  pub is_map : IsMap service.features

-- the service with a publication of its map in the making
abbrev pub prepared : {D : Type 0} → ServiceView D → ServiceView D
prepared service = record service { drafting = Some (drafted_now service) }
