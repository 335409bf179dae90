-- A publication of the map of a service as it was, with its content.
use Rattle.std.specs.Prelude.{◌≡◌, ◌<◌, ◌≤◌, ◌+◌, ◌-◌, ◌%◌, ◌^◌, false, None}
use Rattle.generations.specs.Areas.{area_sectors}
use Rattle.edit_journal.specs.Appends.{ring_of}
use Rattle.area_content.specs.Content.{sectors_taken}
use Rattle.feature_store.specs.Store.{IsMap, snapshot}
use Rattle.tile_service.specs.Machine.{IsPublishable}
use Rattle.tile_service.specs.Service.{PublicationView, ServiceView}
use Rattle.tile_service.specs.Stored.{journal_ring}

-- The service could begin a publication then. The content is the snapshot of its map then and an archive that is built of it, and fits into
-- an area; where it continues in the journal, and how many places were in use, is as it was then. Nothing is written.
pub record IsBegunAt {D : Type 0} (then : ServiceView D) (p : PublicationView) : Type 0 where
  pub unbroken : then.broken ≡ false
  pub none : then.publication ≡ None
  pub generation : then.generation < 2 ^ 64 - 1
  pub ring : ring_of then.journal ≡ journal_ring then.size
  pub is_map : IsMap then.features
  pub is_archive : IsPublishable then.features p.content.archive
  pub text : p.content.snapshot ≡ snapshot then.features
  pub area : sectors_taken p.content ≤ area_sectors then.size
  pub place : p.start.place ≡ (then.journal.place + then.journal.used) % then.journal.places
  pub edits : p.start.edits ≡ then.journal.last
  pub places : p.places ≡ then.journal.used
  pub written : p.written ≡ 0
