-- What contracts see of a publication and of a service.
use Rattle.tile_service.specs.Service.{PublicationView, ServiceView, drafted_by}
use Rattle.tile_service.specs.declared.publishing.Publication.TheInside.{Inside as PublicationInside}
use Rattle.tile_service.specs.declared.service.Service.TheInside.{Inside}

abbrev pub publication_view : PublicationInside → PublicationView
publication_view p = record { content = p.content; start = p.start; places = p.places; written = p.written }

module _ {D : Type 0} where
  abbrev pub service_view : Inside D → ServiceView D
  service_view s = record {
    disk = s.disk;
    size = s.layout.sectors;
    version = s.version;
    features = s.map.features;
    touched = s.map.touched;
    kept = s.map.kept;
    journal = s.journal;
    kept_journal = s.kept_journal;
    generation = s.root.generation;
    snapshot_len = s.root.snapshot_len;
    archive_len = s.root.archive_len;
    publication = s.publication;
    drafting = drafted_by s.moment s.draft;
    published = s.published;
    broken = s.broken;
  }
