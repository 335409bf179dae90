-- The archive of a service, as its disk is read.
use Rattle.std.specs.Prelude.{Option, IfSome}
use Rattle.std.proofs.Common.{◌≡◌, inl, inr, ℕ, ◌≤◌, ◌+◌, ◌-◌, List, [], ◌++◌, length, take, slice_range, refl, sym, ap, ◌∙◌, subst, arith}
use Rattle.std.proofs.lemmas.List.{take_all}
use Rattle.sector_disk.specs.Disk.{History, seen}
use Rattle.sector_disk.proofs.Laws.{seen_is_left}
use Rattle.sector_bytes.specs.Bytes.{bytes_from, StandsIn}
use Rattle.sector_bytes.proofs.Laws.{stands_read}
use Rattle.generations.specs.Areas.{area_start, sectors_of}
use Rattle.sector_bytes.specs.Source.{AreItsBytes}
use Rattle.edit_journal.specs.Appends.{ring_of}
use Rattle.edit_journal.specs.Ring.{IsInRing}
use Rattle.area_content.specs.Tiles.{IsArchiveOfMap}
use Rattle.cached_map.specs.Cached.{WasMap, AreReadRight}
use Rattle.feature_store.specs.Layers.{layers}
use Rattle.feature_store.specs.Store.{FeatureMap, snapshot}
use Rattle.published_tiles.specs.Published.{PublishedView, ArePublished}
use Rattle.tile_cache.specs.Kept.{CacheView}
use Rattle.tile_service.specs.Service.{PublicationView, ServiceView, Publishes, IsUp, archive_of, shown_archive, ShowsArchive}
use Rattle.tile_service.specs.Stored.{Stored, IsMapArchive, Keeps}
use Rattle.tile_service.proofs.Disk.SectorBytes.{each_stands}
use Rattle.tile_service.proofs.Edits.ShownEdits.{shows_on}

-- What is read in the archive's place is of the archive that is stored there.
pub shown_is_read : (history : History) (place len : ℕ) (archive : List ℕ) → AreItsBytes place len archive (seen history)
    → (first at n : ℕ) (into : List ℕ) → first ≡ place → at + n ≤ len
    → into ≡ slice_range (bytes_from (seen history) first (sectors_of (at + n))) at (at + n) → into ≡ slice_range archive at (at + n)
shown_is_read history place len archive shows first at n into is within read =
    read ∙ stands_read (seen history) first at n archive (subst (λ (f : ℕ). StandsIn f archive (seen history)) (sym is) shows.stands)
    (omega (arith, within, shows.length_is))

-- The archive that a service shows is the one in the image that is seen.
pub shown_is_seen : {D : Type 0} (history : History) (service : ServiceView D) (archive : List ℕ) → ShowsArchive history service archive
    → shown_archive (seen history) service ≡ archive
shown_is_seen history service archive shows =
    let n : ℕ = service.archive_len in
    let first : ℕ = (archive_of service).first in
    let same : 0 + n ≡ n = omega arith in
    let size : 0 + n - 0 ≡ n = omega arith in
    let is = shown_is_read history first n archive shows first 0 n (slice_range (bytes_from (seen history) first (sectors_of (0 + n))) 0 (0 + n))
    refl (omega arith) refl in
    sym (λ i. take (size i) (bytes_from (seen history) first (sectors_of (same i)))) ∙ is
    ∙ ap (λ (k : ℕ). take k archive) size ∙ take_all n archive (omega (arith, shows.length_is))

module _ {D : Type 0} (count : ℕ) (history : History) (stored : Stored) (service : ServiceView D) (up : IsUp count history stored service) where
  archive_stands : (first : ℕ) → first ≡ area_start service.size service.generation + sectors_of service.snapshot_len
      → StandsIn first stored.archive (seen history)
  archive_stands first is = subst (λ (f : ℕ). StandsIn f stored.archive (seen history)) (sym begins) (each_stands (seen history) stored_at stored.archive
      (λ at. ((up.keeps (seen history) (seen_is_left history)).sectors at).archive_bytes))
    where
      stored_at : ℕ
      stored_at = area_start service.size stored.generation + sectors_of (length (snapshot stored.snapshot_map))

      begins : first ≡ stored_at
      begins = is ∙ (λ i. area_start service.size (up.generation_is i) + sectors_of (up.snapshot_len_is i))

  -- The service continues on a disk that keeps what is stored, with another publication of that, and whatever it caches.
  pub up_moved : (disk : D) (publication : Option PublicationView) (lookup : PublishedView) (kept : CacheView) (sectors : ℕ) (later : History)
      → Keeps sectors service.size stored later → IfSome publication (Publishes service.size stored later)
      → ArePublished lookup (archive_of service) stored.archive → AreReadRight service.features service.touched service.journal.last kept
      → ((at : ℕ) → IsInRing (ring_of service.journal) at → seen later at ≡ seen history at)
      → IsUp sectors later stored (record service { disk = disk; publication = publication; published = lookup; kept = kept })
  up_moved disk publication lookup kept sectors later keeps publishes archived reads same = record {
    keeps = keeps;
    unbroken = up.unbroken;
    version_is = up.version_is;
    generation_is = up.generation_is;
    snapshot_len_is = up.snapshot_len_is;
    archive_len_is = up.archive_len_is;
    map_is = up.map_is;
    place_is = up.place_is;
    edits_are = up.edits_are;
    used_is = up.used_is;
    ring_is = up.ring_is;
    last_is = up.last_is;
    publication = publishes;
    drafting = up.drafting;
    were = up.were;
    archived = archived;
    reads = reads;
    older = up.older;
    shows = shows_on service (record service { disk = disk; publication = publication; published = lookup; kept = kept }) history later
        (up.older ++ stored.since) refl refl refl same up.shows;
  }

  -- So it does if nothing was written.
  pub up_read : (disk : D) (lookup : PublishedView) (kept : CacheView) (sectors : ℕ) (later : History) → sectors ≡ count → later ≡ history
      → ArePublished lookup (archive_of service) stored.archive → AreReadRight service.features service.touched service.journal.last kept
      → IsUp sectors later stored (record service { disk = disk; published = lookup; kept = kept })
  up_read disk lookup kept sectors later same_count same_history archived reads = up_moved disk service.publication lookup kept sectors later
      (subst (λ (c : ℕ). Keeps c service.size stored later) (sym same_count)
      (subst (λ (h : History). Keeps count service.size stored h) (sym same_history) up.keeps))
      (subst (λ (h : History). IfSome service.publication (Publishes service.size stored h)) (sym same_history) up.publication) archived reads
      (λ at inside. ap (λ (h : History). seen h at) same_history)

  pub up_unwritten : (disk : D) (sectors : ℕ) (later : History) → sectors ≡ count → later ≡ history
      → IsUp sectors later stored (record service { disk = disk })
  up_unwritten disk sectors later same_count same_history =
      up_read disk service.published service.kept sectors later same_count same_history up.archived up.reads

  -- ---- tiles of the archive

  -- it is one of the tiles of the snapshot's map
  pub archive_of_map : (metadata : List ℕ) × IsArchiveOfMap stored.snapshot_map metadata stored.archive
  archive_of_map = tiles_are (up.keeps (seen history) (seen_is_left history)).is_archive
    where
      tiles_are : IsMapArchive stored.snapshot_map stored.archive → (metadata : List ℕ) × IsArchiveOfMap stored.snapshot_map metadata stored.archive
      tiles_are (inl none) = ([], inl none)
      tiles_are (inr archive) = (archive.0, archive.2)

  -- and is stored at its place
  pub archive_there : AreItsBytes (archive_of service).first (archive_of service).len stored.archive (seen history)
  archive_there = record { length_is = sym up.archive_len_is; stands = archive_stands (archive_of service).first refl }

  -- The seen image shows the archive that is stored.
  pub archive_is_shown : shown_archive (seen history) service ≡ stored.archive
  archive_is_shown = shown_is_seen history service stored.archive archive_there

  -- A tile that no edit since the snapshot can have touched is that of the snapshot's map.
  pub same_layers : (z x y newest edits : ℕ) → edits ≡ service.journal.edits → newest ≤ edits
      → ((n : ℕ) (was : FeatureMap) → WasMap service.features service.touched service.journal.last n was → newest ≤ n
      → layers service.features z x y ≡ layers was z x y)
      → layers service.features z x y ≡ layers stored.snapshot_map z x y
  same_layers z x y newest edits is older same = same (stored.edits + 0) stored.snapshot_map (up.were 0 (omega arith)) (omega (arith, is, older, up.edits_are))
