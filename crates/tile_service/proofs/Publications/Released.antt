-- The edits that a service shows after an installation: the records that it releases stay in the ring.
use Rattle.std.proofs.Common.{◌≡◌, ℕ, ◌≤◌, ◌+◌, ◌-◌, ◌%◌, List, ◌++◌, length, map, take, drop, sym, ◌∙◌, ap, arith}
use Rattle.std.proofs.lemmas.List.{drop-map}
use Rattle.sector_disk.specs.Disk.{History, seen}
use Rattle.edit_journal.specs.Appends.{ring_of}
use Rattle.edit_journal.specs.Kept.{GoesBack, HasOlder}
use Rattle.edit_journal.specs.Records.{RecordData}
use Rattle.edit_journal.specs.Ring.{Ring, IsInRing, places_of}
use Rattle.edit_journal.specs.declared.journal.JournalPosition.{JournalPosition}
use Rattle.edit_journal.proofs.Kept.{same_records}
use Rattle.edit_text.specs.Recorded.{RecordedEdit}
use Rattle.tile_service.specs.Service.{PublicationView, ServiceView, Publishes, ShowsEdits, IsUp, count_at, with_publication}
use Rattle.tile_service.specs.Stored.{Stored, record_for, stored_records}
use Rattle.tile_service.proofs.Edits.ShownEdits.{older_count, drop_older, shows_released}

module _ {D : Type 0} (sectors : ℕ) (old : History) (stored : Stored) (service : ServiceView D) (p : PublicationView)
    (up : IsUp sectors old stored (with_publication service p)) where
  going : Publishes service.size stored old p
  going = up.publication

  -- the records in use are those of the edits since
  in_use_are : (edits : List RecordedEdit) → ShowsEdits old service edits
      → drop (service.journal.edits - service.kept_journal.edits) (map record_for edits) ≡ stored_records stored
  in_use_are edits shows =
      let all : map record_for edits ≡ map record_for (up.older ++ stored.since) =
      same_records (map record_for edits) (map record_for (up.older ++ stored.since)) service.kept_journal old shows.records.all up.shows.records.all in
      let count : service.journal.edits - service.kept_journal.edits ≡ length up.older =
      omega (arith, up.edits_are, older_count sectors old stored (with_publication service p) up) in
      ap (drop (service.journal.edits - service.kept_journal.edits)) all
      ∙ ap (λ (n : ℕ). drop n (map record_for (up.older ++ stored.since))) count
      ∙ drop-map record_for (length up.older) (up.older ++ stored.since)
      ∙ ap (map record_for) (drop_older up.older stored.since)

  -- A service that has released those before the start shows the edits that it showed.
  pub shows_installed : (after : ServiceView D) (new : History) (start : JournalPosition) → start ≡ p.start
      → after.kept_journal ≡ service.kept_journal → ring_of after.journal ≡ ring_of service.journal → after.version ≡ service.version
      → GoesBack service.kept_journal after.journal → start.edits ≤ service.journal.last
      → ((records : List RecordData) (count : ℕ) → HasOlder records service.kept_journal service.journal old
      → service.journal.edits + count ≤ service.journal.last → start.edits ≡ service.journal.edits + count
      → start.place ≡ (service.journal.place + places_of (take count (drop (service.journal.edits - service.kept_journal.edits) records)))
      % service.journal.places → service.kept_journal.edits ≤ service.journal.edits → HasOlder records service.kept_journal after.journal old)
      → ((at : ℕ) → IsInRing (ring_of service.journal) at → seen new at ≡ seen old at)
      → (edits : List RecordedEdit) → ShowsEdits old service edits → ShowsEdits new after edits
  shows_installed after new start is kept ring version back le release reads edits shows =
      let count : ℕ = count_at stored p in
      let number : start.edits ≡ service.journal.edits + count =
      omega (arith, ap (λ (s : JournalPosition). s.edits) is, up.edits_are, going.later) in
      let place : start.place
      ≡ (service.journal.place + places_of (take count (drop (service.journal.edits - service.kept_journal.edits) (map record_for edits))))
      % service.journal.places = ap (λ (s : JournalPosition). s.place) is ∙ going.place_is
      ∙ sym (λ i. (up.place_is i + places_of (take count (in_use_are edits shows i))) % (ap (λ (r : Ring). r.places) up.ring_is) i) in
      shows_released service after old new edits kept ring version back
      (release (map record_for edits) count shows.records (omega (arith, number, le)) number place shows.back.edits) reads shows
