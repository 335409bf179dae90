-- The archive that a service shows, where a read gives of its sectors what it gave.
use Rattle.std.proofs.Common.{◌≡◌, ⊎_elim, ℕ, ◌<◌, ◌≤◌, ◌+◌, ◌-◌, suc, Bool, true, List, length, take, Option, Result, Ok, Err}
use Rattle.std.proofs.Common.{refl, sym, ap, ◌∙◌, subst, arith}
use Rattle.std.specs.Prelude.{IfOk, OnErr}
use Rattle.std.proofs.lemmas.Bool.{cases_lt}
use Rattle.std.proofs.lemmas.Nat.{mod_below}
use Rattle.sector_disk.specs.Disk.{Image, History, seen}
use Rattle.sector_bytes.specs.Bytes.{sector_piece}
use Rattle.sector_bytes.specs.Source.{AreItsBytes}
use Rattle.generations.specs.Areas.{journal_sectors, area_sectors, area_start, sectors_of}
use Rattle.edit_journal.specs.Appends.{ring_of, start_of, IsFree, ReadsAsBefore}
use Rattle.edit_journal.specs.Ring.{Ring, RecordStart, sector_at, IsInRing}
use Rattle.edit_journal.specs.declared.journal.Journal.{Journal}
use Rattle.generations.specs.declared.sizes.TheConstants.{JOURNAL_START}
use Rattle.published_tiles.specs.declared.place.ArchivePlace.{ArchivePlace}
use Rattle.tile_service.specs.Publishing.{IsInArea, IsBeside}
use Rattle.tile_service.specs.Service.{PublicationView, ServiceView, StaysInUse, KeepsArchive, KeepsArea, IsPlaceIn, HasArchive, archive_of}
use Rattle.tile_service.specs.Stored.{journal_ring}
use Rattle.tile_service.specs.Tiles.{archive_place}
use Rattle.tile_service.specs.declared.fault.ServiceFault.{ServiceFault}
use Rattle.tile_service.proofs.Publications.AfterWrites.{no_piece_behind, areas_apart}

-- a generation's area holds a snapshot and an archive of these lengths
module _ (n generation snapshot_len archive_len : ℕ) (fits : sectors_of snapshot_len + sectors_of archive_len ≤ area_sectors n) (archive : List ℕ)
    (old new : Image) where
  -- the archive is read after the snapshot
  abbrev pub IsRead : Image → Type 0
  IsRead image = AreItsBytes (area_start n generation + sectors_of snapshot_len) archive_len archive image

  piece_same : (index : ℕ) → archive_len ≡ length archive
      → ((at : ℕ) → area_start n generation ≤ at → at < area_start n generation + area_sectors n → new at ≡ old at)
      → take (length (sector_piece archive index)) (old (area_start n generation + sectors_of snapshot_len + index)) ≡ sector_piece archive index
      → take (length (sector_piece archive index)) (new (area_start n generation + sectors_of snapshot_len + index)) ≡ sector_piece archive index
  piece_same index len same is = ⊎_elim
      (λ (lt : index < sectors_of archive_len).
      ap (λ (sector : List ℕ). take (length (sector_piece archive index)) sector)
      (same (area_start n generation + sectors_of snapshot_len + index) (omega arith) (omega (arith, lt, fits))) ∙ is)
      (λ (past : sectors_of archive_len ≤ index).
      subst (λ (piece : List ℕ). take (length piece) (new (area_start n generation + sectors_of snapshot_len + index)) ≡ piece)
      (sym (no_piece_behind archive index (subst (λ (l : ℕ). sectors_of l ≤ index) len past))) refl)
      (cases_lt index (sectors_of archive_len))

  -- It stays where the area is read as before,
  pub area_shown : ((at : ℕ) → area_start n generation ≤ at → at < area_start n generation + area_sectors n → new at ≡ old at) → IsRead old → IsRead new
  area_shown same shown = record {
    length_is = shown.length_is;
    stands = λ index. piece_same index (sym shown.length_is) same (shown.stands index);
  }

  -- so after an append to the journal, done or failed,
  pub append_shown : (place used : ℕ) → ReadsAsBefore (journal_ring n) place used old new → IsRead old → IsRead new
  append_shown place used reads = area_shown (λ at from to. reads at (λ free. in_journal at from free))
    where
      in_journal : (at : ℕ) → area_start n generation ≤ at → IsFree (journal_ring n) place used at → ⊥
      in_journal at from free = omega (arith, from, free.3, mod_below (place + free.0) (journal_sectors n) (omega (arith, free.2)))

  -- after writes into the area of the next generation,
  pub beside_shown : IsBeside n (suc generation) old new → IsRead old → IsRead new
  beside_shown beside = area_shown (λ at from to. beside at (λ inside.
      areas_apart n generation at (at - area_start n generation) inside (omega (arith, from, to)) (omega (arith, from))))

  -- and after the write of a root.
  pub root_shown : (root : ℕ) → root < 3 → ((at : ℕ) → (at ≡ root → ⊥) → new at ≡ old at) → IsRead old → IsRead new
  root_shown root low others = area_shown (λ at from to. others at (λ is. omega (arith, from, is, low)))

-- ---- the area of any generation

-- An archive stays in its place where the area of its generation is read as before.
pub place_shown : (n : ℕ) (place : ArchivePlace) → IsPlaceIn n place → (archive : List ℕ) (old new : History)
    → ((at : ℕ) → IsInArea n place.generation at → seen new at ≡ seen old at) → HasArchive old place archive → HasArchive new place archive
place_shown n place inside archive old new same shown = record {
  length_is = shown.length_is;
  stands = λ index. ⊎_elim
      (λ (lt : index < sectors_of place.len).
      ap (λ (sector : List ℕ). take (length (sector_piece archive index)) sector)
      (same (place.first + index) (omega (arith, inside.from), omega (arith, lt, inside.to))) ∙ shown.stands index)
      (λ (past : sectors_of place.len ≤ index).
      subst (λ (piece : List ℕ). take (length piece) (seen new (place.first + index)) ≡ piece)
      (sym (no_piece_behind archive index (subst (λ (l : ℕ). sectors_of l ≤ index) (sym shown.length_is) past))) refl)
      (cases_lt index (sectors_of place.len));
}

module _ (n generation : ℕ) (old new : Image) where
  -- writes into the area of the next generation leave it,
  pub beside_area : (next : ℕ) → next ≡ suc generation → IsBeside n next old new → (at : ℕ) → IsInArea n generation at → new at ≡ old at
  beside_area next is beside at inside = beside at (λ other. areas_apart n generation at (at - area_start n generation)
      (subst (λ (g : ℕ). IsInArea n g at) is other) (omega (arith, inside.0, inside.1)) (omega (arith, inside.0)))

  -- so does an append to the journal, done or failed,
  pub append_area : (ring : Ring) → ring ≡ journal_ring n → (place used : ℕ) → ReadsAsBefore ring place used old new
      → (at : ℕ) → IsInArea n generation at → new at ≡ old at
  append_area ring ring_is place used reads at inside =
      subst (λ (r : Ring). ReadsAsBefore r place used old new) ring_is reads at in_journal
    where
      in_journal : IsFree (journal_ring n) place used at → ⊥
      in_journal free = omega (arith, inside.0, free.3, mod_below (place + free.0) (journal_sectors n) (omega (arith, free.2)))

  -- and the write of a root
  pub root_area : (root : ℕ) → root < 3 → ((at : ℕ) → (at ≡ root → ⊥) → new at ≡ old at) → (at : ℕ) → IsInArea n generation at → new at ≡ old at
  root_area root low others at inside = others at (λ is. omega (arith, inside.0, is, low))

-- ---- the places of the journal that are in use

pub same_stays : (old new : Journal) → new ≡ old → StaysInUse old new
same_stays old new same = record {
  ring = ap ring_of same;
  place = ap (λ (j : Journal). j.place) same;
  edits = ap (λ (j : Journal). j.edits) same;
  used = omega (arith, ap (λ (j : Journal). j.used) same);
}

pub more_stays : (old new : Journal) → ring_of new ≡ ring_of old → start_of new.place new.edits ≡ start_of old.place old.edits → old.used ≤ new.used
    → StaysInUse old new
more_stays old new ring start used = record {
  ring = ring;
  place = ap (λ (s : RecordStart). s.place) start;
  edits = omega (arith, ap (λ (s : RecordStart). s.number) start);
  used = used;
}

-- their sectors come after those of the roots, and before the areas
low_in_use : (n : ℕ) (journal : Journal) → ring_of journal ≡ journal_ring n → (offset : ℕ) → offset < journal.used
    → (JOURNAL_START ≤ sector_at (ring_of journal) (journal.place + offset))
    × (sector_at (ring_of journal) (journal.place + offset) < JOURNAL_START + journal_sectors n)
low_in_use n journal ring offset lt =
    let first : journal.first ≡ JOURNAL_START = ap (λ (r : Ring). r.first) ring in
    let places : journal.places ≡ journal_sectors n = ap (λ (r : Ring). r.places) ring in
    (omega (arith, first), omega (arith, first, places, mod_below (journal.place + offset) journal.places (omega (arith, lt, journal.room))))

-- The ring is read as before after writes into an area
pub ring_beside : (n next : ℕ) (ring : Ring) (old new : Image) → ring ≡ journal_ring n → IsBeside n next old new → (at : ℕ) → IsInRing ring at
    → new at ≡ old at
ring_beside n next ring old new is beside at inside =
    let first : ring.first ≡ JOURNAL_START = ap (λ (r : Ring). r.first) is in
    let places : ring.places ≡ journal_sectors n = ap (λ (r : Ring). r.places) is in
    beside at (λ area. omega (arith, first, places, inside.1, area.0))

-- and after the write of a root.
pub ring_root : (n root : ℕ) (ring : Ring) (old new : Image) → ring ≡ journal_ring n → root < 3 → ((at : ℕ) → (at ≡ root → ⊥) → new at ≡ old at)
    → (at : ℕ) → IsInRing ring at → new at ≡ old at
ring_root n root ring old new is low others at inside =
    let first : ring.first ≡ JOURNAL_START = ap (λ (r : Ring). r.first) is in
    others at (λ same. omega (arith, first, same, low, inside.0))

-- ---- of a service

module _ {D : Type 0} (honest : D → Type 0) (history : D → History) where
  -- writes into the area of the next generation leave what is shown
  pub beside_keeps : (old inside : ServiceView D) → old ≡ inside → (disk : D) (publication : Option PublicationView) (broken : Bool) (next : ℕ)
      → sectors_of inside.snapshot_len + sectors_of inside.archive_len ≤ area_sectors inside.size → next ≡ suc inside.generation
      → (honest disk → IsBeside inside.size next (seen (history inside.disk)) (seen (history disk)))
      → ring_of inside.journal ≡ journal_ring inside.size
      → KeepsArchive honest history old (record inside { disk = disk; publication = publication; broken = broken })
  beside_keeps old inside is disk publication broken next fits next_is beside ring =
      subst (λ (s : ServiceView D). KeepsArchive honest history s (record inside { disk = disk; publication = publication; broken = broken })) (sym is)
      (record {
        generation = refl;
        snapshot_len = refl;
        archive_len = refl;
        shows = λ archive shown is_honest. beside_shown inside.size inside.generation inside.snapshot_len inside.archive_len fits archive
            (seen (history inside.disk)) (seen (history disk))
            (subst (λ (g : ℕ). IsBeside inside.size g (seen (history inside.disk)) (seen (history disk))) next_is (beside is_honest)) shown;
        journal = record {
          stays = same_stays inside.journal inside.journal refl;
          reads = λ is_honest offset lt.
              let low = low_in_use inside.size inside.journal ring offset lt in
              beside is_honest (sector_at (ring_of inside.journal) (inside.journal.place + offset)) (λ area. omega (arith, low.1, area.0));
        };
      })

  -- so does the write of a root, done or failed,
  pub root_keeps : (inside : ServiceView D) (disk : D) (root : ℕ) → sectors_of inside.snapshot_len + sectors_of inside.archive_len ≤ area_sectors inside.size
      → root < 3 → (honest disk → (at : ℕ) → (at ≡ root → ⊥) → seen (history disk) at ≡ seen (history inside.disk) at)
      → ring_of inside.journal ≡ journal_ring inside.size
      → KeepsArchive honest history inside (record inside { disk = disk; broken = true })
  root_keeps inside disk root fits low others ring = record {
    generation = refl;
    snapshot_len = refl;
    archive_len = refl;
    shows = λ archive shown is_honest. root_shown inside.size inside.generation inside.snapshot_len inside.archive_len fits archive
        (seen (history inside.disk)) (seen (history disk)) root low (others is_honest) shown;
    journal = record {
      stays = same_stays inside.journal inside.journal refl;
      reads = λ is_honest offset lt.
          let behind = low_in_use inside.size inside.journal ring offset lt in
          others is_honest (sector_at (ring_of inside.journal) (inside.journal.place + offset)) (λ is. omega (arith, behind.0, is, low));
    };
  }

  -- a service whose publication is another shows the same,
  pub shows_the_same : (old : ServiceView D) (publication : Option PublicationView) → KeepsArchive honest history old (record old { publication = publication })
  shows_the_same old publication = record {
    generation = refl;
    snapshot_len = refl;
    archive_len = refl;
    shows = λ archive shown is_honest. shown;
    journal = record { stays = same_stays old.journal old.journal refl; reads = λ is_honest offset lt. refl };
  }

  -- and so does an append to the journal, done or failed
  pub append_keeps : (old new : ServiceView D) → new.size ≡ old.size → new.generation ≡ old.generation → new.snapshot_len ≡ old.snapshot_len
      → new.archive_len ≡ old.archive_len → sectors_of old.snapshot_len + sectors_of old.archive_len ≤ area_sectors old.size
      → (ring : Ring) → ring ≡ journal_ring old.size → (place used : ℕ) (disk : D) → new.disk ≡ disk
      → (honest disk → ReadsAsBefore ring place used (seen (history old.disk)) (seen (history disk)))
      → StaysInUse old.journal new.journal
      → (honest disk → (offset : ℕ) → offset < old.journal.used
      → seen (history disk) (sector_at (ring_of old.journal) (old.journal.place + offset))
      ≡ seen (history old.disk) (sector_at (ring_of old.journal) (old.journal.place + offset)))
      → KeepsArchive honest history old new
  append_keeps old new size generation snapshot_len archive_len fits ring ring_is place used disk disk_is reads stays in_use = record {
    generation = generation;
    snapshot_len = snapshot_len;
    archive_len = archive_len;
    shows = λ archive shown is_honest.
        subst (λ (p : ArchivePlace). AreItsBytes p.first p.len archive (seen (history new.disk))) (sym same_place)
        (append_shown old.size old.generation old.snapshot_len old.archive_len fits archive (seen (history old.disk)) (seen (history new.disk)) place used
        (subst (λ (d : D). ReadsAsBefore (journal_ring old.size) place used (seen (history old.disk)) (seen (history d))) (sym disk_is)
        (subst (λ (r : Ring). ReadsAsBefore r place used (seen (history old.disk)) (seen (history disk))) ring_is
        (reads (subst honest disk_is is_honest)))) shown);
    journal = record {
      stays = stays;
      reads = λ is_honest offset lt.
          subst (λ (d : D). seen (history d) (sector_at (ring_of old.journal) (old.journal.place + offset))
          ≡ seen (history old.disk) (sector_at (ring_of old.journal) (old.journal.place + offset))) (sym disk_is)
          (in_use (subst honest disk_is is_honest) offset lt);
    };
  }
    where
      same_place : archive_of new ≡ archive_of old
      same_place = λ i. archive_place (size i) (generation i) (snapshot_len i) (archive_len i)

  -- the area of a generation that stays from one service to another, and to a third
  pub area_on : (generation : ℕ) (old middle new : ServiceView D) → middle.size ≡ old.size → KeepsArea honest history generation old middle
      → (honest new.disk → honest middle.disk) → KeepsArea honest history generation middle new → KeepsArea honest history generation old new
  area_on generation old middle new size first stays second is_honest at inside =
      second is_honest at (subst (λ (n : ℕ). IsInArea n generation at) (sym size) inside) ∙ first (stays is_honest) at inside

  -- with it stays the archive in a place there
  pub place_on : (place : ArchivePlace) (old new : ServiceView D) → IsPlaceIn old.size place → KeepsArea honest history place.generation old new
      → (archive : List ℕ) → HasArchive (history old.disk) place archive → honest new.disk → HasArchive (history new.disk) place archive
  place_on place old new inside keeps archive has is_honest =
      place_shown old.size place inside archive (history old.disk) (history new.disk) (keeps is_honest) has

  -- what stays shown from one service to another, and to a third
  pub keeps_on : (old middle new : ServiceView D) → KeepsArchive honest history old middle → (honest new.disk → honest middle.disk)
      → KeepsArchive honest history middle new → KeepsArchive honest history old new
  keeps_on old middle new first stays second = record {
    generation = second.generation ∙ first.generation;
    snapshot_len = second.snapshot_len ∙ first.snapshot_len;
    archive_len = second.archive_len ∙ first.archive_len;
    shows = λ archive shown is_honest. second.shows archive (first.shows archive shown (stays is_honest)) is_honest;
    journal = record {
      stays = record {
        ring = second.journal.stays.ring ∙ first.journal.stays.ring;
        place = second.journal.stays.place ∙ first.journal.stays.place;
        edits = second.journal.stays.edits ∙ first.journal.stays.edits;
        used = omega (arith, first.journal.stays.used, second.journal.stays.used);
      };
      reads = λ is_honest offset lt.
          subst (λ (r : Ring). seen (history new.disk) (sector_at r (old.journal.place + offset))
          ≡ seen (history middle.disk) (sector_at r (old.journal.place + offset))) first.journal.stays.ring
          (subst (λ (p : ℕ). seen (history new.disk) (sector_at (ring_of middle.journal) (p + offset))
          ≡ seen (history middle.disk) (sector_at (ring_of middle.journal) (p + offset))) first.journal.stays.place
          (second.journal.reads is_honest offset (omega (arith, lt, first.journal.stays.used))))
          ∙ first.journal.reads (stays is_honest) offset lt;
    };
  }

  -- an installation that fails leaves it, after such writes too
  pub install_keeps : (old middle new : ServiceView D) (result : Result ℕ ServiceFault) → KeepsArchive honest history old middle
      → (honest new.disk → honest middle.disk) → IfOk result (λ told. told ≡ 0) → OnErr result (KeepsArchive honest history middle new)
      → (result ≡ Ok 0 → ⊥) → KeepsArchive honest history old new
  install_keeps old middle new (Ok told) first stays done second other = absurd (other (ap (λ (n : ℕ). Ok n) done))
  install_keeps old middle new (Err fault) first stays done second other = keeps_on old middle new first stays second
