use Rattle.std.proofs.Common.{◌≡◌, ℕ, List, ap, ◌∙◌, ◌+◌, ◌*◌, ◌<◌, subst, sym, length, arith, inl, inr, refl}
use Rattle.std.proofs.lemmas.List.{length-map}
use Rattle.edit_journal.specs.Ring.{Ring, RecordStart}
use Rattle.edit_journal.specs.Appends.{start_of}
use Rattle.edit_journal.specs.Recovers.{IsJournal}
use Rattle.edit_journal.specs.Records.{record_data, records_of}
use Rattle.generations.specs.Areas.{area_sectors}
use Rattle.sector_disk.specs.Disk.{seen}
use Rattle.sector_disk.specs.declared.disk.TheConstants.{SECTOR_BYTES}
use Rattle.cached_map.specs.Cached.{AreReadRight}
use Rattle.edit_text.specs.Recorded.{RecordedEdit}
use Rattle.feature_store.specs.Store.{FeatureMap, snapshot}
use Rattle.tile_service.specs.After.{after}
use Rattle.feature_store.specs.declared.limit.TheConstants.{TEXTS_END}
use Rattle.tile_service.specs.Replayed.{bytes_of}
use Rattle.tile_service.specs.Tiles.{WereMaps}
use Rattle.tile_service.proofs.Disk.Opened.{recovery_fault, text_fault, texts_short, replayed_short, recovery_counts, replay_counts}
use Rattle.generations.specs.Faults.{CountsDevice}
use Rattle.tile_service.proofs.opening.read_edits.Goals as goal

pub returns-in-Err-clause-fault : goal.returns-in-Err-clause-fault
returns-in-Err-clause-fault g c honest has =
    rw c.to_store_fault.ensures
    (recovery_fault c.args.layout.sectors c.args.version c.args.root (seen (g.D.Sectors.history c.args.disk.now)) c.args.store.features has c.in-Err.fault _ _
    c.in-Err.ensures.failed
    (λ records is journal. c.in-Err.ensures.damaged records honest is
    (subst (λ (places : ℕ). IsJournal c.args.version (record { first = 3; places = places }) (start_of c.args.root.journal_at c.args.root.edits) records
    (seen (g.D.Sectors.history c.args.disk.now))) (sym c.args.layout.journal_is) journal)))

pub replay-requires : goal.replay-requires
replay-requires g c = record {
  texts = subst (λ (m : FeatureMap). length (snapshot m) + bytes_of (records_of c.in-Ok.found.1.items) < TEXTS_END)
      (sym c.in-Ok-new.ensures.features)
      (texts_short c.args.layout.sectors c.in-Ok.found.0.used c.in-Ok.found.0.places (length (snapshot c.args.store.features))
      (records_of c.in-Ok.found.1.items) c.args.layout.size c.requires.texts
      c.in-Ok.found.0.room (ap (λ (r : Ring). r.places) c.in-Ok.ensures.same.0 ∙ c.args.layout.journal_is) c.in-Ok.ensures.used);
  numbers = omega (arith, c.in-Ok.ensures.last, c.in-Ok-new.ensures.last);
  now = c.in-Ok-new.ensures.now;
}

pub returns-in-Ok-replay-clause-texts : goal.returns-in-Ok-replay-clause-texts
returns-in-Ok-replay-clause-texts g c = replayed_short (records_of c.in-Ok.found.1.items) c.in-Ok-replay.ensures.made.edits c.args.store.features
    c.replay.new.map.features (SECTOR_BYTES * area_sectors c.args.layout.sectors) c.in-Ok.found.0.used c.in-Ok-replay.ensures.made.are_records c.requires.texts
    (c.in-Ok-replay.ensures.made.map_is ∙ ap (λ (m : FeatureMap). after m c.in-Ok-replay.ensures.made.edits) c.in-Ok-new.ensures.features) c.in-Ok.ensures.used

pub returns-in-Ok-replay-clause-found : goal.returns-in-Ok-replay-clause-found
returns-in-Ok-replay-clause-found g c honest has = record {
  snapshot_map = c.args.store.features;
  has_snapshot = has;
  records = records_of c.in-Ok.found.1.items;
  edits = c.in-Ok-replay.ensures.made.edits;
  are_records = subst (λ (places : ℕ). IsJournal c.args.version (record { first = 3; places = places }) (start_of c.args.root.journal_at c.args.root.edits)
      (records_of c.in-Ok.found.1.items) (seen (g.D.Sectors.history c.args.disk.now))) c.args.layout.journal_is (c.in-Ok.ensures.found honest);
  are_edits = c.in-Ok-replay.ensures.made.are_records;
  place_is = ap (λ (s : RecordStart). s.place) c.in-Ok.ensures.same.1;
  edits_are = omega (arith, ap (λ (s : RecordStart). s.number) c.in-Ok.ensures.same.1);
  used_is = c.in-Ok.ensures.used;
  last_is = omega (arith, c.in-Ok.ensures.last, length-map c.in-Ok.found.1.items record_data);
  map_is = c.in-Ok-replay.ensures.made.map_is ∙ ap (λ (m : FeatureMap). after m c.in-Ok-replay.ensures.made.edits) c.in-Ok-new.ensures.features;
  were = were;
}
  where
    edits : List RecordedEdit
    edits = c.in-Ok-replay.ensures.made.edits

    last : c.replay.new.map.last ≡ c.in-Ok.found.0.last
    last = omega (arith, c.in-Ok.ensures.last, c.in-Ok-replay.ensures.last, c.in-Ok-new.ensures.last)

    were : WereMaps c.replay.new.map.features c.replay.new.map.touched c.in-Ok.found.0.last c.args.root.edits c.args.store.features edits
    were = subst (λ (n : ℕ). WereMaps c.replay.new.map.features c.replay.new.map.touched n c.args.root.edits c.args.store.features edits) last
        (subst (λ (n : ℕ). WereMaps c.replay.new.map.features c.replay.new.map.touched c.replay.new.map.last n c.args.store.features edits)
        c.in-Ok-new.ensures.last
        (subst (λ (m : FeatureMap). WereMaps c.replay.new.map.features c.replay.new.map.touched c.replay.new.map.last c.in-Ok-new.map.last m edits)
        c.in-Ok-new.ensures.features c.in-Ok-replay.ensures.made.were))

pub returns-in-Err-replay-clause-fault : goal.returns-in-Err-replay-clause-fault
returns-in-Err-replay-clause-fault g c honest has =
    text_fault c.args.layout.sectors c.args.version c.args.root (seen (g.D.Sectors.history c.args.disk.now)) c.args.store.features has
    (records_of c.in-Ok.found.1.items) c.in-Err-replay.fault
    (subst (λ (places : ℕ). IsJournal c.args.version (record { first = 3; places = places }) (start_of c.args.root.journal_at c.args.root.edits)
    (records_of c.in-Ok.found.1.items) (seen (g.D.Sectors.history c.args.disk.now))) c.args.layout.journal_is (c.in-Ok.ensures.found honest))
    c.in-Err-replay.ensures.fault

pub returns-in-Ok-replay-clause-reads : goal.returns-in-Ok-replay-clause-reads
returns-in-Ok-replay-clause-reads g c =
    let map = c.replay.new.map in
    let last : map.last ≡ c.in-Ok.found.0.last =
    omega (arith, c.in-Ok.ensures.last, c.in-Ok-replay.ensures.last, c.in-Ok-new.ensures.last) in
    subst (λ (n : ℕ). AreReadRight map.features map.touched n map.kept) last (c.in-Ok-replay.ensures.reads c.in-Ok-new.ensures.reads)

pub recover-requires-clause-start : goal.recover-requires-clause-start
recover-requires-clause-start g c = omega (arith, c.requires.can.journal, c.args.layout.journal_is)

pub returns-in-Err-clause-disk : goal.returns-in-Err-clause-disk
returns-in-Err-clause-disk g c = c.recover.ensures.disk

pub returns-in-Err-new-clause-disk : goal.returns-in-Err-new-clause-disk
returns-in-Err-new-clause-disk g c = c.recover.ensures.disk

pub returns-in-Err-new-clause-failed : goal.returns-in-Err-new-clause-failed
returns-in-Err-new-clause-failed g c = c.in-Ok.ensures.failed

pub returns-in-Err-new-clause-fault : goal.returns-in-Err-new-clause-fault
returns-in-Err-new-clause-fault g c = λ honest has. inr (inl refl)

pub returns-in-Ok-replay-clause-disk : goal.returns-in-Ok-replay-clause-disk
returns-in-Ok-replay-clause-disk g c = c.recover.ensures.disk

pub returns-in-Ok-replay-clause-failed : goal.returns-in-Ok-replay-clause-failed
returns-in-Ok-replay-clause-failed g c = c.in-Ok.ensures.failed

pub returns-in-Ok-replay-clause-counted : goal.returns-in-Ok-replay-clause-counted
returns-in-Ok-replay-clause-counted g c = c.in-Ok.ensures.counted

pub returns-in-Ok-replay-clause-last : goal.returns-in-Ok-replay-clause-last
returns-in-Ok-replay-clause-last g c = omega (arith, c.in-Ok.ensures.last, c.in-Ok-replay.ensures.last, c.in-Ok-new.ensures.last)

pub returns-in-Err-replay-clause-disk : goal.returns-in-Err-replay-clause-disk
returns-in-Err-replay-clause-disk g c = c.recover.ensures.disk

pub same-store : goal.same-store
same-store g c = refl

pub returns-in-Ok-replay-clause-ring : goal.returns-in-Ok-replay-clause-ring
returns-in-Ok-replay-clause-ring g c =
    let ring : ℕ → Ring = λ places. record { first = 3; places = places } in
    c.in-Ok.ensures.same.0 ∙ ap ring c.args.layout.journal_is

pub recover-requires-clause-ring : goal.recover-requires-clause-ring
recover-requires-clause-ring g c = omega (arith, c.args.layout.fits, c.requires.within)

pub recover-requires-clause-small : goal.recover-requires-clause-small
recover-requires-clause-small g c = omega (arith, c.args.layout.fits, c.args.layout.size.1)

pub returns-in-Err-clause-failed : goal.returns-in-Err-clause-failed
returns-in-Err-clause-failed g c = subst (λ f. CountsDevice f (g.D.Sectors.faults c.args.disk.now) (g.D.Sectors.faults c.recover.new.disk))
    (sym c.to_store_fault.ensures) (recovery_counts c.in-Err.fault _ _ c.in-Err.ensures.failed)

pub returns-in-Err-replay-clause-failed : goal.returns-in-Err-replay-clause-failed
returns-in-Err-replay-clause-failed g c =
    replay_counts (records_of c.in-Ok.found.1.items) c.in-Err-replay.fault _ _ c.in-Err-replay.ensures.fault c.in-Ok.ensures.failed
