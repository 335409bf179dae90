-- Records before those in use: a journal without its first ones, and with one more.
use Rattle.std.proofs.Common.{◌≡◌, ⊎_elim, ℕ, zero, suc, ◌≤◌, ◌<◌, ◌+◌, ◌-◌, ◌/◌, ◌%◌, ◌^◌, max, List, [], ◌∷◌, ◌++◌, length, length-append, length-drop, take, drop}
use Rattle.std.proofs.Common.{refl, sym, ◌∙◌, ap, subst, arith}
use Rattle.std.proofs.lemmas.Bool.{cases_lt}
use Rattle.std.proofs.lemmas.List.{drop-drop, drop-append-le}
use Rattle.std.proofs.Math.Nat.{mod-add-mod}
use Rattle.sector_disk.specs.Disk.{History, Image, seen}
use Rattle.edit_journal.specs.declared.journal.Journal.{Journal}
use Rattle.edit_journal.specs.declared.sizes.TheConstants.{FREED_PART, LAST_RECORD_VERSION}
use Rattle.edit_journal.specs.Records.{RecordData, IsRecordLength, most_bytes, parts_of, IsPart, number_from}
use Rattle.edit_journal.specs.Ring.{Ring, RecordStart, sector_at, IsInRing, start_behind, AreRecords, places_of, HoldsRecords}
use Rattle.edit_journal.specs.Appends.{ring_of, start_of, IsNew, ReadsBeside}
use Rattle.edit_journal.specs.Recovers.{PartsStand}
use Rattle.edit_journal.specs.Releases.{MayTake}
use Rattle.edit_journal.specs.Lists.{HasRecords}
use Rattle.edit_journal.specs.Kept.{GoesBack, HasOlder, IsFull}
use Rattle.edit_journal.proofs.Laws.{same_first_record}
use Rattle.edit_journal.proofs.Heads.{stands_push, places_push, records_push}
use Rattle.edit_journal.proofs.Places.{places_apart, in_ring, low_place}
use Rattle.edit_journal.proofs.ReadAgain.{number_at, moved_records, stands_on, has_on}
use Rattle.edit_journal.proofs.Recovers.{records_behind, part_of_first}
use Rattle.edit_journal.proofs.Releases.{one_behind, first_take, places_split, stands_round}

-- ---- without the first records

module _ (ring : Ring) (image : Image) where
  records_round : (place number : ℕ) (rs : List RecordData) → HoldsRecords ring (record { place = place; number = number }) rs image
      → HoldsRecords ring (record { place = place % ring.places; number = number }) rs image
  records_round place number rs holds = record {
    lengths = holds.lengths;
    room = holds.room;
    numbers = holds.numbers;
    stand = λ at. stands_round ring place (place % ring.places) number rs at (image at)
        (λ offset. ap (λ (n : ℕ). ring.first + n) (mod-add-mod place ring.places offset)) (holds.stand at);
  }

  records_drop : (rs : List RecordData) (count place number other later : ℕ) → count ≤ length rs → other ≡ place + places_of (take count rs)
      → later ≡ number + count → HoldsRecords ring (record { place = place; number = number }) rs image
      → HoldsRecords ring (record { place = other; number = later }) (drop count rs) image
  records_drop rs zero place number other later le other_is later_is holds =
      let same : place ≡ other = omega (arith, other_is) in
      let same_number : number ≡ later = omega (arith, later_is) in
      subst (λ (p : ℕ). HoldsRecords ring (record { place = p; number = later }) rs image) same
      (subst (λ (n : ℕ). HoldsRecords ring (record { place = place; number = n }) rs image) same_number holds)
  records_drop [] (suc count) place number other later le other_is later_is holds = absurd (omega (arith, le))
  records_drop (r ∷ rs) (suc count) place number other later le other_is later_is holds =
      records_drop rs count (place + parts_of (length r.text)) (suc number) other later (omega (arith, le)) (omega (arith, other_is))
      (omega (arith, later_is)) (records_behind ring image (record { place = place; number = number }) r rs holds)

-- a journal that begins behind the first records has the others
pub has_drop : (records : List RecordData) (count offset : ℕ) (old new : Journal) (history : History) → HasRecords records old history
    → ring_of new ≡ ring_of old → new.place ≡ (old.place + offset) % old.places → new.edits ≡ old.edits + count → new.used + offset ≡ old.used
    → new.last ≡ old.last → count ≤ length records → offset ≡ places_of (take count records) → HasRecords (drop count records) new history
has_drop records count offset old new history has ring place edits used last le offset_is =
    let start : start_of new.place new.edits ≡ start_of ((old.place + offset) % old.places) new.edits =
    ap (λ (p : ℕ). start_of p new.edits) place in
    record {
      reads = moved_records (ring_of old) (ring_of new) (start_of ((old.place + offset) % old.places) new.edits) (start_of new.place new.edits)
          (drop count records) (seen history) ring start
          (records_round (ring_of old) (seen history) (old.place + offset) (suc new.edits) (drop count records)
          (records_drop (ring_of old) (seen history) records count old.place (suc old.edits) (old.place + offset) (suc new.edits) le
          (omega (arith, offset_is)) (omega (arith, edits)) has.reads));
      uses = omega (arith, has.uses, places_split records count, offset_is, used);
      counts = omega (arith, last, edits, has.counts, length-drop count records, le);
    }

-- how many places lie before those in use
pub places_behind : (records : List RecordData) (kept journal : Journal) (history : History) → HasOlder records kept journal history
    → kept.used ≡ journal.used + places_of (take (journal.edits - kept.edits) records)
places_behind records kept journal history has =
    omega (arith, has.all.uses, has.in_use.uses, places_split records (journal.edits - kept.edits))

-- more records take no fewer places
places_rise : (rs : List RecordData) (count more : ℕ) → count ≤ more → places_of (take count rs) ≤ places_of (take more rs)
places_rise rs zero more le = omega arith
places_rise [] (suc count) more le = omega arith
places_rise (r ∷ rs) (suc count) zero le = absurd (omega (arith, le))
places_rise (r ∷ rs) (suc count) (suc more) le = omega (arith, places_rise rs count more (omega (arith, le)))

-- one record more takes no more places than a longest one
places_step : (rs : List RecordData) (count : ℕ) → AreRecords rs
    → places_of (take (suc count) rs) ≤ places_of (take count rs) + parts_of (most_bytes LAST_RECORD_VERSION)
places_step [] zero are = omega arith
places_step [] (suc count) are = omega arith
places_step (r ∷ rs) zero are = omega (arith, are.0.0, are.0.1, are.0.2)
places_step (r ∷ rs) (suc count) are = omega (arith, places_step rs count are.1)

-- The number in a place is that of the record that has the place: the record ends behind it, and no further than a longest one.
pub record_at : (records : List RecordData) (kept journal : Journal) (history : History) (offset found : ℕ) → HasOlder records kept journal history
    → GoesBack kept journal → offset < kept.used - journal.used
    → found ≡ number_from (seen history (sector_at (ring_of kept) (kept.place + offset)))
    → (kept.edits < found) × (found ≤ journal.edits) × (offset < places_of (take (found - kept.edits) records))
    × (places_of (take (found - kept.edits) records) ≤ offset + parts_of (most_bytes LAST_RECORD_VERSION))
    × (places_of (take (found - kept.edits) records) ≤ kept.used - journal.used)
record_at records kept journal history offset found has back lt is =
    let start : RecordStart = start_of kept.place kept.edits in
    let at = λ (count : ℕ). number_at (ring_of kept) (seen history) start records count offset has.all.reads (omega (arith, lt, has.all.uses)) in
    let behind = places_behind records kept journal history has in
    let above : kept.edits < found = omega (arith, is, (at 0).1, (at 0).3 (omega arith)) in
    let below : found ≤ journal.edits =
    omega (arith, is, (at (journal.edits - kept.edits)).1, (at (journal.edits - kept.edits)).2 (omega (arith, lt, behind)), back.edits) in
    let count : ℕ = found - kept.edits in
    let one : suc (found - kept.edits - 1) ≡ count = omega (arith, above) in
    let ends : offset < places_of (take count records) = ⊎_elim
    (λ (before : offset < places_of (take count records)). before)
    (λ (after : places_of (take count records) ≤ offset). absurd (omega (arith, is, (at count).1, (at count).3 after, above)))
    (cases_lt offset (places_of (take count records))) in
    let begins : places_of (take (count - 1) records) ≤ offset = ⊎_elim
    (λ (before : offset < places_of (take (count - 1) records)). absurd (omega (arith, is, (at (count - 1)).1, (at (count - 1)).2 before, above)))
    (λ (after : places_of (take (count - 1) records) ≤ offset). after)
    (cases_lt offset (places_of (take (count - 1) records))) in
    let step : places_of (take count records) ≤ places_of (take (count - 1) records) + parts_of (most_bytes LAST_RECORD_VERSION) =
    subst (λ (n : ℕ). places_of (take n records) ≤ places_of (take (count - 1) records) + parts_of (most_bytes LAST_RECORD_VERSION)) one
    (places_step records (count - 1) has.all.reads.lengths) in (
      above,
      below,
      ends,
      omega (arith, step, begins),
      omega (arith, behind, places_rise records count (journal.edits - kept.edits) (omega (arith, below))),
    )

-- without as many first records as have the places that were short, or a part of the ring, and the rest of a last one, it is full
pub full_left : (kept left : Journal) (need free most freed offset : ℕ) → ring_of left ≡ ring_of kept → left.used + offset ≡ kept.used
    → free ≡ kept.places - kept.used → free < need → most ≡ max (need - free) (kept.places / FREED_PART) → freed ≤ most
    → offset < freed + parts_of (most_bytes LAST_RECORD_VERSION) → IsFull left (left.used + need)
full_left kept left need free most freed offset ring used free_is short most_is le lt =
    let places : left.places ≡ kept.places = ap (λ (r : Ring). r.places) ring in
    omega (arith, places, used, free_is, short, most_is, le, lt, kept.room)

-- the first records go, but for those in use
pub older_drop : (records : List RecordData) (count : ℕ) (kept left journal : Journal) (history : History) → HasOlder records kept journal history
    → left.edits ≡ kept.edits + count → left.edits ≤ journal.edits → HasRecords (drop count records) left history
    → HasOlder (drop (left.edits - kept.edits) records) left journal history
older_drop records count kept left journal history has edits le has_left =
    let count_is : count ≡ left.edits - kept.edits = omega (arith, edits) in
    let rest : journal.edits - kept.edits ≡ left.edits - kept.edits + (journal.edits - left.edits) = omega (arith, edits, le) in
    record {
      all = subst (λ (n : ℕ). HasRecords (drop n records) left history) count_is has_left;
      in_use = subst (λ (rs : List RecordData). HasRecords rs journal history)
          (ap (λ (n : ℕ). drop n records) rest ∙ sym (drop-drop (journal.edits - left.edits) (left.edits - kept.edits) records)) has.in_use;
    }

-- ---- with one record more

-- a journal goes back to itself
goes_back_none : (journal : Journal) → (journal.place + 0) % journal.places ≡ journal.place → GoesBack journal journal
goes_back_none journal place =
    let none : journal.used - journal.used ≡ 0 = omega arith in
    record {
      ring = refl;
      last = refl;
      used = omega arith;
      edits = omega arith;
      place = sym (ap (λ (n : ℕ). (journal.place + n) % journal.places) none ∙ place);
    }

pub goes_back_self : (journal : Journal) → GoesBack journal journal
goes_back_self journal =
    goes_back_none journal (sym (low_place journal.places (journal.place + 0) journal.place (omega (arith, journal.begins)) (omega arith)))

-- where a read gives of the ring what it gave, a journal has the same records
pub has_in_ring : (records : List RecordData) (journal : Journal) (before after : History)
    → ((at : ℕ) → IsInRing (ring_of journal) at → seen after at ≡ seen before at) → HasRecords records journal before → HasRecords records journal after
has_in_ring records journal before after reads has = has_on records journal journal before after refl refl refl refl refl
    (λ offset lt. reads (sector_at (ring_of journal) (journal.place + offset))
    (in_ring (ring_of journal) (journal.place + offset) (omega (arith, journal.begins)))) has

-- the places behind those in use are those behind all
place_behind : (kept journal : Journal) → GoesBack kept journal → (part : ℕ)
    → sector_at (ring_of journal) (journal.place + (journal.used + part)) ≡ sector_at (ring_of kept) (kept.place + (kept.used + part))
place_behind kept journal back part =
    let places : journal.places ≡ kept.places = sym (ap (λ (g : Ring). g.places) back.ring) in
    let sum : kept.place + (kept.used - journal.used) + (journal.used + part) ≡ kept.place + (kept.used + part) = omega (arith, back.used) in
    ap (λ (g : Ring). sector_at g (journal.place + (journal.used + part))) (sym back.ring)
    ∙ ap (λ (n : ℕ). kept.first + n) (
    ap (λ (p : ℕ). (p + (journal.used + part)) % kept.places) back.place
    ∙ mod-add-mod (kept.place + (kept.used - journal.used)) kept.places (journal.used + part)
    ∙ ap (λ (n : ℕ). n % kept.places) sum
    )

-- writes behind them change no record
has_beside : (records : List RecordData) (kept journal : Journal) (parts : ℕ) (before after : History) → GoesBack kept journal
    → HasRecords records kept before → kept.used + parts ≤ kept.places
    → ReadsBeside (ring_of journal) journal.place journal.used parts (seen before) (seen after) → HasRecords records kept after
has_beside records kept journal parts before after back has room beside =
    has_on records kept kept before after refl refl refl refl refl (λ offset lt. beside (sector_at (ring_of kept) (kept.place + offset))
    (λ (new : IsNew (ring_of journal) journal.place journal.used parts (sector_at (ring_of kept) (kept.place + offset))).
    places_apart (ring_of kept) (kept.place + offset) (kept.place + (kept.used + new.0)) (omega (arith, kept.begins, lt, kept.room))
    (omega (arith, kept.begins, room, new.1)) (omega (arith, lt)) (omega (arith, room, new.1)) (λ e. omega (arith, e, lt))
    (new.2 ∙ place_behind kept journal back new.0))) has

module _ (records : List RecordData) (r : RecordData) (kept more journal : Journal) (before after : History) (back : GoesBack kept journal)
    (has : HasRecords records kept before) (fits : IsRecordLength r.version (length r.text))
    (room : kept.used + parts_of (length r.text) ≤ kept.places) (next : journal.last < 2 ^ 64 - 1)
    (same : (ring_of more ≡ ring_of kept) × (start_of more.place more.edits ≡ start_of kept.place kept.edits))
    (used : more.used ≡ kept.used + parts_of (length r.text)) (last : more.last ≡ kept.last + 1)
    (beside : ReadsBeside (ring_of journal) journal.place journal.used (parts_of (length r.text)) (seen before) (seen after))
    (stands : PartsStand (ring_of journal) journal.place journal.used (journal.last + 1) r (seen after)) where
  place_there : (part : ℕ) → sector_at (ring_of journal) (journal.place + (journal.used + part)) ≡ sector_at (ring_of kept) (kept.place + (kept.used + part))
  place_there = place_behind kept journal back

  old_there : (at offset : ℕ) → offset < places_of records → at ≡ sector_at (ring_of kept) (kept.place + offset) → seen after at ≡ seen before at
  old_there at offset lt is = beside at (λ (new : IsNew (ring_of journal) journal.place journal.used (parts_of (length r.text)) at).
      places_apart (ring_of kept) (kept.place + offset) (kept.place + (kept.used + new.0)) (omega (arith, kept.begins, lt, has.uses, kept.room))
      (omega (arith, kept.begins, room, new.1)) (omega (arith, lt, has.uses)) (omega (arith, room, new.1))
      (λ e. omega (arith, e, lt, has.uses)) (sym is ∙ new.2 ∙ place_there new.0))

  new_there : (at part : ℕ) → part < parts_of (length r.text) → at ≡ sector_at (ring_of kept) (kept.place + places_of records + part)
      → IsPart r.version (suc kept.edits + length records) r.text part (seen after at)
  new_there at part lt is =
      let sum : kept.place + places_of records + part ≡ kept.place + (kept.used + part) = omega (arith, has.uses) in
      let number : journal.last + 1 ≡ suc kept.edits + length records = omega (arith, has.counts, back.last) in
      subst (λ (n : ℕ). IsPart r.version n r.text part (seen after at)) number
      (subst (λ (x : ℕ). IsPart r.version (journal.last + 1) r.text part (seen after x))
      (place_there part ∙ sym (is ∙ ap (sector_at (ring_of kept)) sum)) (stands part lt))

  pub has_push : HasRecords (records ++ r ∷ []) more after
  has_push =
      let edits : suc more.edits ≡ suc kept.edits = ap (λ (s : RecordStart). s.number) same.1 in
      record {
        reads = moved_records (ring_of kept) (ring_of more) (start_of kept.place kept.edits) (start_of more.place more.edits) (records ++ r ∷ [])
            (seen after) same.0 same.1 (record {
              lengths = records_push records r has.reads.lengths fits;
              room = omega (arith, places_push records r, has.uses, room);
              numbers = omega (arith, length-append records (r ∷ []), has.counts, back.last, next);
              stand = λ at. stands_push (ring_of kept) (start_of kept.place kept.edits) records r at (seen after at)
                  (stands_on (ring_of kept) (start_of kept.place kept.edits) records at (seen before at) (seen after at)
                  (λ offset lt is. old_there at offset lt is) (has.reads.stand at))
                  (λ part lt is. new_there at part lt is);
            });
        uses = omega (arith, used, has.uses, places_push records r);
        counts = omega (arith, last, edits, has.counts, length-append records (r ∷ []));
      }

-- ---- journals that end together

-- without some first records, but none of those in use
pub back_left : (kept left journal : Journal) (offset : ℕ) → GoesBack kept journal → ring_of left ≡ ring_of kept → left.last ≡ kept.last
    → left.place ≡ (kept.place + offset) % kept.places → left.used + offset ≡ kept.used → offset + journal.used ≤ kept.used
    → left.edits ≤ journal.edits → GoesBack left journal
back_left kept left journal offset back ring last place used le edits =
    let places : left.places ≡ kept.places = ap (λ (g : Ring). g.places) ring in
    let sum : kept.place + (kept.used - journal.used) ≡ kept.place + offset + (left.used - journal.used) = omega (arith, used, le) in
    record {
      ring = ring ∙ back.ring;
      last = last ∙ back.last;
      used = omega (arith, used, le);
      edits = edits;
      place = back.place ∙ ap (λ (n : ℕ). n % kept.places) sum
          ∙ sym (mod-add-mod (kept.place + offset) kept.places (left.used - journal.used))
          ∙ ap (λ (p : ℕ). (p + (left.used - journal.used)) % kept.places) (sym place)
          ∙ ap (λ (n : ℕ). (left.place + (left.used - journal.used)) % n) (sym places);
    }

-- the records that were there and those in use have it
pub older_push : (records : List RecordData) (r : RecordData) (kept more journal new : Journal) (before after : History) → GoesBack kept journal
    → HasOlder records kept journal before → IsRecordLength r.version (length r.text) → kept.used + parts_of (length r.text) ≤ kept.places
    → journal.last < 2 ^ 64 - 1
    → (ring_of more ≡ ring_of kept) × (start_of more.place more.edits ≡ start_of kept.place kept.edits)
    → more.used ≡ kept.used + parts_of (length r.text) → more.last ≡ kept.last + 1
    → (ring_of new ≡ ring_of journal) × (start_of new.place new.edits ≡ start_of journal.place journal.edits)
    → new.used ≡ journal.used + parts_of (length r.text) → new.last ≡ journal.last + 1
    → ReadsBeside (ring_of journal) journal.place journal.used (parts_of (length r.text)) (seen before) (seen after)
    → PartsStand (ring_of journal) journal.place journal.used (journal.last + 1) r (seen after)
    → HasOlder (records ++ r ∷ []) more new after
older_push records r kept more journal new before after back has fits room next same used last same_too used_too last_too beside stands =
    let edits : suc more.edits ≡ suc kept.edits = ap (λ (s : RecordStart). s.number) same.1 in
    let edits_too : suc new.edits ≡ suc journal.edits = ap (λ (s : RecordStart). s.number) same_too.1 in
    let places : kept.places ≡ journal.places = ap (λ (g : Ring). g.places) back.ring in
    let count : journal.edits - kept.edits ≡ new.edits - more.edits = omega (arith, edits, edits_too) in
    record {
      all = has_push records r kept more journal before after back has.all fits room next same used last beside stands;
      in_use = subst (λ (rs : List RecordData). HasRecords rs new after)
          (sym (drop-append-le (journal.edits - kept.edits) records (r ∷ []) (omega (arith, has.all.counts, journal.counts, back.last)))
          ∙ ap (λ (n : ℕ). drop n (records ++ r ∷ [])) count)
          (has_push (drop (journal.edits - kept.edits) records) r journal new journal before after (goes_back_self journal) has.in_use fits
          (omega (arith, room, back.used, places)) next same_too used_too last_too beside stands);
    }

-- what is written of a record that isn't acknowledged changes none of them
pub older_beside : (records : List RecordData) (kept journal : Journal) (parts : ℕ) (before after : History) → GoesBack kept journal
    → HasOlder records kept journal before → kept.used + parts ≤ kept.places
    → ReadsBeside (ring_of journal) journal.place journal.used parts (seen before) (seen after) → HasOlder records kept journal after
older_beside records kept journal parts before after back has room beside =
    let places : kept.places ≡ journal.places = ap (λ (g : Ring). g.places) back.ring in
    record {
      all = has_beside records kept journal parts before after back has.all room beside;
      in_use = has_beside (drop (journal.edits - kept.edits) records) journal journal parts before after (goes_back_self journal) has.in_use
          (omega (arith, room, back.used, places)) beside;
    }

-- ---- a release

-- the first records in use are released: they stay among those of the journal that goes back
pub back_released : (kept journal new : Journal) (behind : ℕ) → GoesBack kept journal → ring_of new ≡ ring_of journal → new.last ≡ journal.last
    → journal.edits ≤ new.edits → new.used + behind ≡ journal.used → new.place ≡ (journal.place + behind) % journal.places → GoesBack kept new
back_released kept journal new behind back ring last edits used place =
    let places : journal.places ≡ kept.places = sym (ap (λ (r : Ring). r.places) back.ring) in
    let sum : kept.place + (kept.used - journal.used) + behind ≡ kept.place + (kept.used - new.used) = omega (arith, used, back.used) in
    record {
      ring = back.ring ∙ sym ring;
      last = back.last ∙ sym last;
      used = omega (arith, used, back.used);
      edits = omega (arith, edits, back.edits);
      place = place ∙ ap (λ (n : ℕ). (journal.place + behind) % n) places
          ∙ ap (λ (p : ℕ). (p + behind) % kept.places) back.place
          ∙ mod-add-mod (kept.place + (kept.used - journal.used)) kept.places behind
          ∙ ap (λ (n : ℕ). n % kept.places) sum;
    }

pub older_released : (kept journal new : Journal) (records : List RecordData) (count behind : ℕ) (history : History)
    → HasOlder records kept journal history → ring_of new ≡ ring_of journal → new.last ≡ journal.last → new.edits ≡ journal.edits + count
    → new.used + behind ≡ journal.used → MayTake (new.edits - journal.edits) behind → new.place ≡ (journal.place + behind) % journal.places
    → journal.edits + count ≤ journal.last
    → new.place ≡ (journal.place + places_of (take count (drop (journal.edits - kept.edits) records))) % journal.places
    → kept.edits ≤ journal.edits → HasOlder records kept new history
older_released kept journal new records count behind history has ring last edits used takes place le place_is below =
    let in_use : List RecordData = drop (journal.edits - kept.edits) records in
    let number : new.edits - journal.edits ≡ count = omega (arith, edits) in
    let fits : count ≤ length in_use = omega (arith, le, has.in_use.counts) in
    let same : behind ≡ places_of (take count in_use) = one_behind journal.places journal.place count behind (places_of (take count in_use))
    journal.begins (omega (arith, used, journal.room)) (omega (arith, places_split in_use count, has.in_use.uses, journal.room))
    (subst (λ (n : ℕ). MayTake n behind) number takes) (first_take in_use count has.in_use.reads.lengths fits) (sym place ∙ place_is) in
    let sum : journal.edits - kept.edits + count ≡ new.edits - kept.edits = omega (arith, edits, below) in
    record {
      all = has.all;
      in_use = subst (λ (rs : List RecordData). HasRecords rs new history)
          (drop-drop count (journal.edits - kept.edits) records ∙ ap (λ (n : ℕ). drop n records) sum)
          (has_drop in_use count behind journal new history has.in_use ring place edits used last fits same);
    }

-- ---- one list of records

-- a read gives one list of this length
one_list : (ring : Ring) (image : Image) (start : RecordStart) (rs others : List RecordData) → HoldsRecords ring start rs image
    → HoldsRecords ring start others image → length rs ≡ length others → rs ≡ others
one_list ring image start [] [] holds too same = refl
one_list ring image start [] (q ∷ others) holds too same = absurd (omega (arith, same))
one_list ring image start (r ∷ rs) [] holds too same = absurd (omega (arith, same))
one_list ring image start (r ∷ rs) (q ∷ others) holds too same =
    let first : r ≡ q = same_first_record start.number r q (λ part. image (sector_at ring (start.place + part))) holds.lengths.0 too.lengths.0
    (part_of_first ring image start r rs holds) (part_of_first ring image start q others too) in
    let behind : start_behind start q ≡ start_behind start r = ap (start_behind start) (sym first) in
    ap (λ (x : RecordData). x ∷ rs) first
    ∙ ap (λ (l : List RecordData). q ∷ l) (one_list ring image (start_behind start r) rs others (records_behind ring image start r rs holds)
    (subst (λ (s : RecordStart). HoldsRecords ring s others image) behind (records_behind ring image start q others too)) (omega (arith, same)))

-- a journal has one list of records
pub same_records : (rs others : List RecordData) (journal : Journal) (history : History) → HasRecords rs journal history
    → HasRecords others journal history → rs ≡ others
same_records rs others journal history has too = one_list (ring_of journal) (seen history) (start_of journal.place journal.edits) rs others has.reads
    too.reads (omega (arith, has.counts, too.counts))
