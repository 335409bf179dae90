-- A journal without its first records, and laws of starts for the crates above.
use Rattle.std.proofs.Common.{◌≡◌, ⊎_elim, ℕ, zero, suc, ◌≤◌, ◌<◌, ◌+◌, ◌-◌, ◌%◌, List, [], ◌∷◌, length, take, drop}
use Rattle.std.proofs.Common.{refl, sym, ◌∙◌, ap, subst, arith, length-drop}
use Rattle.std.proofs.lemmas.List.{length-take}
use Rattle.std.proofs.Math.Nat.{mod-add-mod}
use Rattle.sector_disk.specs.Disk.{History, Image, seen}
use Rattle.sector_disk.proofs.History.{seen_may}
use Rattle.edit_journal.specs.declared.journal.Journal.{Journal}
use Rattle.edit_journal.specs.declared.journal.JournalPosition.{JournalPosition}
use Rattle.edit_journal.specs.Records.{RecordData, IsRecordLength, parts_of}
use Rattle.edit_journal.specs.Ring.{Ring, sector_at, AreRecords, places_of, StandsAt, HoldsOnly}
use Rattle.edit_journal.specs.Appends.{ring_of, start_of, Keeps}
use Rattle.edit_journal.specs.Releases.{MayTake, IsCounted, IsBehind}
use Rattle.edit_journal.proofs.Laws.{holds_behind}
use Rattle.edit_journal.proofs.Places.{wrap}

-- ---- how many places lie before a start

-- one count of places goes with the place and the count of records
pub one_behind : (n place records some other : ℕ) → place < n → some ≤ n → other ≤ n → MayTake records some → MayTake records other
    → (place + some) % n ≡ (place + other) % n → some ≡ other
one_behind n place records some other begins fits fits_too takes takes_too same = ⊎_elim
    (λ (a : (place + some < n) × ((place + some) % n ≡ place + some)). ⊎_elim
    (λ (b : (place + other < n) × ((place + other) % n ≡ place + other)). omega (arith, same, a.1, b.1))
    (λ (b : (n ≤ place + other) × ((place + other) % n ≡ place + other - n)). omega (arith, same, a.1, b.0, b.1, begins, fits_too, takes, takes_too))
    (wrap n (place + other) (omega (arith, begins, fits_too))))
    (λ (a : (n ≤ place + some) × ((place + some) % n ≡ place + some - n)). ⊎_elim
    (λ (b : (place + other < n) × ((place + other) % n ≡ place + other)). omega (arith, same, a.0, a.1, b.1, begins, fits, takes, takes_too))
    (λ (b : (n ≤ place + other) × ((place + other) % n ≡ place + other - n)). omega (arith, same, a.0, a.1, b.0, b.1))
    (wrap n (place + other) (omega (arith, begins, fits_too))))
    (wrap n (place + some) (omega (arith, begins, fits)))

-- ---- the records without the first

pub places_split : (rs : List RecordData) (count : ℕ) → places_of (take count rs) + places_of (drop count rs) ≡ places_of rs
places_split rs zero = omega arith
places_split [] (suc count) = omega arith
places_split (r ∷ rs) (suc count) = omega (arith, places_split rs count)

-- records take as many places as they may
pub records_take : (rs : List RecordData) → AreRecords rs → MayTake (length rs) (places_of rs)
records_take [] are = (omega arith, omega arith)
records_take (r ∷ rs) are =
    let rest = records_take rs are.1 in
    (omega (arith, are.0.0, are.0.1, are.0.2, rest.0), omega (arith, are.0.0, are.0.1, are.0.2, rest.1))

first_records : (rs : List RecordData) (count : ℕ) → AreRecords rs → AreRecords (take count rs)
first_records rs zero are = tt
first_records [] (suc count) are = tt
first_records (r ∷ rs) (suc count) are = (are.0, first_records rs count are.1)

pub first_take : (rs : List RecordData) (count : ℕ) → AreRecords rs → count ≤ length rs → MayTake count (places_of (take count rs))
first_take rs count are le =
    let len : length (take count rs) ≡ count = omega (arith, length-take count rs, le) in
    subst (λ (n : ℕ). MayTake n (places_of (take count rs))) len (records_take (take count rs) (first_records rs count are))

-- only the place in the ring counts
pub stands_round : (ring : Ring) (place other number : ℕ) (rs : List RecordData) (at : ℕ) (sector : List ℕ)
    → ((offset : ℕ) → sector_at ring (other + offset) ≡ sector_at ring (place + offset))
    → StandsAt ring (record { place = place; number = number }) rs at sector
    → StandsAt ring (record { place = other; number = number }) rs at sector
stands_round ring place other number [] at sector same stands = tt
stands_round ring place other number (r ∷ rs) at sector same stands = (
  λ part lt is. stands.0 part lt (is ∙ same part),
  stands_round ring (place + parts_of (length r.text)) (other + parts_of (length r.text)) (suc number) rs at sector (λ offset.
      let here : place + parts_of (length r.text) + offset ≡ place + (parts_of (length r.text) + offset) = omega arith in
      let there : other + parts_of (length r.text) + offset ≡ other + (parts_of (length r.text) + offset) = omega arith in
      ap (sector_at ring) there ∙ same (parts_of (length r.text) + offset) ∙ sym (ap (sector_at ring) here)) stands.1,
)

module _ (ring : Ring) (image : Image) where
  holds_round : (place number : ℕ) (rs : List RecordData) → HoldsOnly ring (record { place = place; number = number }) rs image
      → HoldsOnly ring (record { place = place % ring.places; number = number }) rs image
  holds_round place number rs holds = record {
    records = record {
      lengths = holds.records.lengths;
      room = holds.records.room;
      numbers = holds.records.numbers;
      stand = λ at. stands_round ring place (place % ring.places) number rs at (image at)
          (λ offset. ap (λ (n : ℕ). ring.first + n) (mod-add-mod place ring.places offset)) (holds.records.stand at);
    };
    last = holds.last;
  }

  holds_drop : (rs : List RecordData) (count place number other later : ℕ) → count ≤ length rs → other ≡ place + places_of (take count rs)
      → later ≡ number + count → HoldsOnly ring (record { place = place; number = number }) rs image
      → HoldsOnly ring (record { place = other; number = later }) (drop count rs) image
  holds_drop rs zero place number other later le other_is later_is holds =
      let same : place ≡ other = omega (arith, other_is) in
      let same_number : number ≡ later = omega (arith, later_is) in
      subst (λ (p : ℕ). HoldsOnly ring (record { place = p; number = later }) rs image) same
      (subst (λ (n : ℕ). HoldsOnly ring (record { place = place; number = n }) rs image) same_number holds)
  holds_drop [] (suc count) place number other later le other_is later_is holds = absurd (omega (arith, le))
  holds_drop (r ∷ rs) (suc count) place number other later le other_is later_is holds =
      holds_drop rs count (place + parts_of (length r.text)) (suc number) other later (omega (arith, le)) (omega (arith, other_is))
      (omega (arith, later_is)) (holds_behind ring image (record { place = place; number = number }) r rs holds)

-- the journal from a start on, with `count` records before it
module _ (ring : Ring) (place edits used last : ℕ) (rs : List RecordData) (history : History) (was : Keeps ring place edits used last rs history)
    (begins : place < ring.places) (room : used ≤ ring.places) where
  pub keeps_behind : (behind left other later count : ℕ) → left + behind ≡ used → MayTake (later - edits) behind
      → other ≡ (place + behind) % ring.places → count ≤ length rs → later ≡ edits + count
      → other ≡ (place + places_of (take count rs)) % ring.places → Keeps ring other later left last (drop count rs) history
  keeps_behind behind left other later count left_is takes is le number first_is =
      let are : AreRecords rs = (was.keeps (seen history) (λ at. seen_may history at)).records.lengths in
      let records : later - edits ≡ count = omega (arith, number) in
      let split = places_split rs count in
      let same : behind ≡ places_of (take count rs) = one_behind ring.places place count behind (places_of (take count rs)) begins
      (omega (arith, left_is, room)) (omega (arith, split, was.uses, room)) (subst (λ (n : ℕ). MayTake n behind) records takes)
      (first_take rs count are le) (sym is ∙ first_is) in
      record {
        keeps = λ image may. subst (λ (p : ℕ). HoldsOnly ring (start_of p later) (drop count rs) image) (sym first_is)
            (holds_round ring image (place + places_of (take count rs)) (suc later) (drop count rs)
            (holds_drop ring image rs count place (suc edits) (place + places_of (take count rs)) (suc later) le refl (omega (arith, number))
            (was.keeps image may)));
        uses = omega (arith, was.uses, split, same, left_is);
        counts = omega (arith, was.counts, number, length-drop count rs, le);
      }

-- ---- starts that `next` gave

module _ (old new : Journal) (ring : ring_of new ≡ ring_of old) (from : start_of new.place new.edits ≡ start_of old.place old.edits) where
  -- a start goes on to lie there while records are added
  later_is_behind : (start : JournalPosition) (behind : ℕ) → IsBehind old start behind → old.used ≤ new.used → old.last ≤ new.last
      → MayTake (new.last - old.last) (new.used - old.used) → IsBehind new start behind
  later_is_behind start behind was used last added =
      let places : new.places ≡ old.places = ap (λ (r : Ring). r.places) ring in
      let place : new.place ≡ old.place = ap (λ s. s.place) from in
      let number : suc new.edits ≡ suc old.edits = ap (λ s. s.number) from in
      record {
        place = was.place ∙ sym (ap (λ (p : ℕ). (p + behind) % new.places) place ∙ ap (λ (n : ℕ). (old.place + behind) % n) places);
        in_use = omega (arith, was.in_use, used);
        numbers = (omega (arith, was.numbers, number), omega (arith, was.numbers, last));
        before = (omega (arith, was.before, number), omega (arith, was.before, number));
        after = (omega (arith, was.after, was.numbers, was.in_use, used, last, added), omega (arith, was.after, was.numbers, was.in_use, used, last, added));
      }

  -- an append adds what it may
  module _ (bytes : ℕ) (version : ℕ) (fits : IsRecordLength version bytes) (used : new.used ≡ old.used + parts_of bytes) (last : new.last ≡ old.last + 1) where
    pub append_is_behind : (start : JournalPosition) (behind : ℕ) → IsBehind old start behind → IsBehind new start behind
    append_is_behind start behind was =
        later_is_behind start behind was (omega (arith, used)) (omega (arith, last)) (omega (arith, fits, used, last), omega (arith, fits, used, last))

    pub append_counted : IsCounted old → IsCounted new
    append_counted counted =
        let number : suc new.edits ≡ suc old.edits = ap (λ s. s.number) from in
        (omega (arith, fits, used, last, number, counted, old.counts), omega (arith, fits, used, last, number, counted, old.counts))
