-- Records that are read again: where they begin, and which they are.
use Rattle.std.proofs.Common.{◌≡◌, ◌↔◌, ⊎_elim, ℕ, zero, suc, ◌<◌, ◌≤◌, ◌+◌, ◌-◌, ◌^◌, List, [], ◌∷◌, ◌++◌, length, take, drop, append_assoc}
use Rattle.std.proofs.Common.{refl, sym, ◌∙◌, ap, subst, arith}
use Rattle.std.specs.Prelude.{IsTrue, nat_lt}
use Rattle.std.proofs.lemmas.Bool.{cases_lt}
use Rattle.std.proofs.lemmas.Bool.Decides.{nat_tests}
use Rattle.std.proofs.lemmas.List.{append-nil, take-append-drop, length-take-le}
use Rattle.sector_disk.specs.Disk.{History, Image, seen}
use Rattle.edit_journal.specs.declared.journal.Journal.{Journal}
use Rattle.edit_journal.specs.Records.{RecordData, IsRecordLength, AreUpTo, parts_of, IsPart, number_from}
use Rattle.edit_journal.specs.Ring.{Ring, RecordStart, sector_at, start_behind, places_of, HoldsRecords, StandsAt}
use Rattle.edit_journal.specs.Appends.{ring_of, start_of, IsFree}
use Rattle.edit_journal.specs.Recovers.{EndsAt, PartsStand, IsNext, IsDamaged}
use Rattle.edit_journal.specs.Lists.{HasRecords, first_bytes}
use Rattle.edit_journal.proofs.Fronts.{number_there}
use Rattle.edit_journal.proofs.Laws.{same_first_record}
use Rattle.edit_journal.proofs.Places.{places_apart}
use Rattle.edit_journal.proofs.Releases.{places_split}
use Rattle.edit_journal.proofs.Recovers.{next_behind, number_behind, next_goes_on, version_behind, records_behind, part_of_first}

-- ---- what a read gives of the records in use

-- ---- the number in each place of the records

module _ (ring : Ring) (image : Image) where
  -- a place of the first record has its number
  number_of_first : (start : RecordStart) (r : RecordData) (rs : List RecordData) (offset : ℕ) → HoldsRecords ring start (r ∷ rs) image
      → offset < parts_of (length r.text) → number_from (image (sector_at ring (start.place + offset))) ≡ start.number
  number_of_first start r rs offset holds lt =
      let part : IsPart r.version start.number r.text offset (image (sector_at ring (start.place + offset))) =
      part_of_first ring image start r rs holds offset lt in
      number_there r.version start.number (length r.text) offset (image (sector_at ring (start.place + offset))) part.front (omega (arith, holds.numbers))

  -- the same place, counted from the record after the first
  moved_on : (start : RecordStart) (r : RecordData) (offset number : ℕ) → parts_of (length r.text) ≤ offset
      → number_from (image (sector_at ring ((start_behind start r).place + (offset - parts_of (length r.text))))) ≡ number
      → number_from (image (sector_at ring (start.place + offset))) ≡ number
  moved_on start r offset number le is =
      let place : start.place + parts_of (length r.text) + (offset - parts_of (length r.text)) ≡ start.place + offset = omega (arith, le) in
      subst (λ (p : ℕ). number_from (image (sector_at ring p)) ≡ number) place is

  -- the number of each place is that of a record
  pub number_at : (start : RecordStart) (rs : List RecordData) (count offset : ℕ) → HoldsRecords ring start rs image → offset < places_of rs
      → (n : ℕ) × (number_from (image (sector_at ring (start.place + offset))) ≡ n)
      × (offset < places_of (take count rs) → n < start.number + count) × (places_of (take count rs) ≤ offset → start.number + count ≤ n)
  number_at start [] count offset holds lt = absurd (omega (arith, lt))
  number_at start (r ∷ rs) zero offset holds lt = ⊎_elim
      (λ (low : offset < parts_of (length r.text)).
      (start.number, number_of_first start r rs offset holds low, (λ below. absurd (omega (arith, below))), (λ le. omega arith)))
      (λ (high : parts_of (length r.text) ≤ offset).
      let rest = number_at (start_behind start r) rs zero (offset - parts_of (length r.text)) (records_behind ring image start r rs holds)
      (omega (arith, lt, high)) in
      (rest.0, moved_on start r offset rest.0 high rest.1, (λ below. absurd (omega (arith, below))), (λ le. omega (arith, rest.3 (omega arith)))))
      (cases_lt offset (parts_of (length r.text)))
  number_at start (r ∷ rs) (suc count) offset holds lt = ⊎_elim
      (λ (low : offset < parts_of (length r.text)).
      (start.number, number_of_first start r rs offset holds low, (λ below. omega arith), (λ le. absurd (omega (arith, le, low)))))
      (λ (high : parts_of (length r.text) ≤ offset).
      let rest = number_at (start_behind start r) rs count (offset - parts_of (length r.text)) (records_behind ring image start r rs holds)
      (omega (arith, lt, high)) in (
        rest.0,
        moved_on start r offset rest.0 high rest.1,
        (λ below. omega (arith, rest.2 (omega (arith, below, high)))),
        (λ le. omega (arith, rest.3 (omega (arith, le, high)))),
      ))
      (cases_lt offset (parts_of (length r.text)))

  -- so whether the number there is below that of a record says whether the place is before it
  pub before_by_number : (start : RecordStart) (rs : List RecordData) (count offset found number : ℕ) → HoldsRecords ring start rs image
      → offset < places_of rs → number ≡ start.number + count → found ≡ number_from (image (sector_at ring (start.place + offset)))
      → IsTrue (nat_lt found number) ↔ offset < places_of (take count rs)
  before_by_number start rs count offset found number holds lt number_is found_is =
      let at = number_at start rs count offset holds lt in
      let same : found ≡ at.0 = found_is ∙ at.1 in (
        λ is.
            let below : found < number = grind (arith, nat_tests) in
            ⊎_elim
            (λ (before : offset < places_of (take count rs)). before)
            (λ (behind : places_of (take count rs) ≤ offset). absurd (omega (arith, at.3 behind, same, below, number_is)))
            (cases_lt offset (places_of (take count rs))),
        λ before.
            let below : found < number = omega (arith, at.2 before, same, number_is) in
            grind (arith, nat_tests),
      )

-- ---- the record at an index

-- it is the first of those from there on
pub from_index : (rs : List RecordData) (count : ℕ) → count < length rs → (r : RecordData) × (drop count rs ≡ r ∷ drop (suc count) rs)
from_index [] count lt = absurd (omega (arith, lt))
from_index (r ∷ rs) zero lt = (r, refl)
from_index (r ∷ rs) (suc count) lt = from_index rs count (omega (arith, lt))

abbrev first_parts : List RecordData → ℕ
first_parts [] = 0
first_parts (r ∷ rs) = parts_of (length r.text)

-- the records up to it take its places too
pub places_more : (rs : List RecordData) (count : ℕ) (r : RecordData) (rest : List RecordData) → drop count rs ≡ r ∷ rest
    → places_of (take (suc count) rs) ≡ places_of (take count rs) + parts_of (length r.text)
places_more [] zero r rest is = absurd (omega (arith, ap length is))
places_more [] (suc count) r rest is = absurd (omega (arith, ap length is))
places_more (first ∷ rs) zero r rest is =
    let same : parts_of (length first.text) ≡ parts_of (length r.text) = ap first_parts is in
    omega (arith, same)
places_more (first ∷ rs) (suc count) r rest is = omega (arith, places_more rs count r rest is)

module _ (ring : Ring) (image : Image) (start : RecordStart) (rs : List RecordData) (holds : HoldsRecords ring start rs image) (count : ℕ)
    (lt : count < length rs) where
  split : (r : RecordData) → drop count rs ≡ r ∷ drop (suc count) rs → rs ≡ take count rs ++ r ∷ drop (suc count) rs
  split r is = sym (take-append-drop count rs) ∙ ap (λ (rest : List RecordData). take count rs ++ rest) is

  before_it : length (take count rs) ≡ count
  before_it = length-take-le count rs (omega (arith, lt))

  -- the record that is stored behind the others is that one
  pub next_there : (r : RecordData) → drop count rs ≡ r ∷ drop (suc count) rs → (used number : ℕ) → used ≡ places_of (take count rs)
      → number ≡ start.number + count → IsNext ring start.place used number r image × (number < 2 ^ 64)
  next_there r is used number used_is number_is =
      let whole : HoldsRecords ring start (take count rs ++ r ∷ drop (suc count) rs) image =
      subst (λ (all : List RecordData). HoldsRecords ring start all image) (split r is) holds in
      let here : start.number + length (take count rs) ≡ number = omega (arith, before_it, number_is) in (
        subst (λ (n : ℕ). IsNext ring start.place used n r image) here
            (subst (λ (u : ℕ). IsNext ring start.place u (start.number + length (take count rs)) r image) (sym used_is)
            (next_behind ring image start (take count rs) r (drop (suc count) rs) whole)),
        omega (arith, number_behind ring image start (take count rs) r (drop (suc count) rs) whole, here),
      )

  module _ (used number : ℕ) (used_is : used ≡ places_of (take count rs)) (number_is : number ≡ start.number + count) where
    -- what is read there is it
    pub same_there : (q : RecordData) → IsRecordLength q.version (length q.text) → PartsStand ring start.place used number q image
        → drop count rs ≡ q ∷ drop (count + 1) rs
    same_there q fits stands =
        let found = from_index rs count lt in
        let next = (next_there found.0 found.1 used number used_is number_is).0 in
        let same : found.0 ≡ q = same_first_record number found.0 q (λ part. image (sector_at ring (start.place + (used + part))))
        next.length_is fits next.stands stands in
        let one : suc count ≡ count + 1 = omega arith in
        found.1 ∙ ap (λ (r : RecordData). r ∷ drop (suc count) rs) same ∙ ap (λ (n : ℕ). q ∷ drop n rs) one

    module _ (most : ℕ) (allowed : AreUpTo most rs) where
      -- the journal doesn't end there
      pub no_end_there : EndsAt most ring start.place used number image → ⊥
      no_end_there =
          let found = from_index rs count lt in
          let next = next_there found.0 found.1 used number used_is number_is in
          next_goes_on ring image most start.place used number found.0 next.0 next.1
          (version_behind ring image most (take count rs) found.0 (drop (suc count) rs) (subst (AreUpTo most) (split found.0 found.1) allowed))

      -- and isn't damaged there
      pub no_damage_there : IsDamaged most ring start.place used number image → ⊥
      no_damage_there damaged =
          let found = from_index rs count lt in
          damaged.none found.0 (next_there found.0 found.1 used number used_is number_is).0

-- ---- the first records, by their bytes

first_none : (room : ℕ) (rs : List RecordData) → room ≡ 0 → first_bytes room rs ≡ []
first_none zero [] is = refl
first_none zero (r ∷ rs) is = refl
first_none (suc room) rs is = absurd (omega (arith, is))

first_some : (room : ℕ) (q : RecordData) (rest rs : List RecordData) → rs ≡ q ∷ rest → 0 < room
    → first_bytes room rs ≡ q ∷ first_bytes (room - length q.text) rest
first_some zero q rest rs is some = absurd (omega (arith, some))
first_some (suc room) q rest rs is some = ap (first_bytes (suc room)) is

-- nothing more is read once there is no room,
pub first_full : (room : ℕ) (found rs all : List RecordData) → room ≡ 0 → found ++ first_bytes room rs ≡ all → found ≡ all
first_full room found rs all full so_far =
    sym (append-nil found) ∙ ap (λ (rest : List RecordData). found ++ rest) (sym (first_none room rs full)) ∙ so_far

-- one more record is read
pub first_next : (room left : ℕ) (found more rs rest all : List RecordData) (q : RecordData) → (room ≡ 0 → ⊥) → left ≡ room - length q.text
    → more ≡ found ++ q ∷ [] → rs ≡ q ∷ rest → found ++ first_bytes room rs ≡ all → more ++ first_bytes left rest ≡ all
first_next room left found more rs rest all q some left_is more_is is so_far =
    ap (λ (xs : List RecordData). xs ++ first_bytes left rest) more_is
    ∙ append_assoc found (q ∷ []) (first_bytes left rest)
    ∙ ap (λ (n : ℕ). found ++ q ∷ first_bytes n rest) left_is
    ∙ ap (λ (xs : List RecordData). found ++ xs) (sym (first_some room q rest rs is (omega (arith, some))))
    ∙ so_far

-- ---- a journal up to one of its records

-- the places of the records up to one are no more than all
pub places_up_to : (rs : List RecordData) (count : ℕ) → places_of (take count rs) ≤ places_of rs
places_up_to rs count = omega (arith, places_split rs count)

-- the records that a journal has, for the same journal up to one of them
pub moved_records : (ring other : Ring) (start behind : RecordStart) (rs : List RecordData) (image : Image) → other ≡ ring → behind ≡ start
    → HoldsRecords ring start rs image → HoldsRecords other behind rs image
moved_records ring other start behind rs image same_ring same_start holds =
    subst (λ (r : Ring). HoldsRecords r behind rs image) (sym same_ring)
    (subst (λ (s : RecordStart). HoldsRecords ring s rs image) (sym same_start) holds)

-- ---- the places in use stay as they are

-- a place in use isn't free
pub in_use_taken : (journal : Journal) (offset : ℕ) → offset < journal.used
    → IsFree (ring_of journal) journal.place journal.used (sector_at (ring_of journal) (journal.place + offset)) → ⊥
in_use_taken journal offset lt free =
    places_apart (ring_of journal) (journal.place + offset) (journal.place + free.0) (omega (arith, lt, journal.begins, journal.room))
    (omega (arith, free.2, journal.begins)) (omega (arith, lt, journal.room)) (omega (arith, free.2)) (λ same. omega (arith, same, lt, free.1)) free.3

-- a sector says of the records what it said where it is unchanged, if it is one of theirs
pub stands_on : (ring : Ring) (start : RecordStart) (rs : List RecordData) (at : ℕ) (old new : List ℕ)
    → ((offset : ℕ) → offset < places_of rs → at ≡ sector_at ring (start.place + offset) → new ≡ old)
    → StandsAt ring start rs at old → StandsAt ring start rs at new
stands_on ring start [] at old new same stands = tt
stands_on ring start (r ∷ rs) at old new same stands = (
  λ part lt is. subst (λ (sector : List ℕ). IsPart r.version start.number r.text part sector) (sym (same part (omega (arith, lt)) is)) (stands.0 part lt is),
  stands_on ring (start_behind start r) rs at old new (λ offset lt is.
      let place : start.place + parts_of (length r.text) + offset ≡ start.place + (parts_of (length r.text) + offset) = omega arith in
      same (parts_of (length r.text) + offset) (omega (arith, lt)) (is ∙ ap (sector_at ring) place)) stands.1,
)

-- a journal with the same places in use, read as before, has the same records
pub has_on : (records : List RecordData) (old new : Journal) (before after : History) → ring_of new ≡ ring_of old → new.place ≡ old.place
    → new.edits ≡ old.edits → new.used ≡ old.used → new.last ≡ old.last
    → ((offset : ℕ) → offset < old.used → seen after (sector_at (ring_of old) (old.place + offset))
    ≡ seen before (sector_at (ring_of old) (old.place + offset)))
    → HasRecords records old before → HasRecords records new after
has_on records old new before after ring place edits used last same has =
    let start : start_of new.place new.edits ≡ start_of old.place old.edits = λ i. start_of (place i) (edits i) in
    let reads : HoldsRecords (ring_of old) (start_of old.place old.edits) records (seen after) = record {
      lengths = has.reads.lengths;
      room = has.reads.room;
      numbers = has.reads.numbers;
      stand = λ at. stands_on (ring_of old) (start_of old.place old.edits) records at (seen before at) (seen after at)
          (λ offset lt is. subst (λ (x : ℕ). seen after x ≡ seen before x) (sym is) (same offset (omega (arith, lt, has.uses)))) (has.reads.stand at);
    } in
    record {
      reads = moved_records (ring_of old) (ring_of new) (start_of old.place old.edits) (start_of new.place new.edits) records (seen after) ring start reads;
      uses = used ∙ has.uses;
      counts = omega (arith, last, edits, has.counts);
    }
