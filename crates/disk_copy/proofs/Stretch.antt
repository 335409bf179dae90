-- The records that were found stay, as long as the root is the same.
use Rattle.std.proofs.Common.{◌≡◌, inl, inr, ℕ, zero, suc, ◌≤◌, ◌+◌, List, [], ◌∷◌, length, length-append, take, Option, None, Some, Ok}
use Rattle.std.proofs.Common.{refl, sym, ◌∙◌, ap, subst, arith}
use Rattle.std.specs.Prelude.{IfSome}
use Rattle.std.proofs.lemmas.List.{take-append-le}
use Rattle.sector_disk.specs.Disk.{Image}
use Rattle.edit_journal.specs.Records.{RecordData}
use Rattle.edit_journal.specs.Ring.{Ring, sector_at, places_of}
use Rattle.generations.specs.declared.root.Root.{Root}
use Rattle.disk_copy.specs.Copies.{Copies, CopiesAs, IsFront, IsUsed, ring_in}
use Rattle.disk_copy.specs.Shared.{IsOf, OnlyGrows, IsStretch, HasWalked, FindsNext}
use Rattle.disk_copy.specs.Walks.{CopiesAll, CopiesAllShared, CopiesNamed}
use Rattle.disk_copy.proofs.Steps.{copies_as, used_then, all_named}

places_take : (k : ℕ) (records : List RecordData) → places_of (take k records) ≤ places_of records
places_take zero records = omega arith
places_take (suc k) [] = omega arith
places_take (suc k) (r ∷ records) = omega (arith, places_take k records)

-- they take no more places than all
pub walked_fits : (root : Root) (records : List RecordData) (used last : ℕ) → HasWalked root records used last → used ≤ places_of records
walked_fits root records used last walked = omega (arith, walked.used_is, places_take walked.count records)

-- one record more was found
pub found_one : (root : Root) (records : List RecordData) (used last : ℕ) (next : Option ℕ) (parts : ℕ) → next ≡ Some parts
    → FindsNext root records used last (Ok next) → HasWalked root records (used + parts) (last + 1)
found_one root records used last next parts is found = subst (λ (o : Option ℕ). FindsNext root records used last (Ok o)) is found

pub some_has : (P : ℕ → Type 0) (next : Option ℕ) (parts : ℕ) → next ≡ Some parts → IfSome next P → P parts
some_has P next parts is has = subst (λ (o : Option ℕ). IfSome o P) is has

-- none was
pub found_none : (root : Root) (records : List RecordData) (used last : ℕ) (next : Option ℕ) → ((parts : ℕ) → next ≡ Some parts → ⊥)
    → FindsNext root records used last (Ok next) → (used ≡ places_of records) × (last ≡ root.edits + length records)
found_none root records used last None not found = found
found_none root records used last (Some parts) not found = absurd (not parts refl)

module _ (n version : ℕ) (root : Root) (records : ℕ → List RecordData) (images : ℕ → Image) (from to : ℕ)
    (stretch : IsStretch n version root records images from to) where
  abbrev ring : Ring
  ring = ring_in n

  abbrev place : ℕ
  place = root.journal_at

  module _ (moment later : ℕ) (since : from ≤ moment) (le : moment ≤ later) (until : later ≤ to) (used last : ℕ)
      (walked : HasWalked root (records moment) used last) where
    grown : OnlyGrows n root (records moment) (records later) (images moment) (images later)
    grown = stretch.grows moment later since le until

    -- they are the first ones later too
    pub walked_later : HasWalked root (records later) used last
    walked_later =
        let same : take walked.count (records later) ≡ take walked.count (records moment) =
        ap (take walked.count) grown.records_are ∙ take-append-le walked.count (records moment) grown.more walked.within in
        record {
          count = walked.count;
          within = omega (arith, walked.within, ap length grown.records_are, length-append (records moment) grown.more);
          used_is = walked.used_is ∙ ap places_of (sym same);
          last_is = walked.last_is;
        }

    -- and their sectors are the same
    pub same_later : (at : ℕ) → IsUsed ring place used at → images later at ≡ images moment at
    same_later at is =
        grown.stays at (inr (is.0, omega (arith, is.1, walked_fits root (records moment) used last walked), is.2))

    pub copies_later : (old new : Image) → Copies (IsUsed ring place used) (images moment) old new → Copies (IsUsed ring place used) (images later) old new
    copies_later old new = copies_as (λ at bytes. bytes ≡ images moment at) (λ at bytes. bytes ≡ images later at) (IsUsed ring place used) old new
        (λ at bytes there is. is ∙ sym (same_later at there))

  -- the places of one record more, read from one moment on until now
  pub copies_next : (found read now : ℕ) → from ≤ found → found ≤ read → read ≤ now → now ≤ to → (used parts last : ℕ)
      → HasWalked root (records found) (used + parts) last → (old middle new : Image) → Copies (IsUsed ring place used) (images now) old middle
      → CopiesAs (IsOf images read now) (IsUsed ring (place + used) parts) middle new → Copies (IsUsed ring place (used + parts)) (images now) old new
  copies_next found read now since le late until used parts last walked old middle new first second =
      used_then (λ at bytes. bytes ≡ images now at) ring place used parts old middle new first
      (copies_as (IsOf images read now) (λ at bytes. bytes ≡ images now at) (IsUsed ring (place + used) parts) middle new
      (λ at bytes there is.
      let moment : ℕ = is.0 in
      let then : HasWalked root (records moment) (used + parts) last =
      walked_later found moment since (omega (arith, le, is.1)) (omega (arith, is.2, until)) (used + parts) last walked in
      let same : place + used + there.0 ≡ place + (used + there.0) = omega arith in
      is.3 ∙ sym (same_later moment now (omega (arith, since, le, is.1)) is.2 until (used + parts) last then at
      (used + there.0, omega (arith, there.1), there.2 ∙ ap (sector_at ring) same)))
      second)

  -- all records of a moment were copied
  pub copies_ended : (moment end upto : ℕ) → from ≤ moment → moment ≤ end → end ≤ upto → upto ≤ to → (used last : ℕ) → HasWalked root (records moment) used last
      → used ≡ places_of (records end) → last ≡ root.edits + length (records end) → (old new : Image)
      → Copies (IsUsed ring place used) (images moment) old new → CopiesAllShared n root records images from upto old new last
  copies_ended moment end upto since le within until used last walked used_is last_is old new copied = (
    end,
    omega (arith, since, le),
    within,
    (
      last_is,
      subst (λ (u : ℕ). Copies (IsUsed ring place u) (images end) old new) used_is
          (copies_later moment end since le (omega (arith, within, until)) used last walked old new copied),
    ),
  )

  -- what the root names beside the journal was copied before, at moments of its own, and the records of a moment then
  pub copies_named : (read moment : ℕ) → from ≤ read → read ≤ moment → moment ≤ to → (last : ℕ) (old middle new : Image)
      → CopiesAs (IsOf images from read) (IsFront n root) old middle → CopiesAll n root (records moment) (images moment) middle new last
      → CopiesNamed n root (records moment) (images moment) old new last
  copies_named read moment since le until last old middle new front all = (
    all.0,
    all_named (λ at bytes. bytes ≡ images moment at) n root (places_of (records moment)) old middle new
        (copies_as (IsOf images from read) (λ at bytes. bytes ≡ images moment at) (IsFront n root) old middle
        (λ at bytes there is.
        let grown : OnlyGrows n root (records is.0) (records moment) (images is.0) (images moment) =
        stretch.grows is.0 moment is.1 (omega (arith, is.2, le)) until in
        is.3 ∙ sym (grown.stays at (inl there)))
        front)
        all.1,
  )

-- a stretch has its later parts
pub stretch_later : (n version : ℕ) (root : Root) (records : ℕ → List RecordData) (images : ℕ → Image) (from later to : ℕ) → from ≤ later
    → IsStretch n version root records images from to → IsStretch n version root records images later to
stretch_later n version root records images from later to le stretch = record {
  journal = λ moment since until. stretch.journal moment (omega (arith, le, since)) until;
  grows = λ moment then since after until. stretch.grows moment then (omega (arith, le, since)) after until;
}

-- the front of what a root names, and then all records
pub front_and_all : (n : ℕ) (root : Root) (records : List RecordData) (source old middle new : Image) (last : ℕ) → Copies (IsFront n root) source old middle
    → CopiesAll n root records source middle new last → CopiesNamed n root records source old new last
front_and_all n root records source old middle new last front all =
    (all.0, all_named (λ at bytes. bytes ≡ source at) n root (places_of records) old middle new front all.1)
