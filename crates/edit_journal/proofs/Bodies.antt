-- The bodies of a record are written one after the other, and synced.
use Rattle.std.proofs.Common.{◌≡◌, inl, inr, ⊎_elim, ℕ, ◌<◌, ◌≤◌, ◌+◌, List, length, sym, ◌∙◌, ap, arith, Result}
use Rattle.std.proofs.lemmas.Bool.{cases_eq}
use Rattle.sector_disk.specs.Disk.{History, Image, seen, FailedWrite, Writes, Syncs}
use Rattle.sector_disk.specs.Disk.History.{wrote, synced}
use Rattle.sector_disk.specs.Moments.{Within, LeavesOnly}
use Rattle.sector_disk.specs.declared.disk.DiskFault.{DiskFault}
use Rattle.sector_disk.proofs.History.{started, seen_same, seen_other, any_write, write_within, write_leaves, any_sync, sync_within, sync_leaves, fits_image}
use Rattle.edit_journal.specs.Records.{RecordData, parts_of, record_sector}
use Rattle.edit_journal.specs.Ring.{Ring, sector_at}
use Rattle.edit_journal.specs.Appends.{OldOrBody, ReadsBeside}
use Rattle.edit_journal.proofs.Places.{places_apart}

-- a write changes no other sector that is read
pub write_reads : (at : ℕ) (bytes : List ℕ) (old new : History) (other : ℕ) → FailedWrite at bytes old new → (other ≡ at → ⊥) → seen new other ≡ seen old other
write_reads at bytes old new other (inl same) apart = ap (λ (h : History). seen h other) same
write_reads at bytes old new other (inr (inl is)) apart = ap (λ (h : History). seen h other) is ∙ seen_other at bytes old other apart
write_reads at bytes old new other (inr (inr is)) apart = ap (λ (h : History). seen h other) is

-- a sync, reported as done or as failed, changes none
pub sync_reads : (result : Result (Unit {0}) DiskFault) (old new : History) (at : ℕ) → Syncs result old new → seen new at ≡ seen old at
sync_reads result old new at syncs = ⊎_elim (λ (same : new ≡ old). ap (λ (h : History). seen h at) same)
    (λ (is : new ≡ synced old). ap (λ (h : History). seen h at) is) (any_sync result old new syncs)

-- so it changes none beside those of a record
pub synced_reads : (start : History) (ring : Ring) (place used parts : ℕ) (result : Result (Unit {0}) DiskFault) (old new : History) → Syncs result old new
    → ReadsBeside ring place used parts (seen start) (seen old) → ReadsBeside ring place used parts (seen start) (seen new)
synced_reads start ring place used parts result old new syncs was at apart = sync_reads result old new at syncs ∙ was at apart

module _ (start : History) (ring : Ring) (place used number : ℕ) (r : RecordData) (begins : place < ring.places)
    (room : used + parts_of (length r.text) ≤ ring.places) where
  -- each sector has what it might have had at the start, or a body
  abbrev pub Staged : Image → Type 0
  Staged image = (at : ℕ) → OldOrBody start ring place used number r at (image at)

  pub staged_start : LeavesOnly start start Staged
  staged_start = started start Staged (λ image may at. inl (may at))

  -- a body is written, reported as done or as failed
  module _ (part : ℕ) (pos : 0 < part) (lt : part < parts_of (length r.text)) (at : ℕ) (at_is : at ≡ sector_at ring (place + (used + part)))
      (sector : List ℕ) (is : sector ≡ record_sector r.version number r.text part)
      (result : Result (Unit {0}) DiskFault) (old new : History) (writes : Writes result at sector old new) where
    written : FailedWrite at sector old new
    written = any_write result at sector old new writes

    pub body_within : Within old (OldOrBody start ring place used number r) → Within new (OldOrBody start ring place used number r)
    body_within was = write_within at sector old new (OldOrBody start ring place used number r) written was (inr (part, pos, lt, at_is, is))

    pub body_leaves : Within old (OldOrBody start ring place used number r) → LeavesOnly start old Staged → LeavesOnly start new Staged
    body_leaves was so_far = write_leaves start old new at sector Staged written so_far
        (fits_image new (OldOrBody start ring place used number r) Staged (body_within was) (λ image fits. fits))

    pub body_reads : ReadsBeside ring place used (parts_of (length r.text)) (seen start) (seen old)
        → ReadsBeside ring place used (parts_of (length r.text)) (seen start) (seen new)
    body_reads was other apart = write_reads at sector old new other written (λ e. apart (part, lt, e ∙ at_is)) ∙ was other apart

  -- the bodies are synced, reported as done or as failed
  module _ (result : Result (Unit {0}) DiskFault) (old new : History) (syncs : Syncs result old new)
      (was : Within old (OldOrBody start ring place used number r)) where
    pub synced_within : Within new (OldOrBody start ring place used number r)
    synced_within = sync_within old new (OldOrBody start ring place used number r) (any_sync result old new syncs) was

    pub synced_leaves : LeavesOnly start old Staged → LeavesOnly start new Staged
    synced_leaves so_far = sync_leaves start old new Staged (any_sync result old new syncs) so_far
        (fits_image new (OldOrBody start ring place used number r) Staged synced_within (λ image fits. fits))

  -- a read gives the bodies before this one, and after its write this one too
  pub body_seen : (part : ℕ) (sector : List ℕ) (at : ℕ) (old new : History) → part < parts_of (length r.text) → at ≡ sector_at ring (place + (used + part))
      → sector ≡ record_sector r.version number r.text part → new ≡ wrote at sector old
      → ((k : ℕ) → 0 < k → k < part → seen old (sector_at ring (place + (used + k))) ≡ record_sector r.version number r.text k)
      → (k : ℕ) → 0 < k → k < part + 1 → seen new (sector_at ring (place + (used + k))) ≡ record_sector r.version number r.text k
  body_seen part sector at old new within at_is is new_is so_far k pos lt =
      ap (λ (h : History). seen h (sector_at ring (place + (used + k)))) new_is ∙ ⊎_elim
      (λ (same : k ≡ part). seen_same at sector old (sector_at ring (place + (used + k)))
      (ap (λ (n : ℕ). sector_at ring (place + (used + n))) same ∙ sym at_is) ∙ is ∙ ap (λ (n : ℕ). record_sector r.version number r.text n) (sym same))
      (λ (apart : k ≡ part → ⊥). seen_other at sector old (sector_at ring (place + (used + k)))
      (λ e. places_apart ring (place + (used + k)) (place + (used + part)) (omega (arith, lt, within)) (omega (arith, within)) (omega (arith, lt, within))
      (omega (arith, lt, within)) (λ same. apart (omega (arith, same))) (e ∙ at_is))
      ∙ so_far k pos (omega (arith, lt, apart)))
      (cases_eq k part)
