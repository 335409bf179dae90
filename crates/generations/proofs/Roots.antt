-- A root's sector has its numbers, each at its offset.
use Rattle.std.proofs.Common.{◌≡◌, ◌↔◌, ℕ, List, Some, None, sym, ap, subst, ◌∙◌}
use Rattle.std.proofs.lemmas.Nat.{from_le_bytes-to_le_bytes_8}
use Rattle.generations.specs.Sectors.{root_mark, root_sector, root_from, AreNumbers, IsRootSector}
use Rattle.generations.specs.declared.root.Root.{Root}

-- roots with the same numbers are one
same_root : (a b : Root) → a.generation ≡ b.generation → a.edits ≡ b.edits → a.journal_at ≡ b.journal_at
    → a.snapshot_len ≡ b.snapshot_len → a.archive_len ≡ b.archive_len → a ≡ b
same_root a b generation edits journal_at snapshot_len archive_len = λ i. record {
  generation = generation i;
  edits = edits i;
  journal_at = journal_at i;
  snapshot_len = snapshot_len i;
  archive_len = archive_len i;
}

-- the numbers are read back
pub read_back : (root : Root) → AreNumbers root → root_from (root_sector root) ≡ root
unfolding root_mark root_sector root_from
read_back root numbers = same_root (root_from (root_sector root)) root
    (from_le_bytes-to_le_bytes_8 root.generation numbers.generation)
    (from_le_bytes-to_le_bytes_8 root.edits numbers.edits)
    (from_le_bytes-to_le_bytes_8 root.journal_at numbers.journal_at)
    (from_le_bytes-to_le_bytes_8 root.snapshot_len numbers.snapshot_len)
    (from_le_bytes-to_le_bytes_8 root.archive_len numbers.archive_len)

-- the root of a sector is the one that is read there
pub is_read : (sector : List ℕ) (root : Root) → IsRootSector sector root → root ≡ root_from sector
is_read sector root is = sym (read_back root is.numbers) ∙ ap root_from (sym is.bytes)

-- a sector has the root whose bytes it has
pub root_there : (sector : List ℕ) (found : Root) → found ≡ root_from sector → AreNumbers found → sector ≡ root_sector found
    → (root : Root) → (Some found ≡ Some root) ↔ IsRootSector sector root
root_there sector found read fit same root = (
  λ e. let is : found ≡ root = cc in subst (λ (r : Root). IsRootSector sector r) is (record { bytes = same; numbers = fit }),
  λ is. ap Some (read ∙ sym (is_read sector root is)),
)

-- and none where it has other bytes than its numbers have as a root
pub no_root : (sector : List ℕ) (found : Root) → found ≡ root_from sector → (sector ≡ root_sector found → ⊥)
    → (root : Root) → (None ≡ Some root) ↔ IsRootSector sector root
no_root sector found read apart root = (
  λ e. cc,
  λ is. absurd (apart (is.bytes ∙ ap root_sector (is_read sector root is ∙ sym read))),
)
