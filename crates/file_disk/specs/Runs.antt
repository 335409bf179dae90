-- Runs of consecutive sectors.
use Rattle.std.specs.Prelude.{◌≡◌, ◌+◌, ◌<◌, ◌≤◌, ℕ, List, [], ◌∷◌, slice_index_or, take}
use Rattle.std.proofs.Common.{suc}
use Rattle.sector_disk.specs.Disk.{History, Image}
use Rattle.sector_disk.specs.Disk.History.{wrote}

-- the history after a write of each of these sectors, in order, the first one to sector first and each other to the next one
abbrev pub wrote_run : ℕ → List (List ℕ) → History → History
wrote_run first [] before = before
wrote_run first (bytes ∷ rest) before = wrote_run (suc first) rest (wrote first bytes before)

-- the same of the first len of these sectors
abbrev pub wrote_first : ℕ → ℕ → List (List ℕ) → History → History
wrote_first first len sectors before = wrote_run first (take len sectors) before

-- The first len of these sectors are those of the image from sector first on.
abbrev pub Shows : Image → ℕ → ℕ → List (List ℕ) → Type 0
Shows image first len sectors = (index : ℕ) → index < len → slice_index_or sectors index [] ≡ image (first + index)

-- No sector is both among the len sectors from first on and among the other_len sectors from other on.
abbrev pub Apart : ℕ → ℕ → ℕ → ℕ → Type 0
Apart first len other other_len = (at : ℕ) → first ≤ at → at < first + len → other ≤ at → at < other + other_len → ⊥
