-- The pieces of a verdict, and the faults that each of them has.
use Rattle.std.specs.Prelude.{◌≡◌, ℕ, ◌+◌, ◌⊎◌, true, List, [], ◌∷◌, slice_range}
use Rattle.std.specs.Ordering.{ordering_then, nat_cmp}
use Rattle.std.specs.declared.cmp.Ordering.{Ordering}
use Rattle.std.specs.BTreeSet.{BTreeSet, contains}
use Rattle.pm_header.specs.declared.header.Header.{Header}
use Rattle.pm_directory.specs.declared.entry.DirectoryEntry.{DirectoryEntry}
use Rattle.pm_archive.specs.declared.fault.ArchiveFault.{ArchiveFault}
use Rattle.pm_archive.specs.declared.fault.ArchiveFault.TheVariants as faults
use Rattle.pm_archive.specs.declared.fault.Count.{Count}
use Rattle.pm_archive.specs.Sections.{section_bytes}
use Rattle.pm_metadata.specs.Archive.{IsMetadata}
use Rattle.pm_verify.specs.Verified.{IsTile, HasTile, HasOtherCount}

-- the fault of metadata that isn't a JSON object
abbrev pub IsMetadataFault : List ℕ → Header → ArchiveFault → Type 0
IsMetadataFault bytes h d = (d ≡ faults.Metadata) × ¬ IsMetadata (section_bytes h.metadata bytes)

-- the fault of a header with a count that isn't that of these entries
abbrev pub IsCountFault : Header → List DirectoryEntry → ArchiveFault → Type 0
IsCountFault h tiles d = (c : Count) × (d ≡ faults.Count c) × HasOtherCount h tiles c

-- the fault of an entry whose tile can't be decoded
abbrev pub IsTileFault : List ℕ → Header → DirectoryEntry → ArchiveFault → Type 0
IsTileFault bytes h e d = (d ≡ faults.Tile e.id) × ¬ HasTile bytes h e

-- that of the first such entry
abbrev pub IsFirstTileFault : List ℕ → Header → List DirectoryEntry → ArchiveFault → Type 0
IsFirstTileFault bytes h [] d = ⊥
IsFirstTileFault bytes h (e ∷ es) d = IsTileFault bytes h e d ⊎ (HasTile bytes h e × IsFirstTileFault bytes h es d)

-- the order of spans: an offset and a length
abbrev pub span_cmp : ℕ × ℕ → ℕ × ℕ → Ordering
span_cmp p q = ordering_then (nat_cmp p.0 q.0) (nat_cmp p.1 q.1)

-- in each of the spans is a tile that can be decoded
abbrev pub AreRead : List ℕ → Header → BTreeSet (ℕ × ℕ) → Type 0
AreRead bytes h spans = (q : ℕ × ℕ) → contains span_cmp spans q ≡ true → IsTile (slice_range bytes (h.tiles.offset + q.0) (h.tiles.offset + q.0 + q.1))
