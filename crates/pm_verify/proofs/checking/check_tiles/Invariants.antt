use Rattle.std.proofs.Common.{◌≡◌, List, ℕ, drop}
use Rattle.std.specs.List.{AllByRecursion}
use Rattle.byte_source.specs.Source.{Keeps}
use Rattle.pm_archive.specs.declared.fault.ArchiveFault.{ArchiveFault}
use Rattle.pm_archive.specs.Entries.{LiesIn}
use Rattle.pm_verify.specs.Verified.{HasTile}
use Rattle.pm_verify.specs.VerifiedPieces.{AreRead, IsFirstTileFault}
use Rattle.pm_verify.proofs.checking.check_tiles.Given as goal

abbrev pub invariant-loop-entry : goal.invariant-loop-entry
invariant-loop-entry g l = record {
  header : l.archive.header ≡ l.fn.archive.header;
  root : l.archive.root ≡ l.fn.archive.root;
  keeps : Keeps g.B.Bytes.count g.B.Bytes.holds g.B.Bytes.unchanged l.fn.archive.source l.archive.source;
  spans : (bytes : List ℕ) → g.B.Bytes.holds l.archive.source bytes → AllByRecursion (LiesIn l.fn.archive.header.tiles) l.tiles
      → AreRead bytes l.fn.archive.header l.spans;
  each : (bytes : List ℕ) → g.B.Bytes.holds l.archive.source bytes → AllByRecursion (LiesIn l.fn.archive.header.tiles) l.tiles
      → AllByRecursion (HasTile bytes l.fn.archive.header) (drop l.entry-index l.tiles) → AllByRecursion (HasTile bytes l.fn.archive.header) l.tiles;
  first : (bytes : List ℕ) → g.B.Bytes.holds l.archive.source bytes → AllByRecursion (LiesIn l.fn.archive.header.tiles) l.tiles
      → (d : ArchiveFault) → IsFirstTileFault bytes l.fn.archive.header (drop l.entry-index l.tiles) d
      → IsFirstTileFault bytes l.fn.archive.header l.tiles d;
}
