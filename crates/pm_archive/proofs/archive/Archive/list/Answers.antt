use Rattle.std.proofs.Common.{◌≡◌, ℕ, List, IfOk, MatchResult, subst}
use Rattle.pm_directory.specs.declared.entry.DirectoryEntry.{DirectoryEntry}
use Rattle.pm_archive.specs.Source.{ArchiveView}
use Rattle.pm_archive.specs.Entries.{HasEntries}
use Rattle.pm_archive.specs.Reading.{list_at}
use Rattle.reader.specs.Reading.{GivesUnless}
use Rattle.pm_archive.specs.Answers.{IsOutside}
use Rattle.pm_archive.proofs.ListedClauses.{listed_found, listed_only}
use Rattle.pm_archive.proofs.archive.Archive.list.Goals as goal

pub returns-clause-first : goal.returns-clause-first
returns-clause-first g c =
    subst (λ (a : ArchiveView g.row.B.Denot). (bytes : List ℕ) → g.B.Bytes.holds c.entries_below.new.source bytes
    → GivesUnless IsOutside (λ tiles. tiles.items) c.entries_below.result (list_at bytes a.header a.root)) c.self.view_is
    (subst (λ (root : List DirectoryEntry). (bytes : List ℕ) → g.B.Bytes.holds c.entries_below.new.source bytes
    → GivesUnless IsOutside (λ tiles. tiles.items) c.entries_below.result
    (list_at bytes c.self.inside.header root)) c.deref.ensures.value c.entries_below.ensures.first)

pub returns-clause-found : goal.returns-clause-found
returns-clause-found g c =
    subst (λ (a : ArchiveView g.row.B.Denot). (bytes : List ℕ) → g.B.Bytes.holds c.entries_below.new.source bytes
    → IfOk c.entries_below.result (λ tiles. HasEntries bytes a.header tiles.items)) c.self.view_is
    (λ bytes holds. listed_found
    (λ tiles. tiles.items) bytes c.self.inside.header c.deref.result.now c.self.inside.root.items c.deref.ensures.value c.entries_below.result
    (c.self.invariant.2 bytes (c.entries_below.ensures.source.no_others bytes holds)).1 (c.entries_below.ensures.first bytes holds))

pub returns-clause-only : goal.returns-clause-only
returns-clause-only g c =
    subst (λ (a : ArchiveView g.row.B.Denot). (bytes : List ℕ) (tiles : List DirectoryEntry) → g.B.Bytes.holds c.entries_below.new.source bytes
    → HasEntries bytes a.header tiles → MatchResult c.entries_below.result (λ listed. listed.items ≡ tiles) IsOutside) c.self.view_is
    (λ bytes tiles holds has. listed_only
    (λ tiles. tiles.items) bytes c.self.inside.header c.deref.result.now c.self.inside.root.items c.deref.ensures.value c.entries_below.result
    (c.self.invariant.2 bytes (c.entries_below.ensures.source.no_others bytes holds)).1 (c.entries_below.ensures.first bytes holds) tiles has)
