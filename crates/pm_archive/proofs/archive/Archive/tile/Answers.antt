use Rattle.std.proofs.Common.{◌≡◌, ℕ, List, Ok, Err, MatchResult, option_map, sym, subst}
use Rattle.reader.specs.Reading.{GivesUnless}
use Rattle.reader.proofs.Steps.{gives_found}
use Rattle.pm_directory.specs.declared.entry.DirectoryEntry.{DirectoryEntry}
use Rattle.pm_archive.specs.Source.{ArchiveView}
use Rattle.pm_archive.specs.Entries.{HasEntries, LiesInside}
use Rattle.pm_archive.specs.Archive.{content_of}
use Rattle.pm_archive.specs.Answers.{IsOutside}
use Rattle.pm_archive.specs.declared.fault.ArchiveFault.TheVariants.{Memory}
use Rattle.pm_archive.specs.Looked.{leading_of, looked_at}
use Rattle.pm_archive.proofs.ListedSteps.{inside_or_outside}
use Rattle.pm_archive.proofs.LookupLaws.{looked_below}
use Rattle.pm_archive.proofs.archive.Archive.tile.Goals as goal

pub returns-clause-content : goal.returns-clause-content
returns-clause-content g c =
    subst (λ (a : ArchiveView g.row.B.Denot). (bytes : List ℕ) (tiles : List DirectoryEntry) → g.B.Bytes.holds c.content_below.new.source bytes
    → HasEntries bytes a.header tiles
    → MatchResult c.content_below.result (λ content. option_map (λ v. v.items) content ≡ content_of bytes a.header tiles c.args.id) IsOutside) c.self.view_is
    (λ bytes tiles holds has.
    let h = c.self.inside.header in
    let dir = (c.self.invariant.2 bytes (c.content_below.ensures.source.no_others bytes holds)).1 in
    gives_found IsOutside inside_or_outside (option_map (λ v. v.items)) c.content_below.result
    (looked_at bytes h c.deref.result.now c.args.id) (content_of bytes h tiles c.args.id)
    (subst (λ (es : List DirectoryEntry). looked_at bytes h es c.args.id ≡ Ok (content_of bytes h tiles c.args.id)) (sym c.deref.ensures.value)
    (looked_below bytes h c.self.inside.root.items tiles c.args.id dir has))
    (c.content_below.ensures.first bytes holds (c.self.invariant.5 bytes (c.content_below.ensures.source.no_others bytes holds))))

pub returns-clause-first : goal.returns-clause-first
returns-clause-first g c =
    subst (λ (a : ArchiveView g.row.B.Denot). (bytes : List ℕ) → g.B.Bytes.holds c.content_below.new.source bytes
    → GivesUnless IsOutside (option_map (λ v. v.items)) c.content_below.result (looked_at bytes a.header a.root c.args.id)) c.self.view_is
    (λ bytes holds.
    let h = c.self.inside.header in
    subst (λ (root : List DirectoryEntry). GivesUnless IsOutside (option_map (λ v. v.items)) c.content_below.result
    (looked_at bytes h root c.args.id)) c.deref.ensures.value
    (c.content_below.ensures.first bytes holds (c.self.invariant.5 bytes (c.content_below.ensures.source.no_others bytes holds))))

pub returns-clause-memory : goal.returns-clause-memory
returns-clause-memory g c =
    subst (λ (a : ArchiveView g.row.B.Denot). c.content_below.result ≡ Err Memory → LiesInside a.header (leading_of c.args.id a.root)) c.self.view_is
    (λ e. subst (λ (root : List DirectoryEntry). LiesInside c.self.inside.header (leading_of c.args.id root)) c.deref.ensures.value
    (c.content_below.ensures.memory c.self.invariant.4 e))
