use Rattle.std.proofs.Common.{◌≡◌, ℕ, List, Ok, Err, Option, MatchResult, option_map, sym, subst}
use Rattle.reader.specs.Reading.{GivesUnless}
use Rattle.reader.proofs.Steps.{gives_found}
use Rattle.pm_directory.specs.declared.entry.DirectoryEntry.{DirectoryEntry}
use Rattle.pm_archive.specs.Archive.{HasContents}
use Rattle.pm_archive.specs.Answers.{IsOutside}
use Rattle.pm_archive.specs.declared.fault.ArchiveFault.TheVariants.{Memory}
use Rattle.pm_archive.specs.Entries.{LiesInside}
use Rattle.pm_archive.specs.Looked.{leading_of, looked_at}
use Rattle.pm_archive.specs.Spans.{span_bytes}
use Rattle.pm_archive.specs.Lookup.{LookupView, IsLookupOf}
use Rattle.pm_archive.proofs.ListedSteps.{inside_or_outside}
use Rattle.pm_archive.proofs.LookupLaws.{looked_content}
use Rattle.pm_archive.proofs.lookup.Lookup.find.Goals as goal

pub returns-clause-content : goal.returns-clause-content
returns-clause-content g c =
    subst (λ (l : LookupView). (bytes : List ℕ) (content : ℕ → Option (List ℕ)) → g.B.Bytes.holds c.span_below.new.source bytes → IsLookupOf bytes l
    → HasContents bytes content → MatchResult c.span_below.result (λ found. option_map (span_bytes bytes) found ≡ content c.args.id) IsOutside) c.self.view_is
    (λ bytes content holds of archive.
    let root = c.deref.ensures.value in
    gives_found IsOutside inside_or_outside (option_map (span_bytes bytes)) c.span_below.result
    (looked_at bytes c.self.inside.header c.deref.result.now c.args.id) (content c.args.id)
    (subst (λ (es : List DirectoryEntry). looked_at bytes c.self.inside.header es c.args.id ≡ Ok (content c.args.id)) (sym root)
    (looked_content bytes c.self.inside.header c.self.inside.root.items content c.args.id of.sections of.root archive))
    (c.span_below.ensures.first bytes holds of.leaves))

pub returns-clause-first : goal.returns-clause-first
returns-clause-first g c =
    subst (λ (l : LookupView). (bytes : List ℕ) → g.B.Bytes.holds c.span_below.new.source bytes → IsLookupOf bytes l
    → GivesUnless IsOutside (option_map (span_bytes bytes)) c.span_below.result (looked_at bytes l.header l.root c.args.id)) c.self.view_is
    (λ bytes holds of.
    subst (λ (root : List DirectoryEntry). GivesUnless IsOutside (option_map (span_bytes bytes)) c.span_below.result
    (looked_at bytes c.self.inside.header root c.args.id)) c.deref.ensures.value
    (c.span_below.ensures.first bytes holds of.leaves))

pub returns-clause-memory : goal.returns-clause-memory
returns-clause-memory g c =
    subst (λ (l : LookupView). c.span_below.result ≡ Err Memory → LiesInside l.header (leading_of c.args.id l.root)) c.self.view_is
    (λ e. subst (λ (root : List DirectoryEntry). LiesInside c.self.inside.header (leading_of c.args.id root)) c.deref.ensures.value
    (c.span_below.ensures.memory c.self.invariant.3 e))

pub invariant_of-self : goal.invariant_of-self
invariant_of-self g c = (
  c.self.invariant.0,
  c.self.invariant.1,
  c.span_below.ensures.room c.self.invariant.2,
  c.span_below.ensures.still_inside c.self.invariant.3,
)

pub returns-clause-still : goal.returns-clause-still
returns-clause-still g c = rw (← c.self.view_is) (λ bytes holds of. record {
  sections = of.sections;
  root = of.root;
  leaves = c.span_below.ensures.still bytes holds of.leaves;
})
