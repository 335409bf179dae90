use Rattle.std.proofs.Common.{◌≡◌, ℕ, List, Option, MatchResult, option_map, subst}
use Rattle.pm_archive.specs.Answers.{IsOutside}
use Rattle.pm_archive.specs.Archive.{HasContents}
use Rattle.pm_archive.specs.Lookup.{IsLookupOf}
use Rattle.pm_archive.specs.Spans.{span_bytes}
use Rattle.published_tiles.specs.Opened.{OpenedView}
use Rattle.published_tiles.proofs.opened.Opened.find.Goals as goal

pub returns-clause-content : goal.returns-clause-content
returns-clause-content g c =
    subst (λ (o : OpenedView). (bytes : List ℕ) (content : ℕ → Option (List ℕ)) → g.B.Bytes.holds c.find.new.source bytes → IsLookupOf bytes o.lookup
    → HasContents bytes content → MatchResult c.find.result (λ found. option_map (span_bytes bytes) found ≡ content c.args.id) IsOutside) c.self.view_is
    c.find.ensures.content
