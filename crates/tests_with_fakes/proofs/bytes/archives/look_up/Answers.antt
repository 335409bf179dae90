use Rattle.std.proofs.Common.{rules, ◌≡◌, ◌∙◌, ℕ, List, MatchResult, option_map, length, sym, subst}
use Rattle.pm_archive.specs.Answers.{IsOutside}
use Rattle.pm_archive.specs.Archive.{content_of}
use Rattle.pm_archive.specs.Entries.{HasEntries}
use Rattle.sector_disk.specs.Disk.{History, seen}
use Rattle.sector_bytes.specs.Bytes.{StandsIn}
use Rattle.sector_bytes.specs.Source.{SourceView, AreItsBytes}
use Rattle.sector_bytes.proofs.Laws.{still_there}
use Rattle.tests_with_fakes.proofs.bytes.archives.look_up.Goals as goal

-- the source has the bytes that are stored on the disk
made : {D : Type 0} (history : D → History) (source : SourceView D) (disk : D) (first len : ℕ) (bytes : List ℕ) → source.disk.now ≡ disk
    → source.first ≡ first → source.len ≡ len → length bytes ≡ len → StandsIn first bytes (seen (history disk))
    → AreItsBytes source.first source.len bytes (seen (history source.disk.now))
made history source disk first len bytes disk_is first_is len_is long stands = record {
  length_is = long ∙ sym len_is;
  stands = subst (λ (d : _). StandsIn source.first bytes (seen (history d))) (sym disk_is)
      (subst (λ (f : ℕ). StandsIn f bytes (seen (history disk))) (sym first_is) stands);
}

pub returns-in-Err-clause-content : goal.returns-in-Err-clause-content
returns-in-Err-clause-content g c bytes h tiles honest len stands has lists =
    let truthful : g.D.Sectors.honest c.in-Err.source.disk.now = search (rules, honest) in
    let keeps = c.in-Err.ensures.back in
    let are = made g.D.Sectors.history c.new.result c.args.disk.now c.args.first c.args.len bytes c.new.ensures.disk c.new.ensures.first
    c.new.ensures.len len stands in
    c.in-Err.ensures.only bytes h lists.0 has lists.1 (
      truthful,
      still_there g.D.Sectors.sectors g.D.Sectors.honest g.D.Sectors.history g.D.Sectors.faults c.new.result
          c.in-Err.source bytes keeps.same_behind keeps.same_count truthful are,
    )

pub returns-clause-content : goal.returns-clause-content
returns-clause-content g c bytes h tiles honest len stands has lists =
    let last = c.tile-content.new.self.source in
    let truthful : g.D.Sectors.honest last.disk.now = search (rules, honest) in
    let opened = c.in-Ok.archive.source in
    let before = c.in-Ok.ensures.source in
    let after = c.tile-content.ensures.source in
    let are = made g.D.Sectors.history c.new.result c.args.disk.now c.args.first c.args.len bytes c.new.ensures.disk c.new.ensures.first
    c.new.ensures.len len stands in
    let truthful_first : g.D.Sectors.honest opened.disk.now = after.same_behind.was_honest truthful in
    let are_first = still_there g.D.Sectors.sectors g.D.Sectors.honest g.D.Sectors.history g.D.Sectors.faults c.new.result opened bytes
    before.same_behind before.same_count truthful_first are in
    let are_last = still_there g.D.Sectors.sectors g.D.Sectors.honest g.D.Sectors.history g.D.Sectors.faults opened last bytes
    after.same_behind after.same_count truthful are_first in
    let alike = c.in-Ok.ensures.only bytes h lists.0 has lists.1 (truthful_first, are_first) in
    subst (λ (of : _). MatchResult c.tile-content.result (λ content. option_map (λ v. v.items) content ≡ content_of bytes of tiles c.args.id) IsOutside)
    alike.0
    (c.tile-content.ensures.content bytes tiles (truthful, are_last) (subst (λ (of : _). HasEntries bytes of tiles) (sym alike.0) lists))
