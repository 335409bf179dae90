use Rattle.std.proofs.Common.{◌≡◌, ◌^◌, ◌<◌, Ok, subst, ◌∙◌}
use Rattle.std.proofs.lemmas.Result.{err_from_is_err_and}
use Rattle.std.specs.List.{AllByRecursion}
use Rattle.pm_header.specs.declared.header.Header.{Header}
use Rattle.pm_directory.specs.Counts.{addressed_by}
use Rattle.pm_archive.specs.Entries.{LiesIn}
use Rattle.pm_archive.specs.Reading.{list_at}
use Rattle.pm_archive.specs.Answers.{UnlessOutside}
use Rattle.pm_archive.proofs.CountedListed.{listed_fit, listed_inside}
use Rattle.pm_metadata.specs.Archive.{HasCounts}
use Rattle.pm_archive.proofs.KeepsLaws.{keeps_on, passed_on}
use Rattle.pm_verify.specs.Verified.{AreVector, HasTile}
use Rattle.pm_verify.specs.VerifiedPieces.{IsCountFault, IsFirstTileFault}
use Rattle.pm_verify.proofs.VerifiedFaults.{same_listed, other_listing, other_count, other_tile}
use Rattle.pm_verify.proofs.verifying.verdict.Goals as goal

pub returns-in_err-listed-clause-fault : goal.returns-in_err-listed-clause-fault
returns-in_err-listed-clause-fault g c =
    let p = err_from_is_err_and c.from_residual-in_err-listed.result c.from_residual-in_err-listed.ensures.1 in
    rw (p.1, p.2) (λ bytes holds.
    let checked = c.in_ok-check_metadata.ensures in
    other_listing bytes c.args.archive.now.header c.args.archive.now.root c.in_err-listed.field-0.0 checked.header checked.root
    (checked.found bytes (c.in_err-listed.ensures.source.no_others bytes holds)) (c.in_err-listed.ensures.first bytes holds))

pub returns-in_err-report-clause-fault : goal.returns-in_err-report-clause-fault
returns-in_err-report-clause-fault g c =
    let p = err_from_is_err_and c.from_residual-in_err-report.result c.from_residual-in_err-report.ensures.1 in
    rw (p.1, p.2) (λ bytes holds.
    let h = c.args.archive.now.header in
    let root = c.args.archive.now.root in
    let tiles = c.as_slice-tiles.result.now in
    let checked = c.in_ok-check_metadata.ensures in
    let checking = c.in_ok-listed.ensures.source.no_others bytes holds in
    let dir = (c.header-header.ensures.found bytes (checked.source.no_others bytes checking)).1 in
    let listed : list_at bytes h root ≡ Ok tiles =
    same_listed bytes tiles checked.header checked.root (rw c.as_slice-tiles.ensures.value (c.in_ok-listed.ensures.first bytes holds)) in
    let fits : addressed_by tiles < 2 ^ 64 = listed_fit bytes h root tiles dir.ascending dir.each listed in
    let d = c.in_err-report.field-0.0 in
    other_count bytes h root tiles (checked.found bytes checking) listed d
    (subst (λ (k : Header). UnlessOutside (IsCountFault k tiles) d) c.header-header.ensures.header (c.in_err-report.ensures.fault fits)))

pub returns-clause-found : goal.returns-clause-found
returns-clause-found g c bytes holds =
    let h = c.args.archive.now.header in
    let root = c.args.archive.now.root in
    let tiles = c.as_slice-tiles.result.now in
    let checked = c.in_ok-check_metadata.ensures in
    let listing = c.in_ok-check_vector_tiles.ensures.source.no_others bytes holds in
    let checking = c.in_ok-listed.ensures.source.no_others bytes listing in
    let dir = (c.header-header.ensures.found bytes (checked.source.no_others bytes checking)).1 in
    let same = c.in_ok-listed.ensures.header ∙ checked.header in
    let listed : list_at bytes h root ≡ Ok tiles =
    same_listed bytes tiles checked.header checked.root (rw c.as_slice-tiles.ensures.value (c.in_ok-listed.ensures.first bytes listing)) in
    let fits : addressed_by tiles < 2 ^ 64 = listed_fit bytes h root tiles dir.ascending dir.each listed in
    record {
      metadata = checked.found bytes checking;
      tiles = tiles;
      listed = listed;
      counts = subst (λ (k : Header). HasCounts k tiles) c.header-header.ensures.header (c.in_ok-report.ensures.counts fits);
      each = subst (λ (k : Header). AllByRecursion (LiesIn k.tiles) tiles → AreVector k → AllByRecursion (HasTile bytes k) tiles) same
          (c.in_ok-check_vector_tiles.ensures.each bytes holds) (listed_inside bytes h root tiles listed);
      told = c.in_ok-report.ensures.told fits;
    }

pub returns-in_err-check_vector_tiles-clause-fault : goal.returns-in_err-check_vector_tiles-clause-fault
returns-in_err-check_vector_tiles-clause-fault g c =
    let p = err_from_is_err_and c.from_residual-in_err-check_vector_tiles.result c.from_residual-in_err-check_vector_tiles.ensures.1 in
    rw (p.1, p.2) (λ bytes holds.
    let h = c.args.archive.now.header in
    let root = c.args.archive.now.root in
    let tiles = c.as_slice-tiles.result.now in
    let checked = c.in_ok-check_metadata.ensures in
    let listing = c.in_err-check_vector_tiles.ensures.source.no_others bytes holds in
    let checking = c.in_ok-listed.ensures.source.no_others bytes listing in
    let dir = (c.header-header.ensures.found bytes (checked.source.no_others bytes checking)).1 in
    let same = c.in_ok-listed.ensures.header ∙ checked.header in
    let listed : list_at bytes h root ≡ Ok tiles =
    same_listed bytes tiles checked.header checked.root (rw c.as_slice-tiles.ensures.value (c.in_ok-listed.ensures.first bytes listing)) in
    let fits : addressed_by tiles < 2 ^ 64 = listed_fit bytes h root tiles dir.ascending dir.each listed in
    let d = c.in_err-check_vector_tiles.field-0.0 in
    let counts = subst (λ (k : Header). HasCounts k tiles) c.header-header.ensures.header (c.in_ok-report.ensures.counts fits) in
    other_tile bytes h root tiles (checked.found bytes checking) listed counts d
    (subst (λ (k : Header). AllByRecursion (LiesIn k.tiles) tiles → UnlessOutside (λ f. AreVector k × IsFirstTileFault bytes k tiles f) d) same
    (c.in_err-check_vector_tiles.ensures.fault bytes holds) (listed_inside bytes h root tiles listed)))

pub returns-in_err-listed-clause-read : goal.returns-in_err-listed-clause-read
returns-in_err-listed-clause-read g c =
    let p = err_from_is_err_and c.from_residual-in_err-listed.result c.from_residual-in_err-listed.ensures.1 in
    rw (p.1, p.2) (λ e. g.met.B.Bytes.failed_on _ _ _ c.in_ok-check_metadata.ensures.source.same_behind (c.in_err-listed.ensures.read (passed_on _ _ _ _ e)))

pub returns-in_err-check_vector_tiles-clause-read : goal.returns-in_err-check_vector_tiles-clause-read
returns-in_err-check_vector_tiles-clause-read g c =
    let p = err_from_is_err_and c.from_residual-in_err-check_vector_tiles.result c.from_residual-in_err-check_vector_tiles.ensures.1 in
    rw (p.1, p.2) (λ e.
    let before = g.met.B.Bytes.unchanged_on _ _ _ c.in_ok-check_metadata.ensures.source.same_behind c.in_ok-listed.ensures.source.same_behind in
    g.met.B.Bytes.failed_on _ _ _ before (c.in_err-check_vector_tiles.ensures.read (passed_on _ _ _ _ e)))

pub returns-in_err-listed-clause-source : goal.returns-in_err-listed-clause-source
returns-in_err-listed-clause-source g c =
    keeps_on g.met.B.Bytes.unchanged_on c.in_ok-check_metadata.ensures.source c.in_err-listed.ensures.source

pub returns-in_err-report-clause-source : goal.returns-in_err-report-clause-source
returns-in_err-report-clause-source g c =
    keeps_on g.met.B.Bytes.unchanged_on c.in_ok-check_metadata.ensures.source c.in_ok-listed.ensures.source

pub returns-in_err-check_vector_tiles-clause-source : goal.returns-in_err-check_vector_tiles-clause-source
returns-in_err-check_vector_tiles-clause-source g c =
    let on = g.met.B.Bytes.unchanged_on in
    keeps_on on (keeps_on on c.in_ok-check_metadata.ensures.source c.in_ok-listed.ensures.source) c.in_err-check_vector_tiles.ensures.source

pub returns-clause-source : goal.returns-clause-source
returns-clause-source g c =
    let on = g.met.B.Bytes.unchanged_on in
    keeps_on on (keeps_on on c.in_ok-check_metadata.ensures.source c.in_ok-listed.ensures.source) c.in_ok-check_vector_tiles.ensures.source

pub returns-in_err-listed-clause-memory : goal.returns-in_err-listed-clause-memory
returns-in_err-listed-clause-memory g c = λ _. c.in_ok-check_metadata.ensures.some

pub returns-in_err-report-clause-memory : goal.returns-in_err-report-clause-memory
returns-in_err-report-clause-memory g c = λ _. c.in_ok-check_metadata.ensures.some

pub returns-in_err-check_vector_tiles-clause-memory : goal.returns-in_err-check_vector_tiles-clause-memory
returns-in_err-check_vector_tiles-clause-memory g c = λ _. c.in_ok-check_metadata.ensures.some

pub returns-clause-memory : goal.returns-clause-memory
returns-clause-memory g c = λ _. c.in_ok-check_metadata.ensures.some

pub returns-in_err-report-clause-read : goal.returns-in_err-report-clause-read
returns-in_err-report-clause-read g c =
    let p = err_from_is_err_and c.from_residual-in_err-report.result c.from_residual-in_err-report.ensures.1 in
    rw (p.1, p.2) (λ e. absurd (c.in_err-report.ensures.read (passed_on _ _ _ _ e)))
