use Rattle.std.proofs.lemmas.Grind.{common_steps}
use Rattle.std.proofs.Common.{get_or, ◌∙◌, arith}
use Rattle.std.proofs.lemmas.Result.{err_from_is_err_and}
use Rattle.pm_archive.specs.Entries.{LiesIn}
use Rattle.pm_archive.proofs.KeepsLaws.{keeps_on}
use Rattle.pm_verify.specs.Verified.{HasTile}
use Rattle.pm_verify.proofs.VerifiedLaws.{at_index, each_from, first_from, same_tile, same_spans}
use Rattle.pm_verify.proofs.checking.check_tiles.Goals as goal

pub loop-entry-preserved : goal.loop-entry-preserved
loop-entry-preserved g c =
    let h = c.args.archive.now.header in
    let now = c.loop-entry.archive.header in
    let was = c.loop-entry.invariant in
    let es = c.args.tiles.now in
    let i = c.loop-entry.entry-index in
    let checked = c.in_ok-check_once.ensures in
    let before = checked.source.no_others in
    record {
      header = checked.header ∙ was.header;
      root = checked.root ∙ was.root;
      keeps = keeps_on g.met.B.Bytes.unchanged_on was.keeps checked.source;
      spans = λ bytes holds lies. same_spans bytes (get_or es i _) h now was.header _ _ (checked.spans bytes holds)
          (at_index (LiesIn h.tiles) es i _ c.loop-entry-test.true lies) (was.spans bytes (before bytes holds) lies);
      each = λ bytes holds lies rest. was.each bytes (before bytes holds) lies (each_from (HasTile bytes h) es i _ c.loop-entry-test.true
          (same_tile bytes (get_or es i _) h now was.header _ (checked.tile bytes holds)
          (at_index (LiesIn h.tiles) es i _ c.loop-entry-test.true lies) (was.spans bytes (before bytes holds) lies)) rest);
      first = λ bytes holds lies d rest. was.first bytes (before bytes holds) lies d (first_from bytes h es i _ d c.loop-entry-test.true
          (same_tile bytes (get_or es i _) h now was.header _ (checked.tile bytes holds)
          (at_index (LiesIn h.tiles) es i _ c.loop-entry-test.true lies) (was.spans bytes (before bytes holds) lies)) rest);
    }

pub returns-in_err-check_once-clause-read : goal.returns-in_err-check_once-clause-read
returns-in_err-check_once-clause-read g c =
    let p = err_from_is_err_and c.from_residual.result c.from_residual.ensures.1 in
    rw (p.1, p.2) (λ e. g.met.B.Bytes.failed_on _ _ _ c.loop-entry.invariant.keeps.same_behind (c.in_err-check_once.ensures.read e))

pub returns-in_err-check_once-clause-fault : goal.returns-in_err-check_once-clause-fault
returns-in_err-check_once-clause-fault g c = grind (arith, common_steps)

pub returns-clause-each : goal.returns-clause-each
returns-clause-each g c = grind (arith, common_steps)
