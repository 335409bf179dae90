use Rattle.std.proofs.Common.{◌≡◌, Bool, true, false, Result, Ok, Err, OnOk, not, refl, sym, ◌∙◌}
use Rattle.std.proofs.lemmas.Bool.{false≢true}
use Rattle.pm_archive.specs.declared.fault.ArchiveFault.{ArchiveFault}
use Rattle.pm_verify.proofs.VerifiedLaws.{more_read}
use Rattle.pm_verify.proofs.checking.check_once.Goals as goal

on_ok : (P Q : Type 0) (r : Result (Unit {0}) ArchiveFault) → (P → Q) → OnOk r P → OnOk r Q
on_ok P Q (Ok done) f is = f is
on_ok P Q (Err fault) f is = tt

-- it isn't new, so it was there
was_there : (b : Bool) → not b ≡ false → b ≡ true
was_there true old = refl
was_there false old = absurd (false≢true (sym old))

pub returns-in-Ok-true-clause-spans : goal.returns-in-Ok-true-clause-spans
returns-in-Ok-true-clause-spans g c bytes holds lies read =
    on_ok _ _ c.check_tile.result
    (more_read bytes c.args.archive.now.header (c.args.entry.offset, c.args.entry.length) c.args.spans.now c.insert.new.self
    c.in-Ok-true.ensures.updates.0 read)
    (c.check_tile.ensures.tile bytes holds lies)

pub returns-in-Ok-false-clause-tile : goal.returns-in-Ok-false-clause-tile
returns-in-Ok-false-clause-tile g c bytes holds lies read =
    read (c.args.entry.offset, c.args.entry.length) (was_there _ (sym c.in-Ok-false.ensures.added ∙ c.in-Ok-false.field-0-test))
