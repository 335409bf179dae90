use Rattle.std.proofs.Common.{◌≡◌, drop}
use Rattle.pm_archive.specs.Reading.{stray_id}
use Rattle.pm_archive.proofs.listing.least_stray.Given as goal

abbrev pub invariant-loop-entry : goal.invariant-loop-entry
invariant-loop-entry l = stray_id l.from l.bound l.entries ≡ stray_id l.from l.bound (drop l.entry-index l.entries)
