use Rattle.std.proofs.Common.{◌+◌, ◌-◌, refl, arith}
use Rattle.sector_disk.proofs.AskedLaws.{reads_none}
use Rattle.edit_journal.proofs.ReadAgain.{places_up_to}
use Rattle.edit_journal.proofs.journal.Journal.offset_of.Goals as goal

pub loop-low-init : goal.loop-low-init
loop-low-init g c = record {
  disk = reads_none c.args.disk.now;
  faults = refl;
  within = (omega arith, omega arith);
  between = λ records honest has.
      (omega arith, omega (arith, has.uses, places_up_to records (c.args.number - (c.args.self.now.edits + 1))));
}
