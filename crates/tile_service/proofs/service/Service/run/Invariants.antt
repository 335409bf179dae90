use Rattle.std.proofs.Common.{◌≡◌, ◌≤◌, ◌++◌, List, length, true, false}
use Rattle.std.specs.List.{Contains}
use Rattle.std.specs.Vec.{vec_len, vec_capacity}
use Rattle.std.specs.Vec.Iter.{into_iter_items, into_iter_len}
use Rattle.sector_bytes.specs.Counts.{HasRisen, NeverFalls}
use Rattle.sector_disk.specs.Disk.{HasFailed}
use Rattle.tile_service.specs.Events.{AreTold, AsksTile}
use Rattle.tile_service.specs.Machine.{Happening}
use Rattle.tile_service.specs.Runs.{TakesAll}
use Rattle.tile_service.specs.declared.event.Answer.TheVariants.{Refused}
use Rattle.tile_service.specs.declared.fault.ServiceFault.TheVariants.{Device}
use Rattle.tile_service.proofs.Runs.Callers.{HasRun}
use Rattle.tile_service.proofs.service.Service.run.Given as goal

abbrev pub invariant-loop-event : goal.invariant-loop-event
invariant-loop-event g l = record {
  can_next : (goal.iterator-loop-event g).can_next l.event-iterator;
  is_finite : (goal.iterator-loop-event g).is_finite l.event-iterator;
  items : l.yielded ++ into_iter_items l.event-iterator ≡ l.fn.events.items;
  left : into_iter_len l.event-iterator ≡ length (into_iter_items l.event-iterator);
  capacity : length l.fn.events.items ≤ vec_capacity l.answers;
  len : vec_len l.answers ≡ length l.yielded;
  never_falls : NeverFalls (g.D.Sectors.faults l.initial.self.disk) (g.D.Sectors.faults l.self.disk);
  device : Contains l.answers.items (Refused Device) → HasRisen (g.D.Sectors.faults l.initial.self.disk) (g.D.Sectors.faults l.self.disk);
  broke : l.initial.self.broken ≡ false → l.self.broken ≡ true
      → HasRisen (g.D.Sectors.faults l.initial.self.disk) (g.D.Sectors.faults l.self.disk);
  faults : ¬ AsksTile l.yielded → l.self.broken ≡ false → g.D.Sectors.faults l.self.disk ≡ g.D.Sectors.faults l.initial.self.disk;
  failed : ¬ AsksTile l.yielded → l.initial.self.broken ≡ false → l.self.broken ≡ true
      → HasFailed (g.D.Sectors.faults l.initial.self.disk) (g.D.Sectors.faults l.self.disk);
  untouched : l.initial.self.broken ≡ true → (l.self.broken ≡ true) × (l.self.disk ≡ l.initial.self.disk);
  so : (happenings : List Happening) × AreTold l.initial.self.version l.yielded l.answers.items happenings
      × TakesAll g.D.Sectors.sectors g.D.Sectors.honest g.D.Sectors.history l.initial.self happenings l.self
      × HasRun g.D.Sectors.sectors g.D.Sectors.honest g.D.Sectors.history l.initial.self happenings l.self;
}
