use Rattle.tile_service.specs.Service.{IsReading, numbers_left}
use Rattle.tile_service.proofs.reading.MapReading.read_all.Given as goal

abbrev pub invariant-loop-fault : goal.invariant-loop-fault
invariant-loop-fault l = IsReading l.initial.self.area l.moment.features l.self

abbrev pub decreases-loop-fault : goal.decreases-loop-fault
decreases-loop-fault l = numbers_left l.self
