use Rattle.std.proofs.Common.{◌≡◌, ℕ, List, [], ◌∷◌, ◌++◌, Result, Ok}
use Rattle.std.specs.Prelude.{All, map}
use Rattle.tile_service.specs.Machine.{step}
use Rattle.tile_service.specs.Runs.{IsUnfinished, TakesAll}
use Rattle.tile_service.specs.declared.fault.ServiceFault.{ServiceFault}
use Rattle.tile_service.specs.Service.{Known, state_of, KeepsArchive, KeepsArea}
use Rattle.tile_service.proofs.Runs.Callers.{HasRun}
use Rattle.tile_service.proofs.Publications.WholePublication.{Stands}
use Rattle.tile_service.proofs.service.Service.publish_rest.Given as goal

abbrev pub invariant-loop-rest : goal.invariant-loop-rest
invariant-loop-rest g l = record {
  stands : (known : Known) × Stands (state_of known l.self) l.rest;
  faults : g.D.Sectors.faults l.self.disk ≡ g.D.Sectors.faults l.fn.self.disk;
  archive : (l.rest ≡ 0 → ⊥) → KeepsArchive g.D.Sectors.honest g.D.Sectors.history l.fn.self l.self;
  size : l.self.size ≡ l.fn.self.size;
  area : KeepsArea g.D.Sectors.honest g.D.Sectors.history l.fn.self.generation l.fn.self l.self;
  run : (before : List (Result ℕ ServiceFault)) × HasRun g.D.Sectors.sectors g.D.Sectors.honest g.D.Sectors.history l.fn.self
      (map step (before ++ Ok l.rest ∷ [])) l.self
      × TakesAll g.D.Sectors.sectors g.D.Sectors.honest g.D.Sectors.history l.fn.self (map step (before ++ Ok l.rest ∷ [])) l.self
      × All IsUnfinished before;
}

abbrev pub decreases-loop-rest : goal.decreases-loop-rest
decreases-loop-rest g l = l.rest
