-- A beginning, and the steps of its publication to its end.
use Rattle.std.proofs.Common.{◌≡◌, ℕ, ◌<◌, List, [], ◌∷◌, ◌++◌, Result, Ok}
use Rattle.std.specs.Prelude.{map}
use Rattle.std.proofs.lemmas.List.Elements.{All-cons}
use Rattle.sector_disk.specs.Disk.{History}
use Rattle.tile_service.specs.Machine.{Happening, begin, step}
use Rattle.tile_service.specs.Runs.{IsUnfinished, EndsAs, Takes, TakesPublication, TakesRest}
use Rattle.tile_service.specs.Service.{ServiceView}
use Rattle.tile_service.specs.declared.fault.ServiceFault.{ServiceFault}
use Rattle.tile_service.specs.declared.publishing_whole.Published.{Published}
use Rattle.tile_service.proofs.Runs.Callers.{HasRun, run_begins, run_on, run_on_all, takes_run}
use Rattle.tile_service.proofs.Runs.States.{takes_states}

module _ {D : Type 0} (sectors : D → ℕ) (honest : D → Type 0) (history : D → History) where
  pub whole_of : (old between new : ServiceView D) (left : ℕ) (result done : Result Published ServiceFault)
      → Takes sectors honest history old (begin (Ok left)) between → 0 < left → (rest : TakesRest sectors honest history between done new)
      → EndsAs result old new rest.last → TakesPublication sectors honest history old result new
  whole_of old between new left result done goes some rest ends =
      let steps : List Happening = map step (rest.before ++ rest.last ∷ []) in
      let run : HasRun sectors honest history old (begin (Ok left) ∷ steps) new =
      run_on_all sectors honest history old between new (begin (Ok left) ∷ []) steps
      (run_on sectors honest history old old between [] (begin (Ok left)) (run_begins sectors honest history old) goes) rest.takes in
      record {
        before = Ok left ∷ rest.before;
        unfinished = All-cons IsUnfinished (Ok left) rest.before some rest.unfinished;
        last = rest.last;
        takes = (between, goes, rest.takes);
        run = takes_run sectors honest history old (begin (Ok left) ∷ steps) new run;
        states = takes_states sectors honest history old (begin (Ok left) ∷ steps) new (between, goes, rest.takes);
        ends = ends;
      }
