-- What happens in stretches of connections, in reads of downloads and in preparations of a publication, one after the other.
use Rattle.std.proofs.Common.{ℕ, List, [], ◌∷◌, Option, None, Some, Ok, Err, Result, refl, sym, subst}
use Rattle.std.specs.declared.alloc.AllocError.{AllocError}
use Rattle.http_requests.specs.Requests.{request_view}
use Rattle.http_serve.specs.declared.answers.Rest.{Rest}
use Rattle.http_serve.specs.declared.connection.Answer.{Answer}
use Rattle.http_serve.specs.declared.connection.Served.{Served}
use Rattle.http_listen.specs.Connections.{Stretch, Event, at_stretch, at_part, at_preparation, IsAnswered, CameTo, Happens, Serves}
use Rattle.http_listen.specs.Conversations.{Deed, Runs}
use Rattle.http_listen.specs.Deeds.{AreEventsOf}
use Rattle.http_listen.proofs.DeedLemmas.{deeds_serve}
use Rattle.map_replies.proofs.Along.{served_along, part_along}
use Rattle.map_replies.proofs.Goes.{passes_goes}
use Rattle.map_replies.proofs.Meanwhiles.{GoesMeanwhile, goes_from, replied, read_told, prepared_told}
use Rattle.map_replies.proofs.Passing.{Passes, passes_none, takes_between}
use Rattle.service_laws.specs.Moments.{TakesBetweenReads}
use Rattle.map_replies.specs.Preparing.{PreparingReplied, PreparingReads, PreparesFor, Meanwhile, meanwhile}
use Rattle.map_replies.specs.Preparing.{inner_service, inner_ticket, without_draft}
use Rattle.map_replies.specs.Preparing.{TellsMeanwhile, TellsMeanwhileRead, TellsPreparedFor}
use Rattle.map_replies.specs.declared.preparing.PreparingReplies.{PreparingReplies}
use Rattle.sector_disk.specs.Disk.{History}
use Rattle.tile_service.proofs.Runs.Callers.{takes_run}
use Rattle.tile_service.specs.Machine.{Happening}
use Rattle.tile_service.specs.Runs.{TakesRun}

module _ {D : Type 0} (sectors : D → ℕ) (honest : D → Type 0) (history : D → History) (faults : D → ℕ) where
  -- the events that a service answers, and those that report what happens to it
  abbrev pub ServiceServes : PreparingReplies D → List Event → PreparingReplies D → Type 0
  ServiceServes = Serves (PreparingReplied sectors honest history faults)
      (PreparingReads sectors honest history faults) (PreparesFor sectors honest history faults)

  abbrev pub TellsAll : Meanwhile D → List Event → Meanwhile D → Type 0
  TellsAll = Serves (TellsMeanwhile sectors honest history faults)
      (TellsMeanwhileRead sectors honest history faults) (TellsPreparedFor sectors honest history faults)

  -- since a first state
  module _ (first : PreparingReplies D) where
    -- the service has come to this state, and this has happened
    abbrev Along : PreparingReplies D → Meanwhile D → Type 0
    Along now so = GoesMeanwhile sectors honest history faults first now so

    answered_along : (served : Served) (rest : Option Rest) (stretch : Stretch) (old new : PreparingReplies D) (before : Meanwhile D) → Along old before
        → IsAnswered (PreparingReplied sectors honest history faults) served rest old stretch new
        → (after : Meanwhile D) × IsAnswered (TellsMeanwhile sectors honest history faults) served rest before stretch after × Along new after
    answered_along served None stretch old new before so is = served_along
        (PreparingReplied sectors honest history faults) (TellsMeanwhile sectors honest history faults) Along
        (replied sectors honest history faults first)
        old stretch.left stretch.held served new stretch.leaves stretch.holds before so is
    answered_along served (Some rest) stretch old new before so is =
        let part = part_along (PreparingReplied sectors honest history faults) (TellsMeanwhile sectors honest history faults) Along
        (replied sectors honest history faults first)
        old stretch.left stretch.held 0 new stretch.leaves stretch.holds before so is.2 in
        (part.0, (is.0, is.1, part.1), part.2)

    -- one stretch more
    came_along : (result : Result Answer AllocError) (stretch : Stretch) (old new : PreparingReplies D) (before : Meanwhile D) → Along old before
        → CameTo (PreparingReplied sectors honest history faults) result old stretch new
        → (after : Meanwhile D) × CameTo (TellsMeanwhile sectors honest history faults) result before stretch after × Along new after
    came_along (Ok answer) stretch old new before so is = answered_along answer.served answer.rest stretch old new before so is
    came_along (Err fault) stretch old new before so is =
        (before, (refl, is.1, is.2), subst (λ (s : PreparingReplies D). Along s before) (sym is.0) so)

    -- one event more
    event_along : (event : Event) (old new : PreparingReplies D) (before : Meanwhile D) → Along old before
        → Happens (PreparingReplied sectors honest history faults)
        (PreparingReads sectors honest history faults) (PreparesFor sectors honest history faults) old event new
        → (after : Meanwhile D) × Happens (TellsMeanwhile sectors honest history faults)
        (TellsMeanwhileRead sectors honest history faults) (TellsPreparedFor sectors honest history faults) before event after × Along new after
    event_along (at_stretch s) old new before so is = came_along s.result s old new before so is
    event_along (at_part ticket offset count outcome) old new before so is =
        read_told sectors honest history faults first old before ticket offset count outcome new so is
    event_along (at_preparation connection asked) old new before so is =
        let told = prepared_told sectors honest history faults first old before connection (request_view is.0) new so is.2 in
        (told.0, (is.0, is.1, told.1), told.2)

    all_along : (served : List Event) (old new : PreparingReplies D) (before : Meanwhile D) → Along old before
        → ServiceServes old served new → (after : Meanwhile D) × TellsAll before served after × Along new after
    all_along [] old new before so is = (before, refl, subst (λ (s : PreparingReplies D). Along s before) (sym is) so)
    all_along (event ∷ served) old new before so is =
        let one = event_along event old is.0 before so is.1 in
        let others = all_along served is.0 new one.0 one.2 is.2 in
        (others.0, (one.0, one.1, others.1), others.2)

  -- The replies of stretches that were served report one run of the service.
  pub stretches_run : (old : PreparingReplies D) (served : List Event) (new : PreparingReplies D) → ServiceServes (without_draft old) served new
      → (run : List Happening) × (fixed : Option ℕ)
      × TellsAll (meanwhile (without_draft old) [] None) served (meanwhile new run fixed)
      × TakesRun sectors honest history (inner_service old) run (inner_service new)
      × TakesBetweenReads sectors honest history (inner_service old) run (inner_service new)
  stretches_run old served new is =
      let along = all_along old served (without_draft old) new (meanwhile (without_draft old) [] None)
      (goes_from sectors honest history faults old) is in
      let passes : Passes sectors honest history (inner_service old) along.0.run (inner_service new) =
      passes_goes sectors honest history (inner_service old) (inner_service old) (inner_service new) [] along.0.run
      (passes_none sectors honest history (inner_service old)) along.2.goes in (
        along.0.run,
        along.0.fixed,
        subst (λ (m : Meanwhile D). TellsAll (meanwhile (without_draft old) [] None) served m) along.2.here along.1,
        takes_run sectors honest history (inner_service old) along.0.run (inner_service new) passes.run,
        takes_between sectors honest history (inner_service old) along.0.run (inner_service new) passes,
      )

  -- what was done for connections of a service
  abbrev pub ServiceRuns : PreparingReplies D → List Deed → PreparingReplies D → Type 0
  ServiceRuns = Runs (PreparingReplied sectors honest history faults)
      (PreparingReads sectors honest history faults) inner_ticket (PreparesFor sectors honest history faults)

  -- It reports one run of the service.
  pub deeds_run : (old : PreparingReplies D) (deeds : List Deed) (new : PreparingReplies D) → ServiceRuns (without_draft old) deeds new
      → (served : List Event) × AreEventsOf deeds served × (run : List Happening) × (fixed : Option ℕ)
      × TellsAll (meanwhile (without_draft old) [] None) served (meanwhile new run fixed)
      × TakesRun sectors honest history (inner_service old) run (inner_service new)
      × TakesBetweenReads sectors honest history (inner_service old) run (inner_service new)
  deeds_run old deeds new is =
      let all = deeds_serve (PreparingReplied sectors honest history faults)
      (PreparingReads sectors honest history faults) inner_ticket (PreparesFor sectors honest history faults) deeds (without_draft old) new is in
      let told = stretches_run old all.0 new all.1 in
      (all.0, all.2, told.0, told.1, told.2, told.3, told.4)
