-- What happens on a connection, reply by reply.
use Rattle.std.proofs.Common.{◌≡◌, ℕ, List, [], ◌∷◌, ◌++◌, Option, Result, refl, sym, ap, subst}
use Rattle.http_serve.specs.declared.connection.ServeFault.{ServeFault}
use Rattle.http_serve.specs.declared.connection.Served.{Served}
use Rattle.http_requests.specs.Requests.{RequestView}
use Rattle.http_serve.specs.Reply.{ReplyView}
use Rattle.http_serve.specs.Told.{IsServed, IsServedUpTo}
use Rattle.sector_disk.specs.Disk.{History}
use Rattle.tile_service.specs.Machine.{Happening}
use Rattle.tile_service.specs.Runs.{TakesAll, TakesRun, TakesStates}
use Rattle.tile_service.specs.Service.{ServiceView}
use Rattle.tile_service.proofs.Runs.Callers.{takes_run}
use Rattle.tile_service.proofs.Runs.States.{takes_states}
use Rattle.map_replies.specs.declared.service.MapReplies.{MapReplies}
use Rattle.tile_service.specs.Service.{status_of, status_view}
use Rattle.map_replies.specs.Meanings.{Means, DiskFailed}
use Rattle.map_replies.specs.State.{access_of, tags_of, settings_of, asked_service, KeepsArchivesOn, ServiceReplies, ServiceFails}
use Rattle.map_replies.specs.State.{Course, course, Tells, TellsCut}
use Rattle.map_replies.specs.Tickets.{KeepsTickets}
use Rattle.map_replies.proofs.Passing.{Passes, passes_none, passes_all}
use Rattle.map_replies.proofs.Along.{served_along, fault_along}

module _ {D : Type 0} (sectors : D → ℕ) (honest : D → Type 0) (history : D → History) (faults : D → ℕ) where
  -- from the first state on, the service has reached this state by this run
  abbrev pub GoesAlong : (first now : MapReplies D) → Course D → Type 0
  GoesAlong first now so = (so ≡ course now so.run) × Passes sectors honest history (asked_service first) so.run (asked_service now)

  pub goes_from : (first : MapReplies D) → GoesAlong first first (course first [])
  goes_from first = (refl, passes_none sectors honest history (asked_service first))

  -- one more reply
  pub replied : (first old : MapReplies D) (so : Course D) (request : RequestView) (reply : ReplyView) (new : MapReplies D)
      → GoesAlong first old so → ServiceReplies sectors honest history faults old request reply new
      → (more : Course D) × Tells sectors honest history faults so request reply more × GoesAlong first new more
  replied first old so request reply new along is =
      let here : so.replies ≡ old = ap (λ (c : Course D). c.replies) along.0 in (
        course new (so.run ++ is.0.0),
        (
          is.0.0,
          subst (λ (s : MapReplies D). Means (access_of s) (tags_of s) (DiskFailed faults (asked_service s) (asked_service new))
              (status_of (asked_service s)) (status_view (asked_service new)) request reply is.0.0) (sym here) is.0.1,
          subst (λ (s : MapReplies D). TakesAll sectors honest history (asked_service s) is.0.0 (asked_service new)) (sym here) is.0.2,
          refl,
          subst (λ (s : MapReplies D). settings_of new ≡ settings_of s) (sym here) is.1,
          subst (λ (s : MapReplies D). KeepsTickets honest history s.calls new.calls) (sym here) is.2,
          subst (λ (s : MapReplies D). KeepsArchivesOn s request reply new) (sym here) is.3,
        ),
        (refl, passes_all sectors honest history (asked_service first) (asked_service old) (asked_service new) so.run is.0.0 along.1 is.0.2),
      )

  -- one reply that was cut short because the disk failed
  pub cut : (first old : MapReplies D) (so : Course D) (request : RequestView) (reply : ReplyView) (new : MapReplies D)
      → GoesAlong first old so → ServiceFails sectors honest history faults old request reply new
      → (more : Course D) × TellsCut sectors honest history faults so request reply more × GoesAlong first new more
  cut first old so request reply new along is =
      let one = replied first old so request reply new along is.0 in
      let here : old ≡ so.replies = sym (ap (λ (c : Course D). c.replies) along.0) in
      let there : new ≡ one.0.replies = sym (ap (λ (c : Course D). c.replies) one.2.0) in (
        one.0,
        (
          one.1,
          subst (λ (s : MapReplies D). DiskFailed faults (asked_service so.replies) (asked_service s)) there
              (subst (λ (s : MapReplies D). DiskFailed faults (asked_service s) (asked_service new)) here is.1),
        ),
        one.2,
      )

  -- ---- a connection whose contents are read by its replies alone

  -- happenings after others
  all_on : (old now new : ServiceView D) (events more : List Happening) → TakesAll sectors honest history old events now
      → TakesAll sectors honest history now more new → TakesAll sectors honest history old (events ++ more) new
  all_on old now new [] more so goes = subst (λ (s : ServiceView D). TakesAll sectors honest history s more new) so goes
  all_on old now new (event ∷ events) more so goes = (so.0, so.1, all_on so.0 now new events more so.2 goes)

  -- nothing but the calls of the run touched the service
  abbrev GoesWhole : (first now : MapReplies D) → Course D → Type 0
  GoesWhole first now so = GoesAlong first now so × TakesAll sectors honest history (asked_service first) so.run (asked_service now)

  whole_from : (first : MapReplies D) → GoesWhole first first (course first [])
  whole_from first = (goes_from first, refl)

  whole_on : (first old : MapReplies D) (so more : Course D) (request : RequestView) (reply : ReplyView) (new : MapReplies D)
      → GoesWhole first old so → Tells sectors honest history faults so request reply more → GoesAlong first new more → GoesWhole first new more
  whole_on first old so more request reply new along tells goes =
      let here : so.replies ≡ old = ap (λ (c : Course D). c.replies) along.0.0 in
      let there : more.replies ≡ new = ap (λ (c : Course D). c.replies) goes.0 in
      let taken : TakesAll sectors honest history (asked_service old) tells.0 (asked_service new) =
      subst (λ (s : MapReplies D). TakesAll sectors honest history (asked_service old) tells.0 (asked_service s)) there
      (subst (λ (s : MapReplies D). TakesAll sectors honest history (asked_service s) tells.0 (asked_service more.replies)) here tells.2) in (
        goes,
        subst (λ (l : List Happening). TakesAll sectors honest history (asked_service first) l (asked_service new)) (sym tells.3)
            (all_on (asked_service first) (asked_service old) (asked_service new) so.run tells.0 along.1 taken),
      )

  whole_replied : (first old : MapReplies D) (so : Course D) (request : RequestView) (reply : ReplyView) (new : MapReplies D)
      → GoesWhole first old so → ServiceReplies sectors honest history faults old request reply new
      → (more : Course D) × Tells sectors honest history faults so request reply more × GoesWhole first new more
  whole_replied first old so request reply new along is = let one = replied first old so request reply new along.0 is in
      (one.0, one.1, whole_on first old so one.0 request reply new along one.1 one.2)

  whole_cut : (first old : MapReplies D) (so : Course D) (request : RequestView) (reply : ReplyView) (new : MapReplies D)
      → GoesWhole first old so → ServiceFails sectors honest history faults old request reply new
      → (more : Course D) × TellsCut sectors honest history faults so request reply more × GoesWhole first new more
  whole_cut first old so request reply new along is = let one = cut first old so request reply new along.0 is in
      (one.0, one.1, whole_on first old so one.0 request reply new along one.1.0 one.2)

  -- The replies of a connection that was served report a run of the service.
  pub connection_runs : (old : MapReplies D) (remains held : Option (List ℕ)) (served : Served) (new : MapReplies D) (leaves holds : Option (List ℕ))
      → IsServed (ServiceReplies sectors honest history faults) old remains held served new leaves holds
      → (run : List Happening) × IsServed (Tells sectors honest history faults) (course old []) remains held served (course new run) leaves holds
      × TakesRun sectors honest history (asked_service old) run (asked_service new)
      × TakesStates sectors honest history (asked_service old) run (asked_service new)
  connection_runs old remains held served new leaves holds is =
      let along = served_along (ServiceReplies sectors honest history faults) (Tells sectors honest history faults) (GoesWhole old) (whole_replied old) old
      remains held served new leaves holds (course old []) (whole_from old) is in (
        along.0.run,
        subst (λ (c : Course D). IsServed (Tells sectors honest history faults) (course old []) remains held served c leaves holds) along.2.0.0 along.1,
        takes_run sectors honest history (asked_service old) along.0.run (asked_service new) along.2.0.1.run,
        takes_states sectors honest history (asked_service old) along.0.run (asked_service new) along.2.1,
      )

  -- So do the replies of a connection that a fault ended.
  pub ended_connection_runs : (old : MapReplies D) (remains held : Option (List ℕ)) (fault : ServeFault) (new : MapReplies D) (leaves holds : Option (List ℕ))
      → IsServedUpTo (ServiceReplies sectors honest history faults) (ServiceFails sectors honest history faults) old remains held fault new leaves holds
      → (run : List Happening)
      × IsServedUpTo (Tells sectors honest history faults) (TellsCut sectors honest history faults) (course old []) remains held fault (course new run)
      leaves holds
      × TakesRun sectors honest history (asked_service old) run (asked_service new)
      × TakesStates sectors honest history (asked_service old) run (asked_service new)
  ended_connection_runs old remains held fault new leaves holds is =
      let along = fault_along (ServiceReplies sectors honest history faults) (ServiceFails sectors honest history faults)
      (Tells sectors honest history faults) (TellsCut sectors honest history faults) (GoesWhole old) (whole_replied old) (whole_cut old) old remains held fault
      new leaves holds (course old []) (whole_from old) is in (
        along.0.run,
        subst (λ (c : Course D). IsServedUpTo (Tells sectors honest history faults) (TellsCut sectors honest history faults) (course old []) remains held
            fault c leaves holds) along.2.0.0 along.1,
        takes_run sectors honest history (asked_service old) along.0.run (asked_service new) along.2.0.1.run,
        takes_states sectors honest history (asked_service old) along.0.run (asked_service new) along.2.1,
      )
